-- The verdict from the maps that are followed around the cycle once: p rounds read from a tree of the cycle lead back to it, and
-- its nodes that kept their names all along and were accepting once are the witnesses. The lowest numbered is the first.
use mathlib.Core.Path.{◌≡◌, refl, sym, ◌∙◌, ap}
use mathlib.Core.Logic.{◌⊎◌, inl, inr, ⊎_elim, ◌↔◌}
use mathlib.Core.Bool.{Bool, true, false, ◌&&◌, ◌||◌}
use mathlib.Core.List.{List, [], ◌∷◌}
use Prim.Native.Nat.{ℕ, zero, suc, ◌+◌, ◌*◌, ◌≤◌, ◌<◌}
use native.Mathlib.Omega.{arith}
use native.Mathlib.Decide.{ℕ_discrete}
use borrow.Author.Tests.{lt-ltb, ltb-true}
use lib.Dec.{ltb}
use lib.ListN.{length, get_or, take}
use Rattle.base.specs.BitSet.{member}
use Rattle.base.proofs.Logic.{clash, and_both, and_in, or_l, or_r, or_in}
use Rattle.base.proofs.BitSet.{member_none}
use Rattle.rule.specs.Rule.{Rule}
use Rattle.rule.specs.WellFormed.{WellFormed}
use Rattle.word.specs.Walk.{rounds}
use Rattle.history.specs.Forest.{size, names}
use Rattle.history.specs.Tree.{Tree}
use Rattle.history.specs.Letter.{next_tree, accepting, stable, by_number}
use Rattle.history.specs.Rounds.{read_letters, round_tree, tree_in_round, FirstRepeat}
use Rattle.history.specs.Verdict.{LetterPlace, Witness, FirstWitness}
use Rattle.history.specs.Inner.Following.{stable_through, accepting_once, witness_map}
use Rattle.history.proofs.Step.TreesOf.{of_root}
use Rattle.history.proofs.Names.NamesDistinct.{length_names}
use Rattle.history.proofs.Walk.TreesOfWalk.{read_append, round_next, round_periodic}
use Rattle.history.proofs.Repeat.RepeatExists.{round_is_tree}
use Rattle.history.proofs.Verdict.AnyRounds.{any_rounds, any_rounds_first}
use Rattle.history.proofs.Verdict.FirstWitness.{witness_node, lowest_first}
use Rattle.history.proofs.Verdict.FollowingLaws.{stable_append, accepting_append, member_by}

-- LETTER BY LETTER

module _ (R : Rule) (p : List ℕ) where
  -- stable at every letter, accepting at one
  through_out : (T : Tree) (w : List ℕ) → stable_through R T w p ≡ true
      → (i : ℕ) → i < length w → stable R (get_or w i 0) (read_letters R (take i w) T) p ≡ true
  unfolding stable_through read_letters
  through_out T [] h i l = absurd (omega arith)
  through_out T (a ∷ w) h zero l = (and_in (stable R a T p) _ h).0
  through_out T (a ∷ w) h (suc i) l = through_out (next_tree R a T) w (and_in (stable R a T p) _ h).1 i (omega arith)

  through_in : (T : Tree) (w : List ℕ) → ((i : ℕ) → i < length w → stable R (get_or w i 0) (read_letters R (take i w) T) p ≡ true)
      → stable_through R T w p ≡ true
  unfolding stable_through read_letters
  through_in T [] h = refl
  through_in T (a ∷ w) h =
      and_both (stable R a T p) _ (h 0 (omega arith)) (through_in (next_tree R a T) w (λ i l. h (suc i) (omega arith)))

  once_out : (T : Tree) (w : List ℕ) → accepting_once R T w p ≡ true
      → (i : ℕ) × (i < length w) × (accepting R (get_or w i 0) (read_letters R (take i w) T) p ≡ true)
  unfolding accepting_once read_letters
  once_out T [] h = clash refl h
  once_out T (a ∷ w) h = ⊎_elim (λ t. (0, omega arith, t))
      (λ t. let (i, l, e) = once_out (next_tree R a T) w t in (suc i, omega arith, e)) (or_in (accepting R a T p) _ h)

  once_in : (T : Tree) (w : List ℕ) (i : ℕ) → i < length w → accepting R (get_or w i 0) (read_letters R (take i w) T) p ≡ true
      → accepting_once R T w p ≡ true
  unfolding accepting_once read_letters
  once_in T [] i l h = absurd (omega arith)
  once_in T (a ∷ w) zero l h = or_l (accepting R a T p) _ h
  once_in T (a ∷ w) (suc i) l h = or_r (accepting R a T p) _ (once_in (next_tree R a T) w i (omega arith) h)

-- ROUND BY ROUND

-- a letter of the first of some rounds, or of those behind it
first_place : (v : List ℕ) (m r i : ℕ) → i < length v → LetterPlace v r (suc m) r i
first_place v m r i l = record { from = omega arith; upto = omega arith; within = l }

later_place : {v : List ℕ} {m r s i : ℕ} → LetterPlace v (suc r) m s i → LetterPlace v r (suc m) s i
later_place l = record { from = omega (arith, l.from); upto = omega (arith, l.upto); within = l.within }

place_cases : {v : List ℕ} {m r s i : ℕ} → LetterPlace v r (suc m) s i → (r ≡ s) ⊎ LetterPlace v (suc r) m s i
place_cases {v} {m} {r} {s} {i} l = go (ℕ_discrete r s)
  where
    go : Dec (r ≡ s) → (r ≡ s) ⊎ LetterPlace v (suc r) m s i
    go (yes e) = inl e
    go (no e) = inr (record { from = omega (arith, l.from); upto = omega (arith, l.upto); within = l.within })

module _ (R : Rule) (u v p : List ℕ) where
  -- one round, and those behind it
  stable_split : (m r : ℕ) → stable_through R (round_tree R u v r) (rounds (suc m) v) p
      ≡ (stable_through R (round_tree R u v r) v p && stable_through R (round_tree R u v (suc r)) (rounds m v) p)
  unfolding rounds
  stable_split m r = rw (round_next R u v r) (stable_append R (round_tree R u v r) v (rounds m v) p)

  accepting_split : (m r : ℕ) → accepting_once R (round_tree R u v r) (rounds (suc m) v) p
      ≡ (accepting_once R (round_tree R u v r) v p || accepting_once R (round_tree R u v (suc r)) (rounds m v) p)
  unfolding rounds
  accepting_split m r = rw (round_next R u v r) (accepting_append R (round_tree R u v r) v (rounds m v) p)

  -- stable at every letter of m rounds from t(r) on, accepting at one
  rounds_through_out : (m r : ℕ) → stable_through R (round_tree R u v r) (rounds m v) p ≡ true
      → (s i : ℕ) → LetterPlace v r m s i → stable R (get_or v i 0) (tree_in_round R u v s i) p ≡ true
  unfolding tree_in_round
  rounds_through_out zero r h s i l = absurd (omega (arith, l.from, l.upto))
  rounds_through_out (suc m) r h s i l =
      let (own, later) = and_in (stable_through R (round_tree R u v r) v p) _ (sym (stable_split m r) ∙ h) in
      ⊎_elim (λ e. rw (← e) (through_out R p (round_tree R u v r) v own i l.within))
      (rounds_through_out m (suc r) later s i) (place_cases l)

  rounds_through_in : (m r : ℕ) → ((s i : ℕ) → LetterPlace v r m s i → stable R (get_or v i 0) (tree_in_round R u v s i) p ≡ true)
      → stable_through R (round_tree R u v r) (rounds m v) p ≡ true
  unfolding tree_in_round rounds stable_through
  rounds_through_in zero r h = refl
  rounds_through_in (suc m) r h = stable_split m r ∙ and_both (stable_through R (round_tree R u v r) v p) _
      (through_in R p (round_tree R u v r) v (λ i l. h r i (first_place v m r i l)))
      (rounds_through_in m (suc r) (λ s i l. h s i (later_place l)))

  rounds_once_out : (m r : ℕ) → accepting_once R (round_tree R u v r) (rounds m v) p ≡ true
      → (s : ℕ) × (i : ℕ) × LetterPlace v r m s i × (accepting R (get_or v i 0) (tree_in_round R u v s i) p ≡ true)
  unfolding tree_in_round rounds accepting_once
  rounds_once_out zero r h = clash refl h
  rounds_once_out (suc m) r h = ⊎_elim
      (λ t. let (i, l, e) = once_out R p (round_tree R u v r) v t in (r, i, first_place v m r i l, e))
      (λ t. let (s, i, l, e) = rounds_once_out m (suc r) t in (s, i, later_place l, e))
      (or_in (accepting_once R (round_tree R u v r) v p) _ (sym (accepting_split m r) ∙ h))

  rounds_once_in : (m r s i : ℕ) → LetterPlace v r m s i → accepting R (get_or v i 0) (tree_in_round R u v s i) p ≡ true
      → accepting_once R (round_tree R u v r) (rounds m v) p ≡ true
  unfolding tree_in_round
  rounds_once_in zero r s i l h = absurd (omega (arith, l.from, l.upto))
  rounds_once_in (suc m) r s i l h = accepting_split m r ∙ ⊎_elim
      (λ e. or_l (accepting_once R (round_tree R u v r) v p) _ (once_in R p (round_tree R u v r) v i l.within (rw (← e) at h)))
      (λ k. or_r (accepting_once R (round_tree R u v r) v p) _ (rounds_once_in m (suc r) s i k h)) (place_cases l)

  -- so a witness of these rounds is a name that is stable through all their letters and accepting at one
  pub witness_through : (m r : ℕ) → Witness R u v r m p
      ↔ (stable_through R (round_tree R u v r) (rounds m v) p ≡ true) × (accepting_once R (round_tree R u v r) (rounds m v) p ≡ true)
  witness_through m r = (
    λ W. (rounds_through_in m r W.stays, rounds_once_in m r W.round W.place W.there W.accepts),
    λ (stays, once). let (s, i, there, accepts) = rounds_once_out m r once in
        record { stays = rounds_through_out m r stays; round = s; place = i; there = there; accepts = accepts },
  )

-- m rounds lead from t(r) to t(r + m)
pub read_rounds : (R : Rule) (u v : List ℕ) (m r : ℕ) → read_letters R (rounds m v) (round_tree R u v r) ≡ round_tree R u v (r + m)
unfolding rounds read_letters
read_rounds R u v zero r = ap (round_tree R u v) (omega arith)
read_rounds R u v (suc m) r =
    read_append R v (rounds m v) (round_tree R u v r) ∙ ap (read_letters R (rounds m v)) (sym (round_next R u v r))
    ∙ read_rounds R u v m (suc r) ∙ ap (round_tree R u v) (omega arith)

-- ONCE AROUND THE CYCLE

module _ (R : Rule) (u v : List ℕ) (entry period : ℕ) (F : FirstRepeat (round_tree R u v) entry period)
    (start : ℕ) (late : entry ≤ start) where
  -- p rounds from a tree of the cycle lead back to it
  pub cycle_back : read_letters R (rounds period v) (round_tree R u v start) ≡ round_tree R u v start
  cycle_back =
      let e : start + 1 * period ≡ start + period = omega arith in
      read_rounds R u v period start ∙ sym (rw e at (round_periodic R u v entry period F 1 start late))

  -- the members of the map are the nodes that kept their names and were accepting once
  member_followed : (j : ℕ) → member (witness_map R (round_tree R u v start) (rounds period v)) j ≡ (ltb j (size (round_tree R u v start))
      && (stable_through R (round_tree R u v start) (rounds period v) (get_or (names (round_tree R u v start)) j [])
      && accepting_once R (round_tree R u v start) (rounds period v) (get_or (names (round_tree R u v start)) j [])))
  unfolding witness_map
  member_followed j =
      let T = round_tree R u v start in
      let f : List ℕ → Bool = λ w. stable_through R T (rounds period v) w && accepting_once R T (rounds period v) w in
      ap (λ (X : Tree). member (by_number f X) j) cycle_back ∙ member_by T f j

  pub member_node : (j : ℕ) → member (witness_map R (round_tree R u v start) (rounds period v)) j ≡ true → j < size (round_tree R u v start)
  member_node j m = ltb-true j _ (and_in (ltb j (size (round_tree R u v start))) _ (sym (member_followed j) ∙ m)).0

  -- and these are the witnesses
  pub member_witness : (j : ℕ) → j < size (round_tree R u v start)
      → member (witness_map R (round_tree R u v start) (rounds period v)) j ≡ true
      ↔ Witness R u v start period (get_or (names (round_tree R u v start)) j [])
  member_witness j h = (
    λ m. (witness_through R u v w period start).1 (and_in (stable_through R (round_tree R u v start) (rounds period v) w) _
        (and_in (ltb j (size (round_tree R u v start))) _ (sym (member_followed j) ∙ m)).1),
    λ W. let (stays, once) = (witness_through R u v w period start).0 W in
        member_followed j ∙ and_both (ltb j (size (round_tree R u v start))) _ (lt-ltb j _ h)
        (and_both (stable_through R (round_tree R u v start) (rounds period v) w) _ stays once),
  )
    where
      w : List ℕ
      w = get_or (names (round_tree R u v start)) j []

  module _ (well : WellFormed R) (sets : 1 ≤ R.sets) where
    -- the numbers of the nodes are those below their count
    all_named : length (names (round_tree R u v start)) ≡ size (round_tree R u v start)
    all_named = length_names _ (of_root R _ (round_is_tree R well sets u v start))

    -- the lowest member is the first witness
    pub verdict_yes : (j : ℕ) → j < size (round_tree R u v start)
        → member (witness_map R (round_tree R u v start) (rounds period v)) j ≡ true
        → ((i : ℕ) → i < j → member (witness_map R (round_tree R u v start) (rounds period v)) i ≡ false)
        → FirstWitness R u v entry period (get_or (names (round_tree R u v start)) j [])
    verdict_yes j h m lowest =
        let W = (member_witness j h).0 m in
        (any_rounds_first R u v entry period F start late _).1
        (lowest_first R u v start period (omega (arith, W.there.within)) F.positive j (omega (arith, all_named)) W
        (λ i l W'. clash (lowest i l) ((member_witness i (omega arith)).1 W')))

    -- without members there is none
    pub verdict_no : witness_map R (round_tree R u v start) (rounds period v) ≡ 0 → (w : List ℕ) → Witness R u v entry period w → ⊥
    verdict_no none w W =
        let W' = (any_rounds R u v entry period F start late w).0 W in
        let (i, l, e) = witness_node R u v start period (omega (arith, W'.there.within)) F.positive w W' in
        clash (member_none i) (rw none at ((member_witness i (omega (arith, all_named))).1 (rw e W')))
