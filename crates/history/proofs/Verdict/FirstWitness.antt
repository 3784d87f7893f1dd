-- The node that the tree judge names. A witness is the name of a node of t(e), so there are finitely many to try, and
-- each can be tried; node numbers grow in dictionary order, so the lowest numbered witness is the first in dictionary
-- order. If there is a witness there is a first one, and one only.
use mathlib.Core.Path.{◌≡◌, sym, ap, ◌∙◌}
use mathlib.Core.Logic.{◌⊎◌, inl, inr, ⊎_elim}
use mathlib.Core.Bool.{Bool, true, not, ◌&&◌, Bool-discrete}
use mathlib.Core.List.{List, []}
use Prim.Native.Nat.{ℕ, ◌+◌, ◌-◌, ◌≤◌, ◌<◌}
use native.Mathlib.Omega.{arith}
use native.Mathlib.Decide.{dec_lt, ℕ_discrete, map_dec}
use lib.ListN.{length, get_or}
use Rattle.base.specs.BitSet.{some}
use Rattle.base.proofs.Logic.{look, clash, never, and_both, and_in, not_out, not_in}
use Rattle.base.proofs.BitSet.{some_in, some_out}
use Rattle.rule.specs.Rule.{Rule}
use Rattle.history.specs.Forest.{names}
use Rattle.history.specs.Tree.{Tree}
use Rattle.history.specs.Letter.{stable, accepting}
use Rattle.history.specs.Rounds.{round_tree, tree_in_round}
use Rattle.history.specs.Verdict.{LetterPlace, Witness, Before, FirstWitness}
use Rattle.history.proofs.Names.Origins.{stable_old}
use Rattle.history.proofs.Repeat.FirstRepeats.{first_below}
use Rattle.history.proofs.Walk.TreesOfWalk.{in_round_zero}
use Rattle.history.proofs.Names.NameOrder.{before_asym, before_total, names_ascend}

module _ (R : Rule) (u v : List ℕ) (entry period : ℕ) where
  -- A WITNESS CAN BE TRIED

  -- is there a letter of rounds e+1 to e+p with a property?
  some_letter : (ℕ → ℕ → Bool) → Bool
  some_letter f = some period (λ r. some (length v) (f (entry + r)))

  letter_in : (f : ℕ → ℕ → Bool) (r i : ℕ) → LetterPlace v entry period r i → f r i ≡ true → some_letter f ≡ true
  unfolding some_letter
  letter_in f r i l h =
      let e : entry + (r - entry) ≡ r = omega (arith, l.from) in
      some_in period _ (r - entry) (omega (arith, l.from, l.upto)) (some_in (length v) _ i l.within (rw e h))

  letter_out : (f : ℕ → ℕ → Bool) → some_letter f ≡ true → (r : ℕ) × (i : ℕ) × LetterPlace v entry period r i × (f r i ≡ true)
  unfolding some_letter
  letter_out f h =
      let (r, l, k) = some_out period (λ r. some (length v) (f (entry + r))) h in
      let (i, m, e) = some_out (length v) (f (entry + r)) k in
      (entry + r, i, record { from = omega arith; upto = omega arith; within = m }, e)

  -- the test: at no letter not stable, and at some letter accepting
  unstable_at : List ℕ → ℕ → ℕ → Bool
  unstable_at w r i = not (stable R (get_or v i 0) (tree_in_round R u v r i) w)

  accepting_at : List ℕ → ℕ → ℕ → Bool
  accepting_at w r i = accepting R (get_or v i 0) (tree_in_round R u v r i) w

  unfoldable pub witness_test : List ℕ → Bool
  unfolding some_letter unstable_at accepting_at
  witness_test w = not (some_letter (unstable_at w)) && some_letter (accepting_at w)

  pub test_witness : (w : List ℕ) → witness_test w ≡ true → Witness R u v entry period w
  unfolding witness_test
  test_witness w h =
      let (calm, acc) = and_in (not (some_letter (unstable_at w))) _ h in
      let (r, i, l, e) = letter_out (accepting_at w) acc in
      record {
        stays = λ r i l. ⊎_elim (λ t. t) (λ f. clash (not_in _ calm) (letter_in (unstable_at w) r i l (not_out _ f)))
            (look (stable R (get_or v i 0) (tree_in_round R u v r i) w));
        round = r;
        place = i;
        there = l;
        accepts = e;
      }

  pub witness_test_lem : (w : List ℕ) → Witness R u v entry period w → witness_test w ≡ true
  unfolding witness_test
  witness_test_lem w W =
      and_both (not (some_letter (unstable_at w))) _
      (not_out _ (never _ (λ h. let (r, i, l, e) = letter_out (unstable_at w) h in clash (not_in _ e) (W.stays r i l))))
      (letter_in (accepting_at w) W.round W.place W.there W.accepts)

  pub witness? : (w : List ℕ) → Dec (Witness R u v entry period w)
  witness? w = map_dec (test_witness w) (witness_test_lem w) (Bool-discrete (witness_test w) true)

  module _ (filled : 1 ≤ length v) (positive : 1 ≤ period) where
    -- A WITNESS IS A NODE

    -- of t(e)
    pub witness_node : (w : List ℕ) → Witness R u v entry period w
        → (i : ℕ) × (i < length (names (round_tree R u v entry))) × (get_or (names (round_tree R u v entry)) i [] ≡ w)
    witness_node w W =
        stable_old R (get_or v 0 0) (round_tree R u v entry) w
        (rw (in_round_zero R u v entry) at (W.stays entry 0 (record { from = omega arith; upto = omega arith; within = filled })))

    -- THE FIRST WITNESS

    -- the lowest numbered witness is the first
    pub lowest_first : (i : ℕ) → i < length (names (round_tree R u v entry))
        → Witness R u v entry period (get_or (names (round_tree R u v entry)) i [])
        → ((j : ℕ) → j < i → Witness R u v entry period (get_or (names (round_tree R u v entry)) j []) → ⊥)
        → FirstWitness R u v entry period (get_or (names (round_tree R u v entry)) i [])
    lowest_first i h W lowest = record { witness = W; first = first }
      where
        T : Tree
        T = round_tree R u v entry

        first : (p : List ℕ) → Witness R u v entry period p → Before p (get_or (names T) i []) → ⊥
        first p W' b = go (witness_node p W')
          where
            go : (j : ℕ) × (j < length (names T)) × (get_or (names T) j [] ≡ p) → ⊥
            go (j, k, e) = at (dec_lt j i) (ℕ_discrete j i)
              where
                at : Dec (j < i) → Dec (j ≡ i) → ⊥
                at (yes l) _ = lowest j l (rw e W')
                at (no l) (yes z) =
                    let same : p ≡ get_or (names T) i [] = sym e ∙ ap (λ x. get_or (names T) x []) z in
                    let b' : Before p p = rw (← same) at b in
                    before_asym p p b' b'
                at (no l) (no z) = before_asym p (get_or (names T) i []) b (rw e at (names_ascend T i j (omega arith) k))

    -- there is a first witness, or there is none
    pub first_or_none : ((w : List ℕ) × FirstWitness R u v entry period w) ⊎ ((w : List ℕ) → Witness R u v entry period w → ⊥)
    first_or_none =
        ⊎_elim (λ f. inl (get_or (names (round_tree R u v entry)) f.at [], lowest_first f.at f.below f.holds f.least))
        (λ none. inr (λ w W. let (i, l, e) = witness_node w W in none i l (rw e W)))
        (first_below (λ i. Witness R u v entry period (get_or (names (round_tree R u v entry)) i []))
        (λ i. witness? (get_or (names (round_tree R u v entry)) i [])) (length (names (round_tree R u v entry))))

    -- so if there is a witness there is a first one
    pub first_witness : (w : List ℕ) → Witness R u v entry period w → (p : List ℕ) × FirstWitness R u v entry period p
    first_witness w W = ⊎_elim (λ f. f) (λ none. absurd (none w W)) first_or_none

  -- and only one
  pub first_unique : (w p : List ℕ) → FirstWitness R u v entry period w → FirstWitness R u v entry period p → w ≡ p
  first_unique w p F G = go (before_total w p)
    where
      go : Before w p ⊎ ((w ≡ p) ⊎ Before p w) → w ≡ p
      go (inl h) = absurd (G.first w F.witness h)
      go (inr (inl e)) = e
      go (inr (inr h)) = absurd (F.first p G.witness h)
