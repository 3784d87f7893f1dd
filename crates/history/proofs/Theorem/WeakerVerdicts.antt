-- Why the verdict asks what it asks: three verdicts that ask less, and for each a small rule without an accepting run to
-- which it says yes. One asks for an accepting node only; one also counts a node at a letter that renames it; one looks at
-- the first round only.
use mathlib.Core.Path.{◌≡◌, refl, ap}
use mathlib.Core.Bool.{true, false, ◌||◌}
use mathlib.Core.List.{List, [], ◌∷◌}
use Prim.Native.Nat.{ℕ, zero, suc, ◌≤◌, ◌<◌}
use native.Mathlib.Omega.{arith}
use lib.ListN.{get_or}
use Rattle.base.specs.BitSet.{member}
use Rattle.base.proofs.Logic.{clash, or_r}
use Rattle.rule.specs.Rule.{Rule, cell_at, edge, edge_in}
use Rattle.rule.specs.WellFormed.{WellFormed, start_fits, bytes_fit}
use Rattle.word.specs.Run.{AcceptingRun}
use Rattle.word.specs.Lasso.{Lasso}
use Rattle.word.proofs.Variants.{zero_tail, nonempty, small, no_lasso, away, away_fits, once_no_lasso}
use Rattle.history.specs.Forest.{size}
use Rattle.history.specs.Tree.{labels}
use Rattle.history.specs.Letter.{accepting, stable}
use Rattle.history.specs.Rounds.{round_tree, tree_in_round, FirstRepeat}
use Rattle.history.specs.Verdict.{LetterPlace, Witness}
use Rattle.history.proofs.Theorem.TreeTheorem.{witness_lasso}
use Rattle.history.proofs.Verdict.VerdictTest.{verdict_test}

-- VERDICTS THAT ASK LESS

-- some node accepts at a letter of rounds e+1 to e+p
record AcceptingOnly (R : Rule) (u v : List ℕ) (entry period : ℕ) (w : List ℕ) : Type 0 where
  round : ℕ
  place : ℕ
  there : LetterPlace v entry period round place
  accepts : accepting R (get_or v place 0) (tree_in_round R u v round place) w ≡ true

-- some node accepts at one of these letters, and at each of them it is stable or accepting, renamed or not
record RenamedToo (R : Rule) (u v : List ℕ) (entry period : ℕ) (w : List ℕ) : Type 0 where
  stays : (r i : ℕ) → LetterPlace v entry period r i
      → (stable R (get_or v i 0) (tree_in_round R u v r i) w || accepting R (get_or v i 0) (tree_in_round R u v r i) w) ≡ true
  accepts : AcceptingOnly R u v entry period w

-- the verdict over the first round only
abbrev FirstRound : Rule → List ℕ → List ℕ → List ℕ → Type 0
FirstRound R u v w = Witness R u v 0 1 w

-- A NODE THAT ACCEPTS AND IS RENAMED

-- state 0 goes to itself by no set and to state 1 by set 1; state 1 goes to state 2 by set 1; state 2 goes nowhere
abbrev leaving : Rule
leaving = small 3 ((0 ∷ 1 ∷ 255 ∷ []) ∷ (255 ∷ 255 ∷ 1 ∷ []) ∷ (255 ∷ 255 ∷ 255 ∷ []) ∷ [])

leaving_fits : WellFormed leaving
unfolding start_fits bytes_fit
leaving_fits = record { starts = refl; squares = refl; fits = ((refl, ((refl, refl), ((refl, refl), ((refl, refl), tt)))), tt) }

-- a transition of set 1 leads away from state 0, and from there one transition is left
leaving_set : (a q r : ℕ) → edge_in leaving.grid 1 a q r ≡ true → 1 ≤ r
unfolding edge_in edge cell_at member
leaving_set a q (suc r) e = omega arith
leaving_set (suc a) q zero e = clash refl e
leaving_set zero zero zero e = clash refl e
leaving_set zero (suc zero) zero e = clash refl e
leaving_set zero (suc (suc zero)) zero e = clash refl e
leaving_set zero (suc (suc (suc q))) zero e = clash refl e

leaving_last : (a q r : ℕ) → edge leaving.grid a q r ≡ true → 1 ≤ q → (q ≡ 1) × (r ≡ 2)
unfolding edge cell_at
leaving_last a zero r e h = absurd (omega arith)
leaving_last (suc a) (suc q) r e h = clash refl e
leaving_last zero (suc zero) zero e h = clash refl e
leaving_last zero (suc zero) (suc zero) e h = clash refl e
leaving_last zero (suc zero) (suc (suc zero)) e h = (refl, refl)
leaving_last zero (suc zero) (suc (suc (suc r))) e h = clash refl e
leaving_last zero (suc (suc zero)) zero e h = clash refl e
leaving_last zero (suc (suc zero)) (suc zero) e h = clash refl e
leaving_last zero (suc (suc zero)) (suc (suc zero)) e h = clash refl e
leaving_last zero (suc (suc zero)) (suc (suc (suc r))) e h = clash refl e
leaving_last zero (suc (suc (suc q))) r e h = clash refl e

leaving_no_run : AcceptingRun leaving [] zero_tail → ⊥
leaving_no_run A =
    let (p, _, t) = A.often 1 (omega arith) (omega arith) 0 in
    let first = leaving_set _ _ _ t in
    let (_, second) = leaving_last _ _ _ (A.run.moves (suc p)) first in
    let (third, _) = leaving_last _ _ _ (A.run.moves (suc (suc p))) (omega arith) in
    omega arith

leaving_no_lasso : Lasso leaving [] zero_tail → ⊥
leaving_no_lasso = no_lasso leaving leaving_no_run

-- its trees t(0), t(1) and t(2) have one, two and three nodes, and t(3) is t(2); at the letter from t(2) the second
-- child of the root accepts, and becomes the first child
record Leaving : Type 0 where
  one : size (round_tree leaving [] zero_tail 0) ≡ 1
  two : size (round_tree leaving [] zero_tail 1) ≡ 2
  three : size (round_tree leaving [] zero_tail 2) ≡ 3
  back : round_tree leaving [] zero_tail 2 ≡ round_tree leaving [] zero_tail 3
  accepts : accepting leaving 0 (tree_in_round leaving [] zero_tail 2 0) (1 ∷ []) ≡ true
  renamed : stable leaving 0 (tree_in_round leaving [] zero_tail 2 0) (1 ∷ []) ≡ false

leaving_computed : Leaving
unfolding verdict_test size labels
leaving_computed = record { one = refl; two = refl; three = refl; back = refl; accepts = refl; renamed = refl }

leaving_repeat : FirstRepeat (round_tree leaving [] zero_tail) 2 1
leaving_repeat = record {
  positive = omega arith;
  back = leaving_computed.back;
  first = λ i j l h e. absurd (omega (arith, sizes i (omega arith), sizes j h, ap size e));
}
  where
    sizes : (i : ℕ) → i < 3 → size (round_tree leaving [] zero_tail i) ≡ suc i
    sizes zero h = leaving_computed.one
    sizes (suc zero) h = leaving_computed.two
    sizes (suc (suc zero)) h = leaving_computed.three
    sizes (suc (suc (suc i))) h = absurd (omega arith)

-- so both verdicts say yes, and the tree judge's says no
leaving_accepts : AcceptingOnly leaving [] zero_tail 2 1 (1 ∷ [])
leaving_accepts = record {
  round = 2;
  place = 0;
  there = record { from = omega arith; upto = omega arith; within = omega arith };
  accepts = leaving_computed.accepts;
}

leaving_renamed : RenamedToo leaving [] zero_tail 2 1 (1 ∷ [])
leaving_renamed = record { stays = stays; accepts = leaving_accepts }
  where
    stays : (r i : ℕ) → LetterPlace zero_tail 2 1 r i
        → (stable leaving (get_or zero_tail i 0) (tree_in_round leaving [] zero_tail r i) (1 ∷ [])
        || accepting leaving (get_or zero_tail i 0) (tree_in_round leaving [] zero_tail r i) (1 ∷ [])) ≡ true
    stays r i l =
        let e : r ≡ 2 = omega (arith, l.from, l.upto) in
        let f : i ≡ 0 = omega (arith, l.within) in
        rw (e, f) (or_r (stable leaving 0 (tree_in_round leaving [] zero_tail 2 0) (1 ∷ [])) _ leaving_computed.accepts)

leaving_no_witness : (w : List ℕ) → Witness leaving [] zero_tail 2 1 w → ⊥
leaving_no_witness w W = leaving_no_lasso (witness_lasso leaving leaving_fits (omega arith) [] zero_tail nonempty 2 1 leaving_repeat w W)

-- THE FIRST ROUND ONLY

-- the rule `away`: state 0 goes to state 1 by set 1; state 1 only to itself, by no set.
-- t(0) and t(1) have different labels, and t(2) is t(1); in the first round the root is stable and accepting
record Away : Type 0 where
  first : labels (round_tree away [] zero_tail 0) ≡ 1
  second : labels (round_tree away [] zero_tail 1) ≡ 2
  back : round_tree away [] zero_tail 1 ≡ round_tree away [] zero_tail 2
  stays : stable away 0 (tree_in_round away [] zero_tail 0 0) [] ≡ true
  accepts : accepting away 0 (tree_in_round away [] zero_tail 0 0) [] ≡ true

away_computed : Away
unfolding verdict_test size labels
away_computed = record { first = refl; second = refl; back = refl; stays = refl; accepts = refl }

away_repeat : FirstRepeat (round_tree away [] zero_tail) 1 1
away_repeat = record {
  positive = omega arith;
  back = away_computed.back;
  first = λ i j l h e. absurd (omega (arith, held i (omega arith), held j h, ap labels e));
}
  where
    held : (i : ℕ) → i < 2 → labels (round_tree away [] zero_tail i) ≡ suc i
    held zero h = away_computed.first
    held (suc zero) h = away_computed.second
    held (suc (suc i)) h = absurd (omega arith)

-- so the verdict over the first round says yes, and the tree judge's says no
away_first_round : FirstRound away [] zero_tail []
away_first_round = record {
  stays = stays;
  round = 0;
  place = 0;
  there = record { from = omega arith; upto = omega arith; within = omega arith };
  accepts = away_computed.accepts;
}
  where
    stays : (r i : ℕ) → LetterPlace zero_tail 0 1 r i → stable away (get_or zero_tail i 0) (tree_in_round away [] zero_tail r i) [] ≡ true
    stays r i l =
        let e : r ≡ 0 = omega (arith, l.upto) in
        let f : i ≡ 0 = omega (arith, l.within) in
        rw (e, f) away_computed.stays

away_no_witness : (w : List ℕ) → Witness away [] zero_tail 1 1 w → ⊥
away_no_witness w W = once_no_lasso (witness_lasso away away_fits (omega arith) [] zero_tail nonempty 1 1 away_repeat w W)
