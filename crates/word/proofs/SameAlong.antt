-- Two rules, each along a walk. Where they have the same starting states, the same sets and at every position the same cells, the one walk
-- keeps the one rule just if the other keeps the other. So it is with two spellings of a walk under one rule (document 02, U6), and with two
-- rules that differ only in the cells of letters that the walk does not have (U10).
use mathlib.Core.Path.{◌≡◌, refl, sym, ◌∙◌, ap}
use mathlib.Core.List.{List}
use Prim.Native.Nat.{ℕ, suc, ◌≤◌}
use lib.ListN.{length}
use Rattle.rule.specs.Rule.{Rule, square_of}
use Rattle.rule.proofs.SameSquares.{same_edge, same_edge_in}
use Rattle.word.specs.EqualOn.{EqualOn}
use Rattle.word.specs.Keeps.{Keeps}
use Rattle.word.specs.Run.{AcceptingRun}
use Rattle.word.specs.Verdict.{Decides}
use Rattle.word.specs.Walk.{letter_at, SameLetters}
use Rattle.word.proofs.Positions.{every_letter}
use Rattle.word.proofs.Verdicts.{decides_one, decides_same}

-- what a run of R along u, v and one of S along u', v' can tell: the states that start, the sets, and the cells at every position
pub record SameAlong (R S : Rule) (u v u' v' : List ℕ) : Type 0 where
  pub states : R.states ≡ S.states
  pub sets : R.sets ≡ S.sets
  pub start : R.start ≡ S.start
  pub cells : (p : ℕ) → square_of R (letter_at u v p) ≡ square_of S (letter_at u' v' p)

-- WHERE IT IS SO

-- two spellings of a walk
pub along_spellings : (R : Rule) (u v u' v' : List ℕ) → SameLetters u v u' v' → SameAlong R R u v u' v'
along_spellings R u v u' v' same = record { states = refl; sets = refl; start = refl; cells = λ p. ap (square_of R) (same p) }

-- two rules that are equal on a walk
pub along_edited : (R S : Rule) (u v : List ℕ) → 1 ≤ length v → EqualOn R S u v → SameAlong R S u v u v
along_edited R S u v filled same = record {
  states = same.states;
  sets = same.sets;
  start = same.start;
  cells = every_letter (λ a. square_of R a ≡ square_of S a) u v filled same.lead same.tail;
}

module _ {R S : Rule} {u v u' v' : List ℕ} (same : SameAlong R S u v u' v') where
  -- the other way round
  pub along_back : SameAlong S R u' v' u v
  along_back =
      record { states = sym same.states; sets = sym same.sets; start = sym same.start; cells = λ p. sym (same.cells p) }

  -- THE RUNS

  -- an accepting run of one is one of the other
  run_along : AcceptingRun R u v → AcceptingRun S u' v'
  run_along A = record {
    run = record {
      state = state;
      starts = rw (← same.start) A.run.starts;
      moves = λ p. sym (same_edge R S (letter_at u v p) (letter_at u' v' p) (same.cells p) (state p) (state (suc p))) ∙ A.run.moves p;
    };
    often = λ i low high p.
        let (q, later, takes) = A.often i low (rw same.sets high) p in (
          q,
          later,
          sym (same_edge_in R S (letter_at u v q) (letter_at u' v' q) (same.cells q) i (state q) (state (suc q))) ∙ takes,
        );
  }
    where
      state : ℕ → ℕ
      state = A.run.state

  -- so where the one walk keeps the one rule, the other keeps the other
  pub keeps_along : Keeps R u v → Keeps S u' v'
  unfolding Keeps
  keeps_along = run_along

-- and two right verdicts are the same
pub verdicts_along : {R S : Rule} {u v u' v' : List ℕ} {a b : ℕ} → SameAlong R S u v u' v'
    → Decides a (Keeps R u v) → Decides b (Keeps S u' v') → a ≡ b
verdicts_along same right right' = decides_one (decides_same (keeps_along same) (keeps_along (along_back same)) right) right'
