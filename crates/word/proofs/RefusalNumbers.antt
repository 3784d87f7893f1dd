-- The numbers of the refusals of a walk and of a judge: none is 0, so 0 tells that the walk, or the call, is accepted.
use mathlib.Core.Bool.{◌&&◌}
use mathlib.Core.List.{List}
use Prim.Native.Nat.{ℕ}
use native.Mathlib.Omega.{arith}
use lib.Dec.{leb}
use lib.ListN.{length}
use Rattle.base.specs.Lists.{all_below}
use Rattle.base.specs.Outcome.{Outcome, accepted, number_of, Tells}
use Rattle.base.proofs.Numbers.{IfRefused, NotZero, ask_number, then_number, tells}
use Rattle.table.specs.Table.{read_rule}
use Rattle.table.proofs.RefusalNumbers.{rule_number}
use Rattle.word.specs.Walk.{lengths_fit, ask_walk, walk_outcome, WalkNumber}
use Rattle.word.specs.Judging.{walk_questions, judge_questions}

-- questions 7 and 8, and what follows
ask_walk_number : {A : Type 0} (m : ℕ) (u v : List ℕ) (next : Outcome A) → IfRefused NotZero next → IfRefused NotZero (ask_walk m u v next)
unfolding ask_walk
ask_walk_number m u v next later =
    ask_number NotZero (lengths_fit u v) 7 _ (λ e. omega arith)
    (ask_number NotZero (all_below m u && all_below m v) 8 next (λ e. omega arith) later)

-- put to a walk by themselves
pub walk_tells : WalkNumber
unfolding walk_outcome
walk_tells m u v = tells (walk_outcome m u v) (ask_walk_number m u v (accepted tt) tt)

-- put to a table and a walk
pub walk_number : (table u v : List ℕ) → IfRefused NotZero (walk_questions table u v)
unfolding walk_questions
walk_number table u v = then_number NotZero (read_rule table) _ (rule_number table) (λ R. ask_walk_number R.letters u v (accepted R) tt)

-- the questions of a judge, 10 behind them
pub judge_tells : (needed : ℕ) (table u v buffer : List ℕ)
    → Tells (judge_questions needed table u v buffer) (number_of (judge_questions needed table u v buffer))
unfolding judge_questions
judge_tells needed table u v buffer = tells (judge_questions needed table u v buffer)
    (then_number NotZero (walk_questions table u v) _ (walk_number table u v) (λ R.
    ask_number NotZero (leb needed (length buffer)) 10 (accepted R) (λ e. omega arith) tt))
