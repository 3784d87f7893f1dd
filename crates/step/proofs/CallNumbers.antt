-- The numbers that the call answers: no question has the number 0.
use mathlib.Core.Path.{◌≡◌, refl}
use mathlib.Core.List.{List}
use Prim.Native.Nat.{ℕ}
use native.Mathlib.Omega.{arith}
use lib.Dec.{leb}
use lib.ListN.{length}
use Rattle.base.specs.Outcome.{Outcome, refused, accepted, number_of}
use Rattle.base.proofs.Numbers.{IfRefused, NotZero, ask_number, then_number, tells}
use Rattle.table.specs.LetterQuestions.{letter_questions}
use Rattle.table.proofs.RefusalNumbers.{letter_number}
use Rattle.history.specs.Record.{is_record, read_tree}
use Rattle.tree.specs.StartCall.{record_room}
use Rattle.step.specs.StepCall.{Moved, step_under, step_outcome, step_answer, StepNumber}

-- question 9
tree_questions : (n k : ℕ) (bytes : List ℕ) → IfRefused NotZero (read_tree n k bytes)
unfolding read_tree
tree_questions n k bytes = ask_number NotZero (is_record n k bytes) 9 _ (λ e. omega arith) tt

step_questions : (table : List ℕ) (a : ℕ) (bytes buffer : List ℕ) → IfRefused NotZero (step_outcome table a bytes buffer)
unfolding step_outcome step_under
step_questions table a bytes buffer = then_number NotZero (letter_questions table a) _ (letter_number table a) (λ R.
    then_number NotZero (read_tree R.states R.sets bytes) _ (tree_questions R.states R.sets bytes) (λ T.
    ask_number NotZero (leb record_room (length buffer)) 10 _ (λ e. omega arith) tt))

step_answers : (o : Outcome Moved) → (step_answer o).number ≡ number_of o
unfolding step_answer
step_answers (refused number) = refl
step_answers (accepted moved) = refl

pub step_number : StepNumber
step_number table a bytes buffer = let o = step_outcome table a bytes buffer in
    rw (step_answers o) (tells o (step_questions table a bytes buffer))
