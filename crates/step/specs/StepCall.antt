-- One letter on a record: what the call answers, and what it leaves in the lent buffer, for all inputs.
use Rattle.std.specs.Prelude.{◌≡◌, List, ℕ, leb, length}
use Rattle.base.specs.Outcome.{Outcome, refused, accepted, ask, ◌then◌, Tells}
use Rattle.base.specs.LentBuffer.{stored}
use Rattle.rule.specs.Rule.{Rule}
use Rattle.table.specs.LetterQuestions.{letter_questions}
use Rattle.history.specs.Letter.{next_tree, accepting_map, stable_map}
use Rattle.history.specs.Record.{record_of, read_tree}
use Rattle.tree.specs.StartCall.{record_room}
use Rattle.step.specs.declared.call.StepAnswer.{StepAnswer}

-- "The step answers the new record and two map bytes by old node number, accepting and stable."
pub record Moved : Type 0 where
  pub bytes : List ℕ
  pub accepting : ℕ
  pub stable : ℕ

-- questions 9 and 10, under a rule and one of its letters
unfoldable pub step_under : Rule → ℕ → List ℕ → List ℕ → Outcome Moved
step_under R a bytes buffer =
    read_tree R.states R.sets bytes then λ T.
    ask (leb record_room (length buffer)) 10
    (accepted (record { bytes = record_of R.states (next_tree R a T); accepting = accepting_map R a T; stable = stable_map R a T }))

-- questions 1 to 6 and 8, then 9 and 10
unfoldable pub step_outcome : List ℕ → ℕ → List ℕ → List ℕ → Outcome Moved
step_outcome table a bytes buffer = letter_questions table a then λ R. step_under R a bytes buffer

unfoldable pub step_answer : Outcome Moved → StepAnswer
step_answer (refused number) = record { number = number; written = 0; accepting = 0; stable = 0 }
step_answer (accepted moved) =
    record { number = 0; written = length moved.bytes; accepting = moved.accepting; stable = moved.stable }

-- the lent buffer afterwards: the new record; "Bytes past an output are unchanged", and a refusal alters nothing
unfoldable pub step_after : Outcome Moved → List ℕ → List ℕ
step_after (refused number) buffer = buffer
step_after (accepted moved) buffer = stored 0 moved.bytes buffer

-- answer and buffer together
abbrev pub StepDone : Outcome Moved → List ℕ → StepAnswer → List ℕ → Type 0
StepDone o buffer answer after = (answer ≡ step_answer o) × (after ≡ step_after o buffer)

-- the contract of the call: for a table, a letter, a record and a lent buffer, this answer, and these bytes in the buffer afterwards
abbrev pub StepCall : List ℕ → ℕ → List ℕ → List ℕ → StepAnswer → List ℕ → Type 0
StepCall table letter bytes buffer answer after = StepDone (step_outcome table letter bytes buffer) buffer answer after

-- the number that a caller sees tells whether the call is accepted
abbrev pub StepNumber : Type 0
StepNumber =
    (table : List ℕ) (a : ℕ) (bytes buffer : List ℕ)
    → Tells (step_outcome table a bytes buffer) (step_answer (step_outcome table a bytes buffer)).number
