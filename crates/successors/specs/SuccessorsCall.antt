-- The look-up of a set's successors under a letter (document 02, U2: "Table look-up with the sets in it"): what the call answers, for all
-- inputs. It is lent nothing to write.
use Rattle.std.specs.Prelude.{◌≡◌, List, ℕ, suc, replicate}
use Rattle.base.specs.Outcome.{Outcome, refused, accepted, Tells}
use Rattle.base.specs.Lists.{tabulate}
use Rattle.rule.specs.Limits.{max_sets}
use Rattle.rule.specs.Rule.{Rule, successors, successors_in}
use Rattle.table.specs.LetterQuestions.{letter_questions}
use Rattle.successors.specs.declared.call.SuccessorsAnswer.{SuccessorsAnswer}

-- questions 1 to 6, and 8 to the letter. Nothing is asked of the set: any number is the map of one.
unfoldable pub successors_outcome : List ℕ → ℕ → Outcome Rule
successors_outcome table a = letter_questions table a

-- "it shall give the next states and, for each accepting set, exactly those reached by a transition of that set": set i at place i − 1.
-- On a refusal its number and zero for all else.
unfoldable pub successors_answer : Outcome Rule → ℕ → ℕ → SuccessorsAnswer
successors_answer (refused number) a s = record { number = number; next = 0; reached = replicate max_sets 0 }
successors_answer (accepted R) a s =
    record { number = 0; next = successors R a s; reached = tabulate max_sets (λ i. successors_in R (suc i) a s) }

-- the contract of the call: for a table, a letter and a set of states, this answer
abbrev pub SuccessorsCall : List ℕ → ℕ → ℕ → SuccessorsAnswer → Type 0
SuccessorsCall table letter states answer = answer ≡ successors_answer (successors_outcome table letter) letter states

-- the number that a caller sees tells whether the call is accepted
abbrev pub SuccessorsNumber : Type 0
SuccessorsNumber =
    (table : List ℕ) (a s : ℕ)
    → Tells (successors_outcome table a) (successors_answer (successors_outcome table a) a s).number
