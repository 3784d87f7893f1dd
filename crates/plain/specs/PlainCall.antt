-- The plain judge's call (document 01, "Walks and verdicts"): what it answers, and what it leaves in the lent scratch
-- bytes, for all inputs. It knows the table and nothing of trees.
use Rattle.std.specs.Prelude.{◌≡◌, List, ℕ, ◌≤◌, length, replicate}
use Rattle.base.specs.Outcome.{Outcome, refused, accepted, Tells}
use Rattle.base.specs.LentBuffer.{stored}
use Rattle.rule.specs.Rule.{Rule}
use Rattle.word.specs.Judging.{judge_questions}
use Rattle.word.specs.Keeps.{KeepsByLasso}
use Rattle.word.specs.Verdict.{Decides}
use Rattle.plain.specs.declared.judge.PlainAnswer.{PlainAnswer}

-- document 02, U7: "Question 10 then wants 256 in place of 32,768"
unfoldable pub scratch_length : ℕ
scratch_length = 256

-- questions 1 to 6, 7, 8 and 10
unfoldable pub plain_outcome : List ℕ → List ℕ → List ℕ → List ℕ → Outcome Rule
plain_outcome table u v scratch = judge_questions scratch_length table u v scratch

-- the answer: yes exactly when the walk keeps the rule, by a loop; on a refusal its number and zero
abbrev pub PlainAnswers : Outcome Rule → List ℕ → List ℕ → PlainAnswer → Type 0
PlainAnswers (refused number) u v answer = answer ≡ record { number = number; verdict = 0 }
PlainAnswers (accepted R) u v answer = (answer.number ≡ 0) × Decides answer.verdict (KeepsByLasso R u v)

-- the scratch bytes afterwards: "the bytes it wants are still left zero, those past them unchanged"; on a refusal all unchanged
unfoldable pub scratch_after : Outcome Rule → List ℕ → List ℕ
scratch_after (refused number) scratch = scratch
scratch_after (accepted R) scratch = stored 0 (replicate scratch_length 0) scratch

-- answer and scratch bytes together
abbrev pub PlainDone : Outcome Rule → List ℕ → List ℕ → List ℕ → PlainAnswer → List ℕ → Type 0
PlainDone o u v scratch answer after = PlainAnswers o u v answer × (after ≡ scratch_after o scratch)

-- the contract of the call: for a table, a walk and lent scratch bytes, this answer, and these scratch bytes afterwards
abbrev pub PlainCall : List ℕ → List ℕ → List ℕ → List ℕ → PlainAnswer → List ℕ → Type 0
PlainCall table u v scratch answer after = PlainDone (plain_outcome table u v scratch) u v scratch answer after

-- the number that a caller sees tells whether the call is accepted
abbrev pub PlainNumber : Type 0
PlainNumber =
    (table u v scratch : List ℕ) (answer : PlainAnswer) → PlainAnswers (plain_outcome table u v scratch) u v answer
    → Tells (plain_outcome table u v scratch) answer.number

-- "Same verdict as before on every table": whichever two numbers of scratch bytes question 10 wants, as 32,768 before and 256 now, two
-- calls on one table and one walk, each lent as many bytes as it wants or more, give the same answer, a refusal too
abbrev pub SameAsBefore : Type 0
SameAsBefore =
    (needed needed' : ℕ) (table u v scratch scratch' : List ℕ) (answer answer' : PlainAnswer)
    → needed ≤ length scratch → needed' ≤ length scratch'
    → PlainAnswers (judge_questions needed table u v scratch) u v answer
    → PlainAnswers (judge_questions needed' table u v scratch') u v answer'
    → answer ≡ answer'
