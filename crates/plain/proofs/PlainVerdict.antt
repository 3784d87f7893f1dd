-- What the plain judge's contract says: its verdict decides whether the walk keeps the rule, its number tells whether the
-- call is accepted, and the contract leaves no choice of the answer. How many scratch bytes are wanted does not matter to the
-- answer.
use mathlib.Core.Path.{◌≡◌, sym, ◌∙◌, ap}
use mathlib.Core.List.{List, []}
use Prim.Native.Nat.{ℕ}
use Rattle.base.specs.Outcome.{Outcome, refused, accepted, number_of}
use Rattle.rule.specs.Rule.{Rule}
use Rattle.rule.specs.WellFormed.{WellFormed}
use Rattle.word.specs.Judging.{walk_questions}
use Rattle.word.specs.Keeps.{Keeps}
use Rattle.word.specs.Verdict.{Decides}
use Rattle.word.proofs.JudgeQuestions.{with_room}
use Rattle.word.proofs.LassoTheorem.{lasso_theorem}
use Rattle.word.proofs.RefusalNumbers.{judge_tells}
use Rattle.word.proofs.Verdicts.{decides_one, decides_same}
use Rattle.plain.specs.PlainCall.{scratch_length, plain_outcome, PlainAnswers, PlainNumber, SameAsBefore}
use Rattle.plain.specs.declared.judge.PlainAnswer.{PlainAnswer}

-- an accepted call says yes just if the walk keeps the rule, and no otherwise
pub plain_decides : (R : Rule) (u v : List ℕ) (answer : PlainAnswer) → PlainAnswers (accepted R) u v answer → WellFormed R → (v ≡ [] → ⊥)
    → Decides answer.verdict (Keeps R u v)
plain_decides R u v answer (_, d) well nonempty =
    let (to-loop, from-loop) = lasso_theorem R u v well nonempty in
    decides_same from-loop to-loop d

-- the number of an answer that the contract allows
plain_answers : (o : Outcome Rule) (u v : List ℕ) (answer : PlainAnswer) → PlainAnswers o u v answer → answer.number ≡ number_of o
plain_answers (refused number) u v answer is = ap (λ (x : PlainAnswer). x.number) is
plain_answers (accepted R) u v answer (is, _) = is

pub plain_number : PlainNumber
unfolding plain_outcome
plain_number table u v scratch answer P =
    rw (plain_answers (plain_outcome table u v scratch) u v answer P) (judge_tells scratch_length table u v scratch)

-- two answers that the contract allows are the same
pub plain_determined : (o : Outcome Rule) (u v : List ℕ) (a b : PlainAnswer) → PlainAnswers o u v a → PlainAnswers o u v b → a ≡ b
plain_determined (refused number) u v a b x y = x ∙ sym y
plain_determined (accepted R) u v a b (x, d) (y, e) =
    let same : a.number ≡ b.number = x ∙ sym y in
    let verdicts : a.verdict ≡ b.verdict = decides_one d e in
    λ i. record { number = same i; verdict = verdicts i }

pub same_as_before : SameAsBefore
same_as_before needed needed' table u v scratch scratch' answer answer' h h' P Q =
    plain_determined (walk_questions table u v) u v answer answer'
    (rw (with_room needed table u v scratch h) at P)
    (rw (with_room needed' table u v scratch' h') at Q)
