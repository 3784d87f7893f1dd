-- The public call: what the contract says of a refusal and of an answer, that its number tells whether the call is accepted, and that
-- the contract leaves no choice.
use mathlib.Core.Path.{◌≡◌, sym, ◌∙◌, ap}
use mathlib.Core.List.{List}
use Prim.Native.Nat.{ℕ}
use native.Mathlib.Omega.{arith}
use Rattle.base.specs.Outcome.{Outcome, refused, accepted, number_of}
use Rattle.base.proofs.Numbers.{NotZero, ask_number, tells}
use Rattle.word.specs.Walk.{lengths_fit}
use Rattle.word.proofs.Verdicts.{decides_one}
use Rattle.spelling.specs.SameCall.{same_outcome, SameAnswers, SameNumber}
use Rattle.spelling.specs.declared.same.SameAnswer.{SameAnswer}

-- the number of an answer that the contract allows
answer_number : (o : Outcome (Unit {0})) (u v u' v' : List ℕ) (answer : SameAnswer) → SameAnswers o u v u' v' answer
    → answer.number ≡ number_of o
answer_number (refused number) u v u' v' answer is = ap (λ (x : SameAnswer). x.number) is
answer_number (accepted _) u v u' v' answer (is, _) = is

pub same_number : SameNumber
unfolding same_outcome
same_number u v u' v' answer allowed =
    rw (answer_number (same_outcome u v u' v') u v u' v' answer allowed)
    (tells (same_outcome u v u' v') (ask_number NotZero (lengths_fit u v) 7 _ (λ e. omega arith)
    (ask_number NotZero (lengths_fit u' v') 7 (accepted tt) (λ e. omega arith) tt)))

-- two answers that the contract allows are the same
pub same_determined : (o : Outcome (Unit {0})) (u v u' v' : List ℕ) (a b : SameAnswer) → SameAnswers o u v u' v' a → SameAnswers o u v u' v' b
    → a ≡ b
same_determined (refused number) u v u' v' a b x y = x ∙ sym y
same_determined (accepted _) u v u' v' a b (x, d) (y, e) =
    let numbers : a.number ≡ b.number = x ∙ sym y in
    let sames : a.same ≡ b.same = decides_one d e in
    λ i. record { number = numbers i; same = sames i }
