-- Questions in order (document 01). A call puts its questions one after the other; the first that is answered no
-- gives the call's number, and nothing is asked after it.
use Rattle.std.specs.Prelude.{◌≡◌, ◌↔◌, Bool, true, false, ℕ}

-- "No gives the number. A call is accepted if none of its questions is answered no"
pub data Outcome (A : Type 0) : Type 0 where
  refused : ℕ → Outcome A
  accepted : A → Outcome A

-- a question with its number, and what follows on yes
abbrev pub ask : {A : Type 0} → Bool → ℕ → Outcome A → Outcome A
ask true number next = next
ask false number next = refused number

infixl 20 ◌then◌
-- what follows uses what was found so far
abbrev pub ◌then◌ : {A B : Type 0} → Outcome A → (A → Outcome B) → Outcome B
refused number then next = refused number
accepted a then next = next a

-- the number that a call gives: 0 where it is accepted
abbrev pub number_of : {A : Type 0} → Outcome A → ℕ
number_of (refused number) = number
number_of (accepted a) = 0

-- "No gives the number. A call is accepted if none of its questions is answered no": what the number that a caller sees tells. It is
-- 0 just if the call is accepted, and else the number of the refusal, which is never 0.
pub record Tells {A : Type 0} (o : Outcome A) (seen : ℕ) : Type 0 where
  pub accepts : (seen ≡ 0) ↔ ((a : A) × (o ≡ accepted a))
  pub refuses : (number : ℕ) → o ≡ refused number → (seen ≡ number) × (number ≡ 0 → ⊥)
