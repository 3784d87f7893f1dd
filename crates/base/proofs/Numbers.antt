-- The numbers of refusals: where no question has the number 0, 0 tells that a call is accepted.
use mathlib.Core.Path.{◌≡◌, refl, ◌∙◌}
use mathlib.Core.Bool.{Bool, true, false}
use Prim.Native.Nat.{ℕ}
use native.Mathlib.Omega.{arith}
use Rattle.base.specs.Outcome.{Outcome, refused, accepted, ask, ◌then◌, number_of, Tells}

-- if the outcome is a refusal, its number has the property P
abbrev pub IfRefused : {A : Type 0} → (ℕ → Type 0) → Outcome A → Type 0
IfRefused P (refused number) = P number
IfRefused P (accepted a) = Unit {0}

module _ {A : Type 0} (P : ℕ → Type 0) where
  pub ask_number : (t : Bool) (number : ℕ) (next : Outcome A) → P number → IfRefused P next → IfRefused P (ask t number next)
  ask_number true number next own later = later
  ask_number false number next own later = own

  pub then_number : {B : Type 0} (o : Outcome B) (next : B → Outcome A) → IfRefused P o → ((b : B) → IfRefused P (next b)) → IfRefused P (o then next)
  then_number (refused number) next first later = first
  then_number (accepted b) next first later = later b

-- the number is not 0
abbrev pub NotZero : ℕ → Type 0
NotZero number = number ≡ 0 → ⊥

-- then it tells whether the call is accepted
pub tells : {A : Type 0} (o : Outcome A) → IfRefused NotZero o → Tells o (number_of o)
tells {A} (refused number) some = record {
  accepts = ((λ e. absurd (some e)), no);
  refuses = λ other e. let same : number ≡ other = cc in (same, λ z. some (same ∙ z));
}
  where
    no : (a : A) × (refused number ≡ accepted a) → number ≡ 0
    no (a, e) = let z : ◌≡◌ {A = ℕ} 0 1 = cc in absurd (omega arith)
tells (accepted a) some = record {
  accepts = ((λ e. (a, refl)), (λ h. refl));
  refuses = λ number e. let z : ◌≡◌ {A = ℕ} 0 1 = cc in absurd (omega arith);
}
