-- Questions in order: what holds of the value of an accepted call. A proof goes through the questions one by one, each time
-- with what is known behind them.
use mathlib.Core.Path.{◌≡◌, refl, subst}
use mathlib.Core.Bool.{Bool, true, false}
use Prim.Native.Nat.{ℕ}
use Rattle.base.specs.Outcome.{Outcome, refused, accepted, ask, ◌then◌}

-- if the outcome is accepted, its value has the property P
abbrev pub IfAccepted : {A : Type 0} → (A → Type 0) → Outcome A → Type 0
IfAccepted P (refused number) = Unit {0}
IfAccepted P (accepted a) = P a

-- an accepted outcome is that of its value
pub itself : {A : Type 0} (o : Outcome A) → IfAccepted (λ a. o ≡ accepted a) o
itself (refused number) = tt
itself (accepted a) = refl

module _ {A : Type 0} (P : A → Type 0) where
  -- the property of an accepted value
  pub of_accepted : (o : Outcome A) (a : A) → o ≡ accepted a → IfAccepted P o → P a
  of_accepted o a e h = subst (IfAccepted P) e h

  -- a question adds to what is known behind it
  pub asked : (t : Bool) (number : ℕ) (next : Outcome A) → (t ≡ true → IfAccepted P next) → IfAccepted P (ask t number next)
  asked true number next h = h refl
  asked false number next h = tt

-- a property that follows from another one
pub weaker : {A : Type 0} (P Q : A → Type 0) (o : Outcome A) → IfAccepted P o → ((a : A) → P a → Q a) → IfAccepted Q o
weaker P Q (refused number) h f = tt
weaker P Q (accepted a) h f = f a h

module _ {A B : Type 0} (P : A → Type 0) (Q : B → Type 0) where
  -- what follows may use what is known of the value found so far
  pub followed : (o : Outcome A) (next : A → Outcome B) → IfAccepted P o → ((a : A) → P a → IfAccepted Q (next a))
      → IfAccepted Q (o then next)
  followed (refused number) next h f = tt
  followed (accepted a) next h f = f a h

module _ {A B : Type 0} where
  -- what follows may be replaced by what is equal on the values found
  pub then_same : (o : Outcome A) (f g : A → Outcome B) → IfAccepted (λ a. f a ≡ g a) o → (o then f) ≡ (o then g)
  then_same (refused number) f g h = refl
  then_same (accepted a) f g h = h

  -- what follows, bracketed the other way
  pub then_assoc : {C : Type 0} (o : Outcome A) (f : A → Outcome B) (g : B → Outcome C) → (o then f then g) ≡ (o then λ a. f a then g)
  then_assoc (refused number) f g = refl
  then_assoc (accepted a) f g = refl

-- nothing follows
pub then_accepted : {A : Type 0} (o : Outcome A) → (o then accepted) ≡ o
then_accepted (refused number) = refl
then_accepted (accepted a) = refl
