-- Truth values: cases with their equations, and what follows from `&&`, `||` and `not`.
use mathlib.Core.Path.{◌≡◌, refl, sym, ◌∙◌}
use mathlib.Core.Logic.{◌⊎◌, inl, inr}
use mathlib.Core.Bool.{Bool, true, false, not, ◌&&◌, ◌||◌, true≢false}

-- each truth value is true or false
pub look : (b : Bool) → (b ≡ true) ⊎ (b ≡ false)
look true = inl refl
look false = inr refl

-- nothing is both true and false
pub clash : {b : Bool} {A : Type 0} → b ≡ false → b ≡ true → A
clash {b} e h = absurd (true≢false (sym h ∙ e))

-- what cannot be true is false
pub never : (b : Bool) → (b ≡ true → ⊥) → b ≡ false
never true h = absurd (h refl)
never false h = refl

-- two truth values that follow from each other are the same
pub bool_ext : (a b : Bool) → (a ≡ true → b ≡ true) → (b ≡ true → a ≡ true) → a ≡ b
bool_ext true b f g = sym (f refl)
bool_ext false true f g = g refl
bool_ext false false f g = refl

-- conjunction: made and taken apart
pub and_both : (a b : Bool) → a ≡ true → b ≡ true → (a && b) ≡ true
and_both true b p q = q
and_both false b p q = p

pub and_in : (a b : Bool) → (a && b) ≡ true → (a ≡ true) × (b ≡ true)
and_in true b h = (refl, h)
and_in false b h = clash refl h

-- disjunction: made from either side, and taken apart
pub or_l : (a b : Bool) → a ≡ true → (a || b) ≡ true
or_l true b p = refl
or_l false b p = clash refl p

pub or_r : (a b : Bool) → b ≡ true → (a || b) ≡ true
or_r true b p = refl
or_r false b p = p

pub or_in : (a b : Bool) → (a || b) ≡ true → (a ≡ true) ⊎ (b ≡ true)
or_in true b h = inl refl
or_in false b h = inr h

-- negation: made and taken apart
pub not_out : (a : Bool) → a ≡ false → not a ≡ true
not_out true p = sym p
not_out false p = refl

pub not_in : (a : Bool) → not a ≡ true → a ≡ false
not_in true h = sym h
not_in false h = refl
