-- Periodic sequences: they have all their values in the first period.
use mathlib.Core.Path.{◌≡◌, sym, ◌∙◌, ap}
use Prim.Native.Nat.{ℕ, zero, suc, ◌+◌, ◌*◌, ◌/◌, ◌%◌}
use native.Mathlib.Omega.{arith}
use native.Mathlib.Nat.{mod-add-div'}

-- the sequence has the period a
abbrev pub Periodic : {A : Type 0} → ℕ → (ℕ → A) → Type 0
Periodic a f = (p : ℕ) → f (p + a) ≡ f p

module _ {A : Type 0} (a : ℕ) (f : ℕ → A) (periodic : Periodic a f) where
  -- what returns after a period returns after several
  pub again : (k p : ℕ) → f (p + k * a) ≡ f p
  again zero p = let e : p + 0 * a ≡ p = omega arith in ap f e
  again (suc k) p = let e : p + suc k * a ≡ p + k * a + a = omega arith in ap f e ∙ periodic (p + k * a) ∙ again k p

  -- so it is there in the first
  pub reduced : (p : ℕ) → f p ≡ f (p % a)
  reduced p = ap f (sym (mod-add-div' p a)) ∙ again (p / a) (p % a)
