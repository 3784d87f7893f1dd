-- The answer of a comparer, yes or no.
use mathlib.Core.Path.{◌≡◌, refl, sym, ◌∙◌}
use mathlib.Core.Bool.{Bool, true, false, ◌&&◌, false≢true}
use Rattle.notation.specs.Testing.{Tests}

pub tests_yes : {P : Type 0} → P → Tests true P
tests_yes p = (λ e. p, λ q. refl)

pub tests_no : {P : Type 0} → (P → ⊥) → Tests false P
tests_no n = (λ e. absurd (false≢true e), λ p. absurd (n p))

pub tests_not : {a : Bool} {P : Type 0} → Tests a P → a ≡ false → P → ⊥
tests_not t e p = false≢true (sym e ∙ t.1 p)

-- two answers, both yes
pub both_true : (a b : Bool) → (a && b) ≡ true → (a ≡ true) × (b ≡ true)
both_true true b e = (refl, e)
both_true false b e = absurd (false≢true e)

pub and_yes : {a b : Bool} → a ≡ true → b ≡ true → (a && b) ≡ true
and_yes {a} {b} x y = rw (x, y)
