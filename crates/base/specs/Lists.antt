-- Lists: values of a function, properties and tests of all elements, padding.
use Rattle.std.specs.Prelude.{Bool, true, false, ◌&&◌, ◌||◌, List, [], ◌∷◌, ◌++◌, ℕ, zero, suc, ◌-◌, ltb, length, replicate}

-- f 0, f 1, .., f (n−1)
unfoldable pub tabulate : {A : Type 0} → ℕ → (ℕ → A) → List A
tabulate zero f = []
tabulate (suc n) f = f 0 ∷ tabulate n (λ i. f (suc i))

-- every element of a list has a property
abbrev pub Every : {A : Type 0} → (A → Type 0) → List A → Type 0
Every P [] = Unit {0}
Every P (x ∷ l) = P x × Every P l

-- does every element pass a test? does some element?
unfoldable pub all_of : {A : Type 0} → (A → Bool) → List A → Bool
all_of f [] = true
all_of f (x ∷ l) = f x && all_of f l

unfoldable pub any_of : {A : Type 0} → (A → Bool) → List A → Bool
any_of f [] = false
any_of f (x ∷ l) = f x || any_of f l

-- is each number below a limit?
abbrev pub all_below : ℕ → List ℕ → Bool
all_below limit l = all_of (λ x. ltb x limit) l

-- a list made w long by copies of z behind it
unfoldable pub pad : {A : Type 0} → ℕ → A → List A → List A
pad w z l = l ++ replicate (w - length l) z
