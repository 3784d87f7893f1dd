-- What the answer of a comparer says.
use Rattle.std.specs.Prelude.{◌≡◌, ◌↔◌, Bool, true, List, map, ℕ, Some}
use Rattle.notation.specs.Parts.{parts, space}
use Rattle.notation.specs.Decimal.{decimal}

-- the answer is yes exactly when P holds
abbrev pub Tests : Bool → Type 0 → Type 0
Tests answer P = (answer ≡ true) ↔ P

-- a text has just these numbers, in decimal, with one space between two
abbrev pub HasNumbers : List ℕ → List ℕ → Type 0
HasNumbers text numbers = map decimal (parts space text) ≡ map (λ number. Some number) numbers
