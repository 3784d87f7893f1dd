-- The bytes of a grid out of the arrays that hold it.
use mathlib.Core.List.{List, map, flatten}
use Rattle.std.specs.Prelude.{ℕ, take}
use Rattle.rule.specs.Rule.{Grid}

-- the bytes of the first n rows and n columns of a square
unfoldable pub square_bytes : ℕ → List (List ℕ) → List ℕ
square_bytes n square = flatten (map (take n) (take n square))

-- the grid of n states and m letters that arrays hold
unfoldable pub narrow : ℕ → ℕ → Grid → Grid
narrow n m cells = map (λ square. map (take n) (take n square)) (take m cells)
