-- The largest of some numbers.
use Rattle.std.specs.Prelude.{List, [], ◌∷◌, ℕ, max}

-- 0 where there is none
unfoldable pub largest : List ℕ → ℕ
largest [] = 0
largest (x ∷ l) = max x (largest l)
