-- Verdicts of the judges: 1 for yes, 0 for no.
use Rattle.std.specs.Prelude.{◌≡◌, ◌⊎◌, ℕ}

-- the verdict is yes, and P holds; or it is no, and P does not hold
abbrev pub Decides : ℕ → Type 0 → Type 0
Decides verdict P = ((verdict ≡ 1) × P) ⊎ ((verdict ≡ 0) × (P → ⊥))
