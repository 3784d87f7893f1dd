-- Rules whose starting map and grid fit their numbers.
use Rattle.std.specs.Prelude.{◌≡◌, Bool, true, not, ◌&&◌, ◌||◌, List, [], ◌∷◌, ℕ, ◌^◌, eqb, ltb, length}
use Rattle.base.specs.Lists.{Every}
use Rattle.rule.specs.Limits.{no_transition}
use Rattle.rule.specs.Rule.{Rule}

-- "Is the starting map non-empty, no bit from n up?"
unfoldable pub start_fits : ℕ → ℕ → Bool
start_fits n start = not (eqb start 0) && ltb start (2 ^ n)

-- "each 255 or below 2^k"
unfoldable pub bytes_fit : ℕ → List ℕ → Bool
bytes_fit k [] = true
bytes_fit k (x ∷ bytes) = (eqb x no_transition || ltb x (2 ^ k)) && bytes_fit k bytes

-- a row of n bytes, and a square of n rows, that fit k sets
abbrev pub RowFits : ℕ → ℕ → List ℕ → Type 0
RowFits n k row = (length row ≡ n) × (bytes_fit k row ≡ true)

abbrev pub SquareFits : ℕ → ℕ → List (List ℕ) → Type 0
SquareFits n k square = (length square ≡ n) × Every (RowFits n k) square

-- a rule whose starting map and grid fit its numbers, whatever these are
pub record WellFormed (R : Rule) : Type 0 where
  pub starts : start_fits R.states R.start ≡ true
  pub squares : length R.grid ≡ R.letters
  pub fits : Every (SquareFits R.states R.sets) R.grid
