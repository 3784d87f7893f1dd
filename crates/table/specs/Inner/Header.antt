-- The numbers of a rule as the code holds them, and questions 2 and 3 to them.
use Rattle.std.specs.Prelude.{◌≡◌, ℕ}
use Rattle.base.specs.Outcome.{Outcome, accepted}
use Rattle.table.specs.Table.{ask_header}
use Rattle.table.specs.declared.header.Header.{Header}

-- a header has these numbers
pub record HasNumbers (n m k map : ℕ) (header : Header) : Type 0 where
  pub states : header.states ≡ n
  pub letters : header.letters ≡ m
  pub sets : header.sets ≡ k
  pub start : header.start ≡ map

-- questions 2 and 3 by themselves
unfoldable pub header_outcome : ℕ → ℕ → ℕ → ℕ → Outcome (Unit {0})
header_outcome n m k start = ask_header n m k start (accepted tt)
