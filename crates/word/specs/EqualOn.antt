-- Editing a mode the walk never uses (document 02, U10): what the rules of two tables have in common if the tables differ only in the cells
-- of letters that the walk does not have.
use Rattle.std.specs.Prelude.{◌≡◌, ◌↔◌, List, ℕ}
use Rattle.base.specs.Outcome.{accepted}
use Rattle.base.specs.Lists.{Every}
use Rattle.rule.specs.Rule.{Rule, square_of}
use Rattle.table.specs.Table.{read_rule}
use Rattle.table.specs.Cells.{header_bytes, letter_cells}

-- "equal in header and starting map, and equal in all cells of the letters that occur in u or v". A letter from m up has no cells.
pub record EqualOn (R S : Rule) (u v : List ℕ) : Type 0 where
  pub states : R.states ≡ S.states
  pub letters : R.letters ≡ S.letters
  pub sets : R.sets ≡ S.sets
  pub start : R.start ≡ S.start
  pub lead : Every (λ a. square_of R a ≡ square_of S a) u
  pub tail : Every (λ a. square_of R a ≡ square_of S a) v

-- the same of two tables, byte by byte: they differ only in the cells of letters that do not occur
pub record EqualBytesOn (table table' u v : List ℕ) : Type 0 where
  pub header : header_bytes table ≡ header_bytes table'
  pub lead : Every (λ a. letter_cells table a ≡ letter_cells table' a) u
  pub tail : Every (λ a. letter_cells table a ≡ letter_cells table' a) v

-- two accepted tables are so by their bytes just if their rules are so
abbrev pub EqualByBytes : Type 0
EqualByBytes =
    (table table' u v : List ℕ) (R S : Rule) → read_rule table ≡ accepted R → read_rule table' ≡ accepted S
    → EqualBytesOn table table' u v ↔ EqualOn R S u v
