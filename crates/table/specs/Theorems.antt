-- What is proved of rule tables, in terms of the outcomes that the calls' contracts name.
use Rattle.std.specs.Prelude.{◌≡◌, true, ◌↔◌, ℕ, ◌≤◌, length}
use mathlib.Core.List.{List, ◌++◌, flatten}
use Rattle.base.specs.Outcome.{accepted, Tells}
use Rattle.base.specs.Lists.{tabulate}
use Rattle.base.specs.LentBuffer.{stored}
use Rattle.rule.specs.Rule.{Rule, square_of}
use Rattle.rule.specs.WellFormed.{WellFormed}
use Rattle.table.specs.Table.{in_range, table_bytes, grid_bytes, read_rule}
use Rattle.table.specs.Cells.{header_bytes, letter_cells}
use Rattle.table.specs.ReadCall.{read_outcome, read_answer, grid_after}
use Rattle.table.specs.WriteCall.{write_outcome, write_answer}

-- demand 2, "A grid written as a rule table reads back as that grid", with the same numbers, into every buffer that
-- has room
abbrev pub WrittenReadsBack : Type 0
WrittenReadsBack =
    (n m k start : ℕ) (grid buffer table : List ℕ) → write_outcome n m k start grid buffer ≡ accepted table
    → (other : List ℕ) → length grid ≤ length other
    → (read_answer (read_outcome table other) ≡ record { number = 0; states = n; letters = m; sets = k; start = start })
    × (grid_after (read_outcome table other) other ≡ stored 0 grid other)

-- demand 2, "and an accepted table, read and written, is the same bytes"
abbrev pub ReadWritesBack : Type 0
ReadWritesBack =
    (table buffer : List ℕ) (R : Rule) → read_outcome table buffer ≡ accepted R
    → (other : List ℕ) → length table ≤ length other
    → write_outcome R.states R.letters R.sets R.start (grid_bytes R.grid) other ≡ accepted table

-- "No gives the number": what the numbers in the answers of the reader and of the writer tell
abbrev pub ReadNumber : Type 0
ReadNumber = (table buffer : List ℕ) → Tells (read_outcome table buffer) (read_answer (read_outcome table buffer)).number

abbrev pub WriteNumber : Type 0
WriteNumber =
    (n m k start : ℕ) (grid buffer : List ℕ)
    → Tells (write_outcome n m k start grid buffer) (write_answer (write_outcome n m k start grid buffer)).number

-- the accepted tables are just the tables of well-formed rules within the limits, and the rule read is the one written
abbrev pub AcceptedTables : Type 0
AcceptedTables =
    (table : List ℕ) (R : Rule)
    → (read_rule table ≡ accepted R) ↔ ((WellFormed R × (in_range R.states R.letters R.sets ≡ true)) × (table_bytes R ≡ table))

-- "A table has 5 to 1,156 bytes."
abbrev pub AcceptedLengths : Type 0
AcceptedLengths = (table : List ℕ) (R : Rule) → read_rule table ≡ accepted R → (5 ≤ length table) × (length table ≤ 1156)

-- an accepted table is its header, then the cells of letter 0, of letter 1 and so on to letter m−1, and nothing else
abbrev pub TableByLetters : Type 0
TableByLetters =
    (table : List ℕ) (R : Rule) → read_rule table ≡ accepted R
    → header_bytes table ++ flatten (tabulate R.letters (letter_cells table)) ≡ table

-- two accepted tables with the same header have the same bytes in the cells of a letter just if their rules have the same square of it
abbrev pub SameCells : Type 0
SameCells =
    (table table' : List ℕ) (R S : Rule) → read_rule table ≡ accepted R → read_rule table' ≡ accepted S
    → header_bytes table ≡ header_bytes table'
    → (a : ℕ) → (letter_cells table a ≡ letter_cells table' a) ↔ (square_of R a ≡ square_of S a)
