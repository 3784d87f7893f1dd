-- What the writer's parts answer and write, for the contracts inside this crate.
use mathlib.Core.List.{List, flat_map}
use Rattle.std.specs.Prelude.{ℕ, Option, Some, None, length}
use Rattle.base.specs.Outcome.{Outcome, refused, accepted, ask}
use Rattle.rule.specs.WellFormed.{bytes_fit}
use Rattle.table.specs.Table.{set_bytes, cell_bytes, parts}

-- the number of transitions that was counted, or question 11's number
abbrev pub counted_as : Option ℕ → Outcome ℕ
counted_as (Some count) = accepted count
counted_as None = refused 11

-- question 11's "each 255 or below 2^k" put to some grid bytes; on yes the number of their transitions, which have a set byte each
unfoldable pub transition_count : ℕ → List ℕ → Outcome ℕ
transition_count k bytes = ask (bytes_fit k bytes) 11 (accepted (length (set_bytes bytes)))

-- the cells of c rows of n grid bytes
unfoldable pub row_cells : ℕ → ℕ → List ℕ → List ℕ
row_cells n c bytes = flat_map cell_bytes (parts n c bytes)
