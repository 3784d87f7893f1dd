-- A cell: its map byte, then its set bytes.
use mathlib.Core.Path.{◌∙◌}
use native.Mathlib.Omega.{arith}
use lib.ListN.{length-set}
use Rattle.table.specs.Table.{cell_bytes}
use Rattle.table.proofs.TableWriting.{cell_stored}
use Rattle.table.proofs.writer.put_cell.Goals as goal

pub bounds-table-from : goal.bounds-table-from
unfolding cell_bytes
bounds-table-from c =
    omega arith

pub put_sets-requires : goal.put_sets-requires
unfolding cell_bytes
put_sets-requires c =
    simp length-set (omega arith)

pub returns : goal.returns
unfolding cell_bytes
returns c =
    let e = c.put_sets.ensures in
    (omega (arith, e.0), e.1 ∙ rw c.row_map.ensures (cell_stored _ _ _ c.requires.1))
