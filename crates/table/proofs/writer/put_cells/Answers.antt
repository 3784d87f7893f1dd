-- The cells of the rows, one behind the other.
use native.Mathlib.Omega.{arith}
use Rattle.table.proofs.TableWriting.{cells_start, row_length, cells_room, cells_next, cells_done}
use Rattle.table.proofs.writer.put_cells.Goals as goal

pub loop-row-init : goal.loop-row-init
loop-row-init c =
    cells_start _ _ _ _ c.requires.0 c.requires.1

pub put_cell-at-requires : goal.put_cell-at-requires
put_cell-at-requires c =
    let v = c.loop-row.invariant in
    (omega (arith, row_length v c.loop-row-test.true), cells_room v c.loop-row-test.true)

pub loop-row-preserved : goal.loop-row-preserved
loop-row-preserved c =
    let e = c.put_cell-at.ensures in
    rw (e.1, e.0) (cells_next c.loop-row.invariant c.loop-row-test.true)

pub returns : goal.returns
returns c =
    cells_done c.loop-row.invariant c.loop-row-test.false
