-- The set bytes of a row, one behind the other.
use mathlib.Core.Path.{ap}
use native.Mathlib.Omega.{arith}
use lib.ListN.{length}
use Rattle.base.proofs.Storing.{pieces_size}
use Rattle.base.proofs.EachStored.{each_start, each_room, each_byte, each_skip, each_done}
use Rattle.table.proofs.RowWriting.{set_bytes_each, set_byte_none, set_byte_one}
use Rattle.table.proofs.writer.put_sets.Goals as goal
use Rattle.table.proofs.writer.put_sets.Goals.{then-sets, else-sets}

pub loop-sets-init : goal.loop-sets-init
loop-sets-init c =
    each_start (rw (set_bytes_each _) at c.requires)

pub bounds-table-at : goal.bounds-table-at
bounds-table-at c =
    let v = c.loop-sets.invariant in
    let h = c.loop-sets-test.true in
    omega (arith, each_room v 0 h, pieces_size v.pieces, ap length (set_byte_one _ c.if-sets.true))

pub loop-sets-preserved : goal.loop-sets-preserved
loop-sets-preserved c =
    elim c.if-sets.branch [
      | then-sets w ↦ rw (w.table-is, w.at-is) (each_byte c.loop-sets.invariant 0 c.loop-sets-test.true _ (set_byte_one _ w.if-sets.true))
      | else-sets w ↦ rw (w.table-is, w.at-is) (each_skip c.loop-sets.invariant 0 c.loop-sets-test.true (set_byte_none _ w.if-sets.false))
    ]

pub returns : goal.returns
returns c =
    let (same, place) = each_done c.loop-sets.invariant c.loop-sets-test.false in
    rw (set_bytes_each _) (place, same)
