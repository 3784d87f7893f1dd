-- The rows of a square, one behind the other.
use mathlib.Core.Path.{◌≡◌}
use mathlib.Core.List.{[]}
use native.Mathlib.Omega.{arith}
use native.Mathlib.Nat.{suc-mul}
use lib.ListN.{length-take}
use Rattle.base.proofs.EachStored.{each_start, each_next, each_done}
use Rattle.table.proofs.GridWriting.{square_by_rows, rows_length}
use Rattle.table.proofs.grid.put_letter.Goals as goal

pub loop-row-init : goal.loop-row-init
loop-row-init c =
    let n = c.args.header.states in
    (omega arith, each_start (omega (arith, rows_length n n c.args.square.now)))

pub loop-row-preserved : goal.loop-row-preserved
loop-row-preserved c =
    let e = c.put_row-at.ensures in
    (omega (arith, suc-mul c.loop-row.row-index c.args.header.states), rw (e.1.1, e.0) (each_next c.loop-row.invariant.1 [] c.loop-row-test.true))

pub returns : goal.returns
returns c =
    let n = c.args.header.states in
    let (same, place) = each_done c.loop-row.invariant.1 c.loop-row-test.false in
    let e : c.loop-row.row-index ≡ n = omega (arith, length-take n c.args.square.now) in
    rw (← square_by_rows n c.args.square.now) (place, (rw e at c.loop-row.invariant.0, same))
