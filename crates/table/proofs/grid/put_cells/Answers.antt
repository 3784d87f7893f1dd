-- The squares, one behind the other.
use mathlib.Core.List.{[]}
use Prim.Native.Nat.{◌*◌}
use native.Mathlib.Omega.{arith}
use native.Mathlib.Nat.{suc-mul}
use Rattle.base.proofs.EachStored.{each_start, each_next, each_done}
use Rattle.table.proofs.GridWriting.{grid_by_squares, squares_length}
use Rattle.table.proofs.grid.put_cells.Goals as goal

pub loop-square-init : goal.loop-square-init
loop-square-init c =
    (omega arith, each_start (omega (arith, squares_length c.args.header.states c.args.header.letters c.args.cells.now)))

pub loop-square-preserved : goal.loop-square-preserved
loop-square-preserved c =
    let e = c.put_letter-at.ensures in
    let n = c.args.header.states in
    (omega (arith, suc-mul c.loop-square.square-index (n * n)), rw (e.1.1, e.0) (each_next c.loop-square.invariant.1 [] c.loop-square-test.true))

pub returns : goal.returns
returns c =
    rw (← grid_by_squares _ _ _) (each_done c.loop-square.invariant.1 c.loop-square-test.false).0
