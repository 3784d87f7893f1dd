-- The squares, one behind the other.
use Prim.Native.Nat.{◌*◌}
use mathlib.Core.Path.{◌≡◌}
use Rattle.base.proofs.EachStored.{EachStored}
use Rattle.table.specs.Inner.GridBytes.{square_bytes}
use Rattle.table.proofs.grid.put_cells.Given as goal

abbrev pub invariant-loop-square : goal.invariant-loop-square
invariant-loop-square l =
    let n = l.header.states in
    (l.at ≡ l.square-index * (n * n)) × EachStored (square_bytes n) l.square-items l.initial.out 0 l.out l.at l.square-index
