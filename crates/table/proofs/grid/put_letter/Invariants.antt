-- The rows of a square, one behind the other.
use Prim.Native.Nat.{◌+◌, ◌*◌}
use mathlib.Core.Path.{◌≡◌}
use lib.ListN.{take}
use Rattle.base.proofs.EachStored.{EachStored}
use Rattle.table.proofs.grid.put_letter.Given as goal

abbrev pub invariant-loop-row : goal.invariant-loop-row
invariant-loop-row l =
    let n = l.header.states in
    (l.at ≡ l.from + l.row-index * n) × EachStored (take n) l.row-items l.initial.out l.from l.out l.at l.row-index
