-- The map byte, from the lowest state up, by the laws of RowWriting.
use mathlib.Core.Path.{◌∙◌}
use native.Mathlib.Omega.{arith}
use native.Mathlib.Nat.{one-mul}
use lib.Pow.{shl_exact}
use Rattle.table.proofs.RowWriting.{map_skip, map_one, map_done}
use Rattle.table.proofs.writer.row_map.Goals as goal
use Rattle.table.proofs.writer.row_map.Goals.{then-sets, else-sets}

pub loop-r-preserved : goal.loop-r-preserved
loop-r-preserved c =
    let r = c.loop-r.r in
    let bit = shl_exact {a = 1} 1 r 8 (omega arith) (omega arith) ∙ one-mul _ in
    elim c.if-sets.branch [
      | then-sets w ↦ rw (w.map-is, bit) (map_one c.loop-r.invariant c.loop-r-test.true w.if-sets.true)
      | else-sets w ↦ rw w.map-is (map_skip c.loop-r.invariant c.loop-r-test.true w.if-sets.false)
    ]

pub returns : goal.returns
returns c =
    map_done c.loop-r.invariant c.loop-r-test.false
