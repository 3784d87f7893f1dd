-- `close` meets its contract. The loop has the ways that may pass the states that it has passed.
use native.Mathlib.Omega.{arith}
use mathlib.Core.Path.{◌∙◌}
use Rattle.plain.proofs.RoundRows.{closure_more}
use Rattle.plain.proofs.matrix.Matrix.close.Goals as goal

pub loop-middle-preserved : goal.loop-middle-preserved
loop-middle-preserved c =
    let (same, are) = c.loop-middle.invariant in
    let (still, more) = c.close_through.ensures in
    (still ∙ same, closure_more _ _ c.loop-middle.middle _ _ (omega arith) are (rw same at more))
