-- `close_through` meets its contract. The loop changes one row after the other.
use native.Mathlib.Omega.{arith}
use mathlib.Core.Path.{◌≡◌}
use Rattle.plain.proofs.RoundRows.{through_ways}
use Rattle.plain.proofs.matrix.Matrix.close_through.Goals as goal

pub returns : goal.returns
returns c =
    let e : c.loop-state.state ≡ c.args.self.now.states = omega arith in (
      c.loop-state.invariant.0,
      through_ways _ _ _ _ _ (omega arith) c.continued-behind.ensures (rw e at c.loop-state.invariant.1),
    )
