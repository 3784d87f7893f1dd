-- `reached` meets its contract. The loop has the states reached from the states that it has passed.
use mathlib.Core.Path.{◌≡◌}
use Rattle.plain.specs.Inner.Search.{reached}
use Rattle.plain.proofs.matrix.Matrix.reached.Given as goal

abbrev pub invariant-loop-state : goal.invariant-loop-state
invariant-loop-state l = l.all ≡ reached l.state l.self.rows l.from
