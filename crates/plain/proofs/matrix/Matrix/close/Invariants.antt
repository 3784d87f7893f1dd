-- `close` meets its contract. The loop has the ways that may pass the states that it has passed.
use mathlib.Core.Path.{◌≡◌}
use Rattle.plain.specs.Inner.Ways.{ways, AreWays}
use Rattle.plain.specs.Inner.Rounds.{closure}
use Rattle.plain.proofs.matrix.Matrix.close.Given as goal

abbrev pub invariant-loop-middle : goal.invariant-loop-middle
invariant-loop-middle l = (l.self.states ≡ l.initial.self.states) × AreWays l.initial.self.states (closure l.middle (ways l.initial.self.rows)) l.self.rows
