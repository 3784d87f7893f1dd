-- `close_through` meets its contract. The loop changes one row after the other.
use mathlib.Core.Path.{◌≡◌}
use Rattle.plain.specs.Inner.Ways.{Changed}
use Rattle.plain.specs.Inner.Rounds.{continued}
use Rattle.plain.proofs.matrix.Matrix.close_through.Given as goal

abbrev pub invariant-loop-state : goal.invariant-loop-state
invariant-loop-state l = (l.self.states ≡ l.initial.self.states) × Changed (λ row. continued row l.middle l.behind) l.state l.initial.self.rows l.self.rows
