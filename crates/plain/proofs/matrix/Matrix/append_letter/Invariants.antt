-- `append_letter` meets its contract. The loop changes one row after the other.
use mathlib.Core.Path.{◌≡◌}
use Rattle.plain.specs.Inner.Ways.{Changed}
use Rattle.plain.specs.Inner.Letters.{extended}
use Rattle.plain.proofs.matrix.Matrix.append_letter.Given as goal

abbrev pub invariant-loop-state : goal.invariant-loop-state
invariant-loop-state l = (l.self.states ≡ l.initial.self.states) × Changed (extended l.lookup) l.state l.initial.self.rows l.self.rows
