-- The cells of the rows, one behind the other.
use Rattle.table.proofs.TableWriting.{CellsStored}
use Rattle.table.proofs.writer.put_cells.Given as goal

abbrev pub invariant-loop-row : goal.invariant-loop-row
invariant-loop-row l = CellsStored l.n l.row-end l.grid l.initial.table l.table l.at l.row
