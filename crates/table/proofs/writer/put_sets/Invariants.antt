-- The set bytes of a row, one behind the other.
use Rattle.base.proofs.EachStored.{EachStored}
use Rattle.table.proofs.RowWriting.{set_byte}
use Rattle.table.proofs.writer.put_sets.Given as goal

abbrev pub invariant-loop-sets : goal.invariant-loop-sets
invariant-loop-sets l = EachStored set_byte l.row l.initial.table l.from l.table l.at l.sets-index
