-- The map byte, from the lowest state up, by the laws of RowWriting.
use Rattle.table.proofs.RowWriting.{MapSoFar}
use Rattle.table.proofs.writer.row_map.Given as goal

abbrev pub invariant-loop-r : goal.invariant-loop-r
invariant-loop-r l = MapSoFar l.row l.map l.r
