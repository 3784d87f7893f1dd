-- Question 11 at each byte, and the count, by the laws of RowWriting.
use Rattle.table.proofs.RowWriting.{CountedSoFar}
use Rattle.table.proofs.writer.count_transitions.Given as goal

abbrev pub invariant-loop-sets : goal.invariant-loop-sets
invariant-loop-sets l = CountedSoFar l.k l.grid l.count l.sets-index
