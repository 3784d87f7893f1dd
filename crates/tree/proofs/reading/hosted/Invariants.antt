-- The states hosted in a range, by the laws of ReadingInTurn.
use Rattle.tree.proofs.ReadingInTurn.{HostedSoFar}
use Rattle.tree.proofs.reading.hosted.Given as goal

abbrev pub invariant-loop-state : goal.invariant-loop-state
invariant-loop-state l = HostedSoFar l.n l.map l.hosts l.low l.high l.states l.at l.state
