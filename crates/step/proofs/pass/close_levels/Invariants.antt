-- `close_levels` meets its contract, by the laws of ClosingLoop: one for each way through the loop's body.
use Rattle.step.proofs.ClosingLoop.{ClosedSoFar}
use Rattle.step.proofs.pass.close_levels.Given as goal

abbrev pub invariant-loop-top : goal.invariant-loop-top
invariant-loop-top l = ClosedSoFar l.levels l.depth l.fn.at l.initial.next l.next l.top l.running l.written

abbrev pub decreases-loop-top : goal.decreases-loop-top
decreases-loop-top l = l.top
