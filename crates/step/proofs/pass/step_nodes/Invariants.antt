-- `step_nodes` meets its contract, by the laws of PassLoop: one for each way through the loop's body.
use Rattle.step.proofs.PassLoop.{OnSides}
use Rattle.step.proofs.pass.step_nodes.Given as goal

abbrev pub invariant-loop-i : goal.invariant-loop-i
invariant-loop-i l = OnSides l.lookup l.k l.initial.buffer l.buffer.sides l.levels l.accepting l.stable l.at l.i
