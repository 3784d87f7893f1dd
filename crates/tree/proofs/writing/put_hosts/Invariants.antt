-- The hosts of a map's states, by the laws of WritingInTurn.
use Rattle.tree.specs.Inner.PackedNodes.{nodes_in}
use Rattle.tree.proofs.WritingInTurn.{HostsStored}
use Rattle.tree.proofs.writing.put_hosts.Given as goal

abbrev pub invariant-loop-state : goal.invariant-loop-state
invariant-loop-state l = HostsStored (nodes_in l.nodes) l.n l.states l.initial.out l.from l.out l.at l.state
