-- A node for each tag, by the laws of ReadingInTurn.
use Rattle.history.specs.Record.{hosted_in}
use Rattle.tree.specs.Inner.PackedNodes.{nodes_in}
use Rattle.tree.proofs.ReadingInTurn.{NodesSoFar}
use Rattle.tree.proofs.reading.record_nodes.Given as goal

abbrev pub invariant-loop-number : goal.invariant-loop-number
invariant-loop-number l = NodesSoFar (hosted_in l.n l.map l.hosts) l.tags (nodes_in l.nodes) l.number
