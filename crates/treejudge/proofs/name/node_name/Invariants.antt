-- The name of a node, by the laws of NodeNames.
use Rattle.treejudge.proofs.NodeNames.{NamedSoFar}
use Rattle.treejudge.proofs.name.node_name.Given as goal

abbrev pub invariant-loop-word : goal.invariant-loop-word
invariant-loop-word l = NamedSoFar l.fn.tree l.number l.numbers l.length l.word-index
