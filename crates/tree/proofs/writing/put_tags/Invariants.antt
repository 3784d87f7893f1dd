-- The tags, by the laws of WritingInTurn.
use Rattle.tree.specs.Inner.PackedNodes.{nodes_in}
use Rattle.tree.proofs.WritingInTurn.{TagsStored}
use Rattle.tree.proofs.writing.put_tags.Given as goal

abbrev pub invariant-loop-number : goal.invariant-loop-number
invariant-loop-number l = TagsStored l.n (nodes_in l.nodes) l.initial.out l.from l.out l.number
