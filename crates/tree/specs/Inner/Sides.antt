-- Trees in a double buffer.
use Rattle.std.specs.Prelude.{List, ℕ, get_or}
use Rattle.rule.specs.Rule.{Rule}
use Rattle.history.specs.Tree.{Tree}
use Rattle.tree.specs.Inner.Nodes.{HoldsTree}
use Rattle.tree.specs.Inner.Places.{no_side}
use Rattle.tree.specs.declared.nodes.Tree.{Tree as CodeTree}
use Rattle.tree.specs.declared.sides.DoubleBuffer.{DoubleBuffer}

-- the words of a side
abbrev pub words_on : DoubleBuffer → ℕ → List ℕ
words_on buffer side = (get_or buffer.sides side no_side).nodes

-- the tree that stands in a double buffer: the nodes of its side, and its count
abbrev pub tree_in : DoubleBuffer → CodeTree
tree_in buffer = record { nodes = words_on buffer buffer.side; count = buffer.count; within = buffer.within }

-- a tree over some rule stands in it
pub record SomeTreeIn (buffer : DoubleBuffer) : Type 0 where
  pub rule : Rule
  pub tree : Tree
  pub holds : HoldsTree rule tree (tree_in buffer)
