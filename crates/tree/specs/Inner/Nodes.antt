-- A tree as the code holds it, and what one letter makes of it, in terms of the definitions of trees.
use Rattle.std.specs.Prelude.{◌≡◌, true, List, [], ◌∷◌, ◌++◌, map, ℕ, suc}
use Rattle.rule.specs.Rule.{Rule}
use Rattle.history.specs.Forest.{nil, node, size}
use Rattle.history.specs.Tree.{Tree, labels, is_tree_of}
use Rattle.tree.specs.Inner.PackedNodes.{counted_nodes}
use Rattle.tree.specs.declared.nodes.Node.{Node as CodeNode}
use Rattle.tree.specs.declared.nodes.Tree.{Tree as CodeTree}

-- the nodes of siblings at depth d and of all below them, in number order; the old number does not count here
unfoldable pub nodes_from : ℕ → Tree → List CodeNode
nodes_from d nil = []
nodes_from d (node x below younger) =
    record { depth = d; label = x.label; kids = labels below; active = x.active; old = 0 }
    ∷ (nodes_from (suc d) below ++ nodes_from d younger)

unfoldable pub nodes_of : Tree → List CodeNode
nodes_of T = nodes_from 0 T

-- a node without its old number
abbrev pub without_old : CodeNode → CodeNode
without_old x = record { depth = x.depth; label = x.label; kids = x.kids; active = x.active; old = 0 }

-- some nodes are those of a tree
abbrev pub AreNodes : List CodeNode → Tree → Type 0
AreNodes nodes T = map without_old nodes ≡ nodes_of T

-- the nodes that count are those of T, a tree of the rule R
pub record HoldsTree (R : Rule) (T : Tree) (x : CodeTree) : Type 0 where
  pub fits : is_tree_of R T ≡ true
  pub counts : x.count ≡ size T
  pub are : AreNodes (counted_nodes x) T

-- a blank node
abbrev pub blank_node : CodeNode
blank_node = record { depth = 0; label = 0; kids = 0; active = 0; old = 0 }
