-- Nodes compared, but for their old numbers.
use Rattle.std.specs.Prelude.{Bool, true, false, ◌&&◌, List, [], ◌∷◌, eqb}
use Rattle.tree.specs.Inner.PackedNodes.{counted_nodes}
use Rattle.tree.specs.declared.nodes.Node.{Node as CodeNode}
use Rattle.tree.specs.declared.nodes.Tree.{Tree as CodeTree}

unfoldable pub same_node : CodeNode → CodeNode → Bool
same_node x y = eqb x.label y.label && (eqb x.kids y.kids && (eqb x.depth y.depth && eqb x.active y.active))

unfoldable pub same_nodes : List CodeNode → List CodeNode → Bool
same_nodes [] [] = true
same_nodes [] (y ∷ others) = false
same_nodes (x ∷ nodes) [] = false
same_nodes (x ∷ nodes) (y ∷ others) = same_node x y && same_nodes nodes others

-- the nodes that count of two trees
abbrev pub same_trees : CodeTree → CodeTree → Bool
same_trees x y = same_nodes (counted_nodes x) (counted_nodes y)
