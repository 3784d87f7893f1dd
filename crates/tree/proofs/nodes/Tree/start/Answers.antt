-- The starting tree: one node in front of blank ones.
use mathlib.Core.Path.{refl}
use Rattle.base.specs.Lists.{pad}
use Rattle.tree.specs.Inner.PackedNodes.{unpacked}
use Rattle.tree.specs.Inner.RecordNodes.{start_nodes, blank_behind}
use Rattle.tree.proofs.nodes.Tree.start.Goals as goal

pub returns : goal.returns
unfolding start_nodes blank_behind pad unpacked
returns c =
    record { nodes = rw c.pack.ensures; count = refl }
