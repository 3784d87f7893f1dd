-- The dead tree, by computation.
use mathlib.Core.Path.{refl}
use Rattle.base.specs.Lists.{pad}
use Rattle.tree.specs.Inner.PackedNodes.{unpacked}
use Rattle.tree.specs.Inner.RecordCode.{tree_beside}
use Rattle.tree.specs.Inner.RecordNodes.{blank_behind}
use Rattle.tree.specs.Inner.Nodes.{nodes_from, nodes_of}
use Rattle.tree.proofs.record.no_record.Goals as goal

pub returns : goal.returns
unfolding tree_beside nodes_of nodes_from blank_behind pad unpacked
returns c =
    record { count = refl; tree = record { nodes = refl; count = refl } }
