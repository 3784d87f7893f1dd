-- A node for each tag, by the laws of ReadingInTurn.
use Prim.Native.Nat.{◌+◌}
use mathlib.Core.Path.{refl}
use native.Mathlib.Omega.{arith}
use Rattle.base.proofs.Flattening.{to_end}
use Rattle.tree.specs.Inner.PackedNodes.{unpacked}
use Rattle.tree.proofs.PackedWords.{node_written}
use Rattle.tree.proofs.ReadingInTurn.{deeper_few, nodes_start, nodes_next, nodes_done}
use Rattle.tree.proofs.reading.record_nodes.Goals as goal

pub loop-number-init : goal.loop-number-init
unfolding unpacked
loop-number-init c =
    nodes_start _ _ _ refl c.requires.1

pub overflow_add-end : goal.overflow_add-end
overflow_add-end c =
    let number = c.loop-number.number in
    let tags = c.args.tags.now in
    omega (arith, deeper_few _ (number + 1) tags (to_end (number + 1) tags) c.deeper.ensures)

pub loop-number-preserved : goal.loop-number-preserved
loop-number-preserved c =
    let number = c.loop-number.number in
    let tags = c.args.tags.now in
    nodes_next c.loop-number.invariant c.loop-number-test.true _ _ _ _ (to_end (number + 1) tags) c.deeper.ensures
    c.hosted.ensures c.hosted-in-loop-number.ensures _
    (node_written c.loop-number.nodes number c.pack.result (rw c.from.ensures at c.pack.ensures))

pub returns : goal.returns
returns c =
    nodes_done c.loop-number.invariant c.loop-number-test.false
