-- `carry` meets its contract. The loop has the maps of the nodes that it has passed, both in one word.
use borrow.Author.Rules.{rules}
use mathlib.Core.Path.{◌≡◌, refl}
use native.Mathlib.Omega.{arith}
use Prim.Native.Nat.{◌≤◌, min}
use lib.ListN.{length, length-take}
use Rattle.base.specs.BitSet.{collect}
use Rattle.tree.specs.Inner.Sides.{tree_in}
use Rattle.tree.proofs.PackedWords.{node_read}
use Rattle.letters.proofs.MapsCarried.{carried_to, both_more, both_all}
use Rattle.letters.proofs.follow.carry.Goals as goal
use Rattle.letters.proofs.follow.carry.Goals.{After-nodes-word-items}

-- there are few nodes
few : (c : After-nodes-word-items) → length c.nodes-word-items.result.now ≤ 16
few c = rw c.nodes-word-items.ensures (omega (arith, c.args.buffer.now.within, length-take c.args.buffer.now.count (tree_in c.args.buffer.now).nodes))

pub loop-j-init : goal.loop-j-init
unfolding carried_to collect
loop-j-init c =
    refl

pub loop-j-preserved : goal.loop-j-preserved
loop-j-preserved c =
    let maps = c.args.maps in
    let read = node_read c.nodes-word-items.result.now c.loop-j.j c.unpack-old.ensures in
    let shift : c.min.result ≡ min c.unpack-old.result.old 31 = omega (arith, c.min.ensures) in
    rw (c.loop-j.invariant, c.from.ensures, c.from-2.ensures)
    (both_more _ maps _ (search rules) (search rules)
    (omega (arith, few (goal.at.loop-j-preserved c).After-nodes-word-items, c.loop-j-test.true)) _ read _ shift)

pub returns : goal.returns
returns c =
    let end : c.loop-j.j ≡ length c.nodes-word-items.result.now = omega arith in
    rw (c.loop-j.invariant, end)
    (both_all _ c.args.maps _ (few (goal.at.returns c).After-nodes-word-items) c.nodes-word-items.ensures)
