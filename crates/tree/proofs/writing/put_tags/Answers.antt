-- The tags, by the laws of WritingInTurn.
use mathlib.Core.Path.{◌≡◌, refl}
use Prim.Native.Nat.{◌+◌, ◌*◌, ◌<◌}
use native.Mathlib.Omega.{arith}
use lib.ListN.{get_or, length}
use Rattle.tree.specs.Inner.PackedNodes.{nodes_in}
use Rattle.tree.specs.Inner.Nodes.{blank_node}
use Rattle.tree.proofs.PackedWords.{node_read, nodes_many}
use Rattle.tree.proofs.WritingInTurn.{tags_start, tag_small, tags_fits, tags_put, tags_done}
use Rattle.tree.proofs.writing.put_tags.Goals as goal
use Rattle.tree.proofs.writing.put_tags.Goals.{After-unpack-node}

pub loop-number-init : goal.loop-number-init
loop-number-init c =
    tags_start _ _ _ _ c.requires.0 (rw (nodes_many c.args.nodes.now refl) c.requires.1)

-- a node is read
module _ (c : After-unpack-node) where
  inside : c.loop-number.number < length (nodes_in c.args.nodes.now)
  inside = rw (nodes_many c.args.nodes.now refl) c.loop-number-test.true

  read : c.unpack-node.result ≡ get_or (nodes_in c.args.nodes.now) c.loop-number.number blank_node
  read = node_read c.args.nodes.now c.loop-number.number c.unpack-node.ensures

  -- its tag is a byte
  small : 16 * c.unpack-node.result.depth + c.unpack-node.result.active < 256
  small = tag_small c.loop-number.invariant inside _ read

  -- and there is room for it
  room : c.args.from + c.loop-number.number < length c.loop-number.out
  room = tags_fits c.loop-number.invariant inside

pub overflow_mul-out : goal.overflow_mul-out
overflow_mul-out c =
    omega (arith, small (goal.at.overflow_mul-out c).After-unpack-node)

pub overflow_cast-out : goal.overflow_cast-out
overflow_cast-out c =
    omega (arith, small (goal.at.overflow_cast-out c).After-unpack-node)

pub overflow_add-out : goal.overflow_add-out
overflow_add-out c =
    omega (arith, small (goal.at.overflow_add-out c).After-unpack-node)

pub bounds-out-from : goal.bounds-out-from
bounds-out-from c =
    room (goal.at.bounds-out-from c).After-unpack-node

pub loop-number-preserved : goal.loop-number-preserved
loop-number-preserved c =
    let q = (goal.at.loop-number-preserved c).After-unpack-node in
    tags_put c.loop-number.invariant (inside q) _ (read q)

pub returns : goal.returns
returns c =
    rw (← nodes_many c.args.nodes.now refl) (tags_done c.loop-number.invariant (rw (nodes_many c.args.nodes.now refl) c.loop-number-test.false))
