-- `step_nodes` meets its contract, by the laws of PassLoop: one for each way through the loop's body.
use mathlib.Core.Path.{◌≡◌, refl, ◌∙◌}
use Prim.Native.Nat.{◌<◌, ◌≤◌}
use native.Mathlib.Omega.{arith}
use borrow.Author.Rules.{rules}
use lib.ListN.{get_or}
use Rattle.rule.specs.Limits.{max_states, max_sets}
use Rattle.tree.specs.Inner.Nodes.{blank_node}
use Rattle.tree.specs.Inner.PackedNodes.{counted_nodes}
use Rattle.tree.specs.Inner.Sides.{tree_in}
use Rattle.step.specs.Inner.LevelArrays.{waiting_levels}
use Rattle.step.specs.Inner.AtSibling.{AtSibling}
use Rattle.step.proofs.PassLoop.{sides_start, side_read, set_fits, node_skipped, node_removed, node_kept, sides_done}
use Rattle.step.proofs.RunningSet.{reading_at_sibling}
use Rattle.step.proofs.pass.step_nodes.Goals as goal
use Rattle.step.proofs.pass.step_nodes.Goals.{After-close_levels-at, After-unpack-x, then-depth-top+then-made-ne0, then-depth-top+else-made-ne0, else-depth-top}

-- a node is read
module _ (u : After-unpack-x) where
  read : u.unpack-x.result ≡ get_or (counted_nodes (tree_in u.args.buffer.now)) u.loop-i.i blank_node
  read = side_read _ _ _ u.loop-i.invariant u.loop-i-test.true _ u.unpack-x.ensures

  -- there are few
  few : u.loop-i.i < max_states
  few = omega (arith, u.loop-i-test.true, u.loop-i.invariant.ready.few)

  -- its active set has its images
  set_small : u.unpack-x.result.active ≤ max_sets
  set_small = rw read (set_fits _ _ _ u.loop-i.invariant u.loop-i-test.true)

-- once the deeper levels are closed
module _ (q : After-close_levels-at) where
  -- a node of the deepest level is a sibling that is reached: `running_set` (RunningSet.antt) speaks of `at.running` here
  pub at-node : q.from-depth.result ≡ q.close_levels-at.result.top
      → AtSibling q.args.lookup.now q.args.k (counted_nodes (tree_in q.args.buffer.now)) q.loop-i.i q.close_levels-at.result
  at-node here = reading_at_sibling q.loop-i.invariant q.close_levels-at.ensures here

pub loop-i-init : goal.loop-i-init
unfolding waiting_levels
loop-i-init c =
    sides_start _ _ _ c.requires (search rules) _ (search rules) refl

pub new_labels-made-requires : goal.new_labels-made-requires
new_labels-made-requires c =
    set_small (goal.at.new_labels-made-requires c).After-unpack-x

pub settled_node-requires : goal.settled_node-requires
settled_node-requires c =
    let u = (goal.at.settled_node-requires c).After-unpack-x in (set_small u, few u)

pub loop-i-preserved : goal.loop-i-preserved
loop-i-preserved c =
    let v = c.loop-i.invariant in
    let less = c.loop-i-test.true in
    let is = read (goal.at.loop-i-preserved c).After-unpack-x in
    let deep = c.from-depth.ensures in
    let closing = c.close_levels-at.ensures in
    elim c.if-depth-top.branch [
      | then-depth-top+then-made-ne0 w ↦
          rw (w.buffer-is, w.levels-is, w.accepting-is, w.stable-is, w.at-is)
          (node_kept _ _ _ v less _ is deep _ _ closing w.if-depth-top.true _ w.new_labels-made.ensures w.enter-at.ensures w.if-made-ne0.true
          _ (w.pack.ensures ∙ w.settled_node.ensures) _ _ w.joined_if-accepting.ensures w.joined_if-stable.ensures)
      | then-depth-top+else-made-ne0 w ↦
          rw (w.buffer-is, w.levels-is, w.accepting-is, w.stable-is, w.at-is)
          (node_removed _ _ _ v less _ is deep _ _ closing w.if-depth-top.true _ w.new_labels-made.ensures w.enter-at.ensures w.if-made-ne0.false)
      | else-depth-top w ↦
          rw (w.buffer-is, w.levels-is, w.accepting-is, w.stable-is, w.at-is) (node_skipped _ _ _ v less _ is deep _ _ closing w.if-depth-top.false)
    ]

pub returns : goal.returns
returns c =
    sides_done _ _ _ c.loop-i.invariant c.loop-i-test.false _ _ c.close_levels-end.ensures _ refl refl refl
