-- The name of a node, by the laws of NodeNames.
use Prim.Native.Nat.{◌+◌, ◌-◌, ◌<◌}
use native.Mathlib.Omega.{arith}
use mathlib.Core.Path.{◌≡◌, refl, ◌∙◌}
use Rattle.treejudge.proofs.NodeNames.{node_depth, name_start, node_behind, depth_low, depth_short, number_small, name_beside, name_deeper}
use Rattle.treejudge.proofs.name.node_name.Goals as goal
use Rattle.treejudge.proofs.name.node_name.Goals.{After-from-depth, then-last-length, else-last-length}

-- the node that is read, and its depth
here : (c : After-from-depth) → let i = c.loop-word.word-index in
    (i < c.args.number) × (c.from-depth.result ≡ node_depth c.args.tree (i + 1))
here c =
    let n = c.args.number + 1 - 1 in
    let same : n ≡ c.args.number = omega arith in
    let (before, read) = node_behind c.requires c.nodes.ensures n _ same c.loop-word-test.true c.unpack.ensures in
    (before, c.from-depth.ensures ∙ read)

pub loop-word-init : goal.loop-word-init
loop-word-init c =
    name_start _ _ _ refl

pub overflow_sub-last : goal.overflow_sub-last
overflow_sub-last c =
    let (before, depth) = here (goal.at.overflow_sub-last c).After-from-depth in
    rw depth (depth_low c.requires c.loop-word.invariant before)

pub overflow_add-numbers : goal.overflow_add-numbers
overflow_add-numbers c =
    let (before, depth) = here (goal.at.overflow_add-numbers c).After-from-depth in
    let small = number_small c.requires c.loop-word.invariant before (rw depth at c.if-last-length.true) in
    omega (arith, rw (← depth) at small)

pub bounds-numbers-last-in-loop-word : goal.bounds-numbers-last-in-loop-word
bounds-numbers-last-in-loop-word c =
    let (before, depth) = here (goal.at.bounds-numbers-last-in-loop-word c).After-from-depth in
    omega (arith, depth, depth_short c.requires c.loop-word.invariant before)

pub loop-word-preserved : goal.loop-word-preserved
loop-word-preserved c =
    let (before, depth) = here (goal.at.loop-word-preserved c).After-from-depth in
    elim c.if-last-length.branch [
      | then-last-length w ↦ rw (w.numbers-is, depth) (name_beside c.requires c.loop-word.invariant before (rw depth at w.if-last-length.true))
      | else-last-length w ↦ rw (w.numbers-is, depth) (name_deeper c.requires c.loop-word.invariant before (rw depth at w.if-last-length.false))
    ]
