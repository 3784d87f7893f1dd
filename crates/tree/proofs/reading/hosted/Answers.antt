-- The states hosted in a range, by the laws of ReadingInTurn.
use native.Mathlib.Omega.{arith}
use Rattle.tree.proofs.ReadingInTurn.{hosted_start, hosted_skip, hosted_room, hosted_take, hosted_done}
use Rattle.tree.proofs.reading.hosted.Goals as goal

pub loop-state-init : goal.loop-state-init
loop-state-init c =
    hosted_start _ _ _ _ _ c.requires.1.0 c.requires.1.1

pub loop-state-preserved-then-map-state-ne1 : goal.loop-state-preserved-then-map-state-ne1
loop-state-preserved-then-map-state-ne1 c =
    hosted_skip c.loop-state.invariant c.loop-state-test.true c.if-map-state-ne1.true

pub bounds-hosts-at : goal.bounds-hosts-at
bounds-hosts-at c =
    hosted_room c.loop-state.invariant c.loop-state-test.true c.if-map-state-ne1.false

pub overflow_add-at : goal.overflow_add-at
overflow_add-at c =
    omega (arith, hosted_room c.loop-state.invariant c.loop-state-test.true c.if-map-state-ne1.false)

pub loop-state-preserved : goal.loop-state-preserved
loop-state-preserved c =
    hosted_take c.loop-state.invariant c.loop-state-test.true c.if-map-state-ne1.false _ (rw c.from.ensures at c.state_if-states.ensures)

pub returns : goal.returns
returns c =
    hosted_done c.loop-state.invariant c.loop-state-test.false
