-- The hosts of a map's states, by the laws of WritingInTurn.
use Rattle.tree.proofs.WritingInTurn.{hosts_start, hosts_skip, hosts_fits, hosts_put, hosts_done}
use Rattle.tree.proofs.writing.put_hosts.Goals as goal

pub loop-state-init : goal.loop-state-init
loop-state-init c =
    hosts_start _ _ _ _ _ c.requires.1

pub loop-state-preserved-then-states-state-ne1 : goal.loop-state-preserved-then-states-state-ne1
loop-state-preserved-then-states-state-ne1 c =
    hosts_skip c.loop-state.invariant c.loop-state-test.true c.if-states-state-ne1.true

pub bounds-out-at : goal.bounds-out-at
bounds-out-at c =
    hosts_fits c.loop-state.invariant c.loop-state-test.true

pub loop-state-preserved : goal.loop-state-preserved
loop-state-preserved c =
    hosts_put c.loop-state.invariant c.loop-state-test.true c.if-states-state-ne1.false _ c.host_node.ensures

pub returns : goal.returns
returns c =
    hosts_done c.loop-state.invariant c.loop-state-test.false
