-- One letter on a record, under a rule and by the letter's look-up: the laws of StepCall.
use mathlib.Core.List.{[]}
use mathlib.Core.Path.{◌∙◌, ap}
use Rattle.tree.proofs.TreeNodes.{counted_in}
use Rattle.tree.specs.Inner.Sides.{tree_in}
use Rattle.tree.specs.declared.nodes.Tree.{Tree as CodeTree}
use Rattle.step.proofs.StepCall.{tree_read, tree_counted, step_no_tree, step_no_room, step_ready, step_recordable, step_done}
use Rattle.step.proofs.call.step_prepared.Goals as goal

pub returns-in_default : goal.returns-in_default
returns-in_default c R a p =
    step_no_tree p _ _ c.checked-checked.ensures c.in_default.is _ c.into.ensures

pub returns-then-buffer-lt-RECORD : goal.returns-then-buffer-lt-RECORD
returns-then-buffer-lt-RECORD c R a p =
    step_no_room p _ _ (tree_read p _ [] c.checked-checked.ensures _ c.in-Some.is) c.if-buffer-lt-RECORD.true _
    c.into-then-buffer-lt-RECORD.ensures

pub prove_eq-unreachable-requires : goal.prove_eq-unreachable-requires
prove_eq-unreachable-requires c =
    let (R, a, p) = c.requires in
    c.if-prove_eq.true (ap (λ (x : CodeTree). x.count) c.laid-tree.ensures.tree ∙ tree_counted p _ [] c.checked-checked.ensures _ c.in-Some.is)

pub step_nodes-stepped-requires : goal.step_nodes-stepped-requires
step_nodes-stepped-requires c =
    let (R, a, p) = c.requires in
    step_ready p _ [] (tree_read p _ [] c.checked-checked.ensures _ c.in-Some.is) c.laid-tree.result c.laid-tree.ensures.tree

pub put_record-written-requires : goal.put_record-written-requires
put_record-written-requires c =
    let (R, a, p) = c.requires in
    rw (c.nodes.ensures, counted_in (tree_in c.step_nodes-stepped.new.buffer)) (
      step_recordable p _ [] (tree_read p _ [] c.checked-checked.ensures _ c.in-Some.is) c.laid-tree.result c.laid-tree.ensures.tree _ _ c.step_nodes-stepped.ensures,
      c.if-buffer-lt-RECORD.false,
    )

pub returns : goal.returns
returns c R a p =
    let (written, bytes) = rw (c.nodes.ensures, counted_in (tree_in c.step_nodes-stepped.new.buffer)) at c.put_record-written.ensures in
    step_done p _ _ (tree_read p _ [] c.checked-checked.ensures _ c.in-Some.is) c.laid-tree.result c.laid-tree.ensures.tree _ _ c.step_nodes-stepped.ensures c.if-buffer-lt-RECORD.false _ _
    written bytes
