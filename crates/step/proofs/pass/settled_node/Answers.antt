-- `settled_node` meets its contract, by step 4's test.
use borrow.Author.Tests.{eq-eqb, ne_eqb}
use Rattle.step.specs.Inner.Pass.{settled_node}
use Rattle.step.proofs.pass.settled_node.Goals as goal

pub returns-then-made : goal.returns-then-made
unfolding settled_node
returns-then-made c =
    simp (eq-eqb _ _ c.if-made.true, c.next_set.ensures)

pub returns-else-made : goal.returns-else-made
unfolding settled_node
returns-else-made c =
    simp (ne_eqb _ _ c.if-made.false)
