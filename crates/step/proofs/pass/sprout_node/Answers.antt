-- `sprout_node` meets its contract.
use Rattle.step.specs.Inner.Pass.{sprout_node}
use Rattle.step.proofs.pass.sprout_node.Goals as goal

pub returns : goal.returns
unfolding sprout_node
returns c =
    rw c.minus.ensures
