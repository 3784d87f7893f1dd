-- `lanes_with` meets its contract.
use borrow.Author.Rules.{rules}
use Rattle.rule.specs.Inner.Lanes.{lanes_with}
use Rattle.rule.proofs.lanes.lanes_with.Goals as goal

pub returns : goal.returns
unfolding lanes_with
returns c =
    search rules
