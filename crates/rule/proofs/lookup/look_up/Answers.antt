-- `look_up` meets its contract: both places are below 32.
use borrow.Author.Rules.{rules}
use Rattle.rule.specs.Inner.Lookup.{images_by}
use Rattle.rule.proofs.lookup.look_up.Goals as goal

pub returns : goal.returns
unfolding images_by
returns c =
    search rules
