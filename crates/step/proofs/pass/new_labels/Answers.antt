-- `new_labels` meets its contract: two look-ups and two differences.
use Rattle.rule.specs.Inner.Lookup.{look_up}
use Rattle.step.specs.Inner.Pass.{new_labels}
use Rattle.step.proofs.pass.new_labels.Goals as goal

pub returns : goal.returns
unfolding new_labels look_up
returns c =
    rw (
      c.minus-2.ensures,
      c.minus.ensures,
      c.map_of-kids.ensures,
      c.look_up.ensures,
      c.map_of-sprout.ensures,
      c.from.ensures,
      c.map_of-label.ensures,
      c.look_up-images.ensures,
    )
