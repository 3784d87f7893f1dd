-- `root_letter` meets its contract: two look-ups, and step 4.
use Rattle.rule.specs.Inner.Lookup.{look_up}
use Rattle.letters.specs.Inner.RootPass.{root_by}
use Rattle.letters.proofs.root.root_letter.Goals as goal

pub returns : goal.returns
unfolding root_by look_up
returns c =
    rw (
      c.settled_root.ensures,
      c.map_of-kids.ensures,
      c.look_up.ensures,
      c.map_of-sprout.ensures,
      c.from.ensures,
      c.map_of-label.ensures,
      c.look_up-images.ensures,
    )
