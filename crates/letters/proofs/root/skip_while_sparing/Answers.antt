-- `skip_while_sparing` meets its contract: what it calls does, and so does a tree that stands still.
use Rattle.letters.proofs.RootTrees.{skips_none}
use Rattle.letters.proofs.root.skip_while_sparing.Goals as goal

pub returns-then-not-root_first-clause-skips : goal.returns-then-not-root_first-clause-skips
returns-then-not-root_first-clause-skips c =
    skips_none _ _ _ _
