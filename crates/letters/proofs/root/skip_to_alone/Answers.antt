-- `skip_to_alone` meets its contract: the root alone where a place was found, else the tree as it stands.
use borrow.Author.Rules.{rules}
use Rattle.letters.proofs.RootTrees.{root_passable, skips_none, skips_alone}
use Rattle.letters.proofs.root.skip_to_alone.Goals as goal

pub returns-then-w-gt-MAX_LENGTH-clause-skips : goal.returns-then-w-gt-MAX_LENGTH-clause-skips
returns-then-w-gt-MAX_LENGTH-clause-skips c =
    skips_none _ _ _ _

pub find_alone-requires : goal.find_alone-requires
find_alone-requires c =
    root_passable _ _ c.args.w.now _ c.requires (search rules) _ c.root_on.ensures

pub returns-in_err-found-clause-skips : goal.returns-in_err-found-clause-skips
returns-in_err-found-clause-skips c =
    rw c.from_residual.ensures (skips_none _ _ _ _)

pub returns-clause-skips : goal.returns-clause-skips
returns-clause-skips c =
    skips_alone _ _ c.args.w.now _ _ _ _ (rw c.root_on.ensures at c.in_ok-found.ensures) c.lay_alone.ensures.lone
