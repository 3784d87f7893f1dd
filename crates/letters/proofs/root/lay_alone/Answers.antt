-- `lay_alone` meets its contract: the root is the one node, or there is none.
use Rattle.letters.proofs.RootTrees.{laid_alone}
use Rattle.letters.proofs.root.lay_alone.Goals as goal

pub returns-clause-lone : goal.returns-clause-lone
returns-clause-lone c =
    laid_alone c.args.root _ _ c.from.ensures c.lay_root.ensures.laid.0 c.lay_root.ensures.laid.1
