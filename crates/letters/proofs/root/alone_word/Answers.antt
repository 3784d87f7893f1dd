-- `alone_word` meets its contract.
use borrow.Author.Rules.{rules}
use Rattle.letters.specs.Inner.RootPass.{root_as}
use Rattle.letters.proofs.RootPass.{word_packed}
use Rattle.letters.proofs.root.alone_word.Goals as goal

pub returns : goal.returns
returns c =
    rw (c.from.ensures, c.from-2.ensures, c.from-3.ensures) (word_packed _ (root_as c.args.root) (search rules) (search rules))
