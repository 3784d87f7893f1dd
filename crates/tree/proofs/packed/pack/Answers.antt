-- `pack` meets its contract: the parts of the word are the node's numbers.
use borrow.Author.Rules.{rules}
use Rattle.tree.proofs.PackedWords.{node_packed}
use Rattle.tree.proofs.packed.pack.Goals as goal

pub returns : goal.returns
returns c =
    rw (c.from.ensures, c.from-2.ensures, c.from-3.ensures, c.from-4.ensures, c.from-5.ensures)
    (node_packed c.args.x (search rules) (search rules) (search rules) (search rules) (search rules))
