-- `read_each_letter` meets its contract. The loop has the tree after the letters that it has passed.
use Rattle.tree.specs.Inner.Sides.{tree_in}
use Rattle.letters.proofs.LettersRead.{ReadUpTo}
use Rattle.letters.proofs.read.read_each_letter.Given as goal

abbrev pub invariant-loop-letter : goal.invariant-loop-letter
invariant-loop-letter l = ReadUpTo l.lookups l.k l.w (tree_in l.initial.buffer) l.letter-index l.buffer
