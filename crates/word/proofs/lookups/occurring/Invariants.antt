-- `occurring` meets its contract. The loop has the map of the letters that it has passed.
use Rattle.word.proofs.WalkLookups.{LettersUpTo}
use Rattle.word.proofs.lookups.occurring.Given as goal

abbrev pub invariant-loop-letter : goal.invariant-loop-letter
invariant-loop-letter l = LettersUpTo l.others l.w l.letter-index l.letters
