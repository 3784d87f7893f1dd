-- `fill_lookups` meets its contract. The loop fills the look-ups of the map's letters, one letter after the other.
use Rattle.word.proofs.WalkLookups.{LookupsUpTo}
use Rattle.word.proofs.lookups.fill_lookups.Given as goal

abbrev pub invariant-loop-letter : goal.invariant-loop-letter
invariant-loop-letter l = LookupsUpTo l.letters l.words l.initial.lookups l.letter l.lookups
