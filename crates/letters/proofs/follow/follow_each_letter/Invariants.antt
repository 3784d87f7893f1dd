-- `follow_each_letter` meets its contract. The loop has the nodes followed through the letters that it has passed.
use Rattle.tree.specs.Inner.Sides.{tree_in}
use Rattle.letters.proofs.NamesFollowed.{FollowedUpTo}
use Rattle.letters.proofs.follow.follow_each_letter.Given as goal

abbrev pub invariant-loop-letter : goal.invariant-loop-letter
invariant-loop-letter l = FollowedUpTo l.lookups l.k l.w (tree_in l.initial.buffer) l.initial.maps l.letter-index l.buffer l.maps
