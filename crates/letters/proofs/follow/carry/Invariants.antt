-- `carry` meets its contract. The loop has the maps of the nodes that it has passed, both in one word.
use mathlib.Core.Path.{◌≡◌}
use Rattle.tree.specs.Inner.PackedNodes.{nodes_in}
use Rattle.letters.proofs.MapsCarried.{both_to}
use Rattle.letters.proofs.follow.carry.Given as goal

abbrev pub invariant-loop-j : goal.invariant-loop-j
invariant-loop-j l = l.new_pair ≡ both_to (nodes_in l.word-items) l.fn.maps l.j
