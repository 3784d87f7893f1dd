-- `extended` meets its contract. Where each map of the row has all of its states or none, at once; else the loop has joined the maps of the
-- relations that it has passed.
use mathlib.Core.Path.{◌≡◌}
use lib.Bits.{bit_or}
use Rattle.rule.specs.Inner.Lanes.{map_of, word_of}
use Rattle.rule.specs.Inner.Lookup.{images_by}
use Rattle.plain.specs.Inner.Letters.{onward}
use Rattle.plain.proofs.tail.extended.Given as goal

abbrev pub invariant-loop-relation : goal.invariant-loop-relation
invariant-loop-relation l = l.all ≡ bit_or (images_by l.lookup (map_of l.row 0)) (word_of l.relation (λ i. onward l.lookup (map_of l.row i)))
