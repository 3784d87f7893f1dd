-- `states_after` meets its contract. What the letters from the next on lead to from the states at hand is what all letters lead to.
use mathlib.Core.Path.{◌≡◌}
use lib.ListN.{drop}
use Rattle.plain.specs.Inner.Letters.{states_after}
use Rattle.plain.proofs.lead.states_after.Given as goal

abbrev pub invariant-loop-letter : goal.invariant-loop-letter
invariant-loop-letter l = states_after l.lookups (drop l.letter-index l.u) l.states ≡ states_after l.lookups l.u l.start
