-- `of_tail` meets its contract. What the letters from the next on make of the rows at hand is what all letters make of the rows of no letter.
use mathlib.Core.Path.{◌≡◌}
use Prim.Native.Nat.{ℕ, ◌<◌}
use lib.ListN.{drop, get_or}
use Rattle.plain.specs.Inner.Letters.{own_row, row_after}
use Rattle.plain.proofs.matrix.Matrix.of_tail.Given as goal

abbrev pub invariant-loop-letter : goal.invariant-loop-letter
invariant-loop-letter l = (l.ways.states ≡ l.states)
    × ((s : ℕ) → s < l.states → row_after l.lookups (drop l.letter-index l.v) (get_or l.ways.rows s 0) ≡ row_after l.lookups l.v (own_row s))
