-- `identity` meets its contract. The loop stores the row of each state in turn.
use mathlib.Core.Path.{◌≡◌}
use Prim.Native.Nat.{ℕ, ◌<◌}
use lib.ListN.{get_or}
use Rattle.plain.specs.Inner.Letters.{own_row}
use Rattle.plain.proofs.matrix.Matrix.identity.Given as goal

abbrev pub invariant-loop-state : goal.invariant-loop-state
invariant-loop-state l = (k : ℕ) → k < l.state → get_or l.row-items k 0 ≡ own_row k
