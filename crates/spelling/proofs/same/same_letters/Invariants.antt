-- Two walks letter by letter: in each turn both positions go on round.
use mathlib.Core.List.{List}
use Prim.Native.Nat.{ℕ}
use Rattle.spelling.proofs.Comparing.{SameUpTo, GoesOn}
use Rattle.spelling.proofs.same.same_letters.Given as goal

-- so many letters were compared, and were the same; both walks go on from their positions
pub record Compared (u v u' v' : List ℕ) (position position' compared : ℕ) : Type 0 where
  pub same : SameUpTo u v u' v' compared
  pub goes : GoesOn u v compared position
  pub goes' : GoesOn u' v' compared position'

abbrev pub invariant-loop : goal.invariant-loop
invariant-loop l = Compared l.first.u.now l.first.v.now l.second.u.now l.second.v.now l.position l.position2 l.counter
