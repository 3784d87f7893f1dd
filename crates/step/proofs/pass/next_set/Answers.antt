-- `next_set` meets its contract.
use native.Mathlib.Numerals.{add-one}
use borrow.Author.Tests.{lt-ltb, le-ltb}
use Rattle.history.specs.Letter.{next_set}
use Rattle.step.proofs.pass.next_set.Goals as goal

pub returns-then-active-k : goal.returns-then-active-k
unfolding next_set
returns-then-active-k c =
    simp (lt-ltb _ _ c.if-active-k.true, add-one)

pub returns-else-active-k : goal.returns-else-active-k
unfolding next_set
returns-else-active-k c =
    simp (le-ltb _ _ c.if-active-k.false)
