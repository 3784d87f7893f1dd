-- The next position, or the tail's first.
use borrow.Author.Tests.{lt-ltb, le-ltb}
use Rattle.spelling.specs.Inner.Comparing.{wrapped}
use Rattle.spelling.proofs.same.Walk.position_after.Goals as goal

pub returns-then-position-self : goal.returns-then-position-self
unfolding wrapped
returns-then-position-self c =
    rw (lt-ltb _ _ c.if-position-self.true)

pub returns-else-position-self : goal.returns-else-position-self
unfolding wrapped
returns-else-position-self c =
    rw (le-ltb _ _ c.if-position-self.false)
