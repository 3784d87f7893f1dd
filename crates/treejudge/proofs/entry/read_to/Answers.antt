-- `read_to` meets its contract: the place is as many rounds further as are read.
use native.Mathlib.Omega.{arith}
use Rattle.treejudge.specs.Inner.Cycles.{SomeRound, TwoRounds, ReadTo}
use Rattle.treejudge.proofs.RoundsRead.{rounds_read}
use Rattle.treejudge.proofs.entry.read_to.Goals as goal

pub read_rounds-requires : goal.read_rounds-requires
unfolding SomeRound TwoRounds
read_rounds-requires c =
    let (R, u, earlier, saved) = c.requires.1 in (R, u, _, saved)

pub returns-then-high-place : goal.returns-then-high-place
unfolding ReadTo
returns-then-high-place c R u earlier saved =
    rounds_read saved _ c.read_rounds.ensures (omega (arith, c.if-high-place.true))

pub read_rounds-requires-2 : goal.read_rounds-requires-2
unfolding SomeRound TwoRounds
read_rounds-requires-2 c =
    let (R, u, earlier, saved) = c.requires.1 in (R, u, _, earlier)

pub returns : goal.returns
unfolding ReadTo
returns c R u earlier saved =
    rounds_read earlier _ c.read_rounds-2.ensures (omega (arith, c.requires.0))
