-- `read_rounds` meets its contract. From t(r) on, the tree at hand is t(r + round).
use native.Mathlib.Omega.{arith}
use mathlib.Core.Path.{◌≡◌}
use Prim.Native.Nat.{◌+◌}
use Rattle.letters.specs.Inner.Reading.{Readable}
use Rattle.treejudge.specs.Inner.Cycles.{SomeRound, Ahead}
use Rattle.treejudge.proofs.RoundsRead.{round_reads, round_read}
use Rattle.treejudge.proofs.entry.read_rounds.Goals as goal

pub read_letters-requires : goal.read_letters-requires
unfolding SomeRound Readable
read_letters-requires c =
    let (R, u, r, A) = c.requires in
    (R, _, round_reads (c.loop-round.invariant R u r A))

pub loop-round-preserved : goal.loop-round-preserved
loop-round-preserved c R u r A =
    let e : r + c.loop-round._round + 1 ≡ r + (c.loop-round._round + 1) = omega arith in
    rw (← e) (round_read (c.loop-round.invariant R u r A) c.read_letters.ensures)

pub taken-requires : goal.taken-requires
unfolding SomeRound
taken-requires c =
    let (R, u, r, A) = c.requires in
    record { rule = R; tree = _; holds = (c.loop-round.invariant R u r A).tree }

pub returns : goal.returns
unfolding Ahead
returns c R u r A =
    let e : r + c.loop-round._round ≡ r + c.args.count = omega arith in
    rw (← e, c.taken.ensures) (c.loop-round.invariant R u r A).tree
