-- `find_entry` meets its contract: the search for the entry begins at t(0), or at t(half) for a period no longer than `half`.
use native.Mathlib.Omega.{arith}
use Rattle.treejudge.specs.Inner.Cycles.{SomeRound, TwoRounds, Bracketed, EntryBetween, SearchDone, EntryFound}
use Rattle.treejudge.proofs.EntrySearch.{saved_place, before_place, bracket_first, entry_from_half, half_place, bracket_half}
use Rattle.treejudge.proofs.entry.find_entry.Goals as goal

pub overflow_sub-high : goal.overflow_sub-high
unfolding SearchDone
overflow_sub-high c =
    let (R, u, entry, period, S) = c.requires in omega (arith, S.cycle.below)

pub returns-then-high-eq0 : goal.returns-then-high-eq0
unfolding EntryFound
returns-then-high-eq0 c R u entry period S =
    omega (arith, c.if-high-eq0.true, S.cycle.late)

pub overflow_sub-from : goal.overflow_sub-from
unfolding SearchDone
overflow_sub-from c =
    let (R, u, entry, period, S) = c.requires in
    omega (arith, S.cycle.doubles (omega (arith, c.if-high-eq0.false)))

pub read_to-there-requires : goal.read_to-there-requires
unfolding SearchDone TwoRounds
read_to-there-requires c =
    let (R, u, entry, period, S) = c.requires in
    (omega (arith, c.if-half-period.true), (R, u, before_place S, saved_place S))

pub entry_between-requires : goal.entry_between-requires
unfolding SearchDone Bracketed
entry_between-requires c =
    let (R, u, entry, period, S) = c.requires in
    (R, u, entry, _, bracket_first S c.read_to-there.ensures)

pub returns-then-half-period : goal.returns-then-half-period
unfolding EntryFound EntryBetween
returns-then-half-period c R u entry period S =
    c.entry_between.ensures R u entry _ (bracket_first S c.read_to-there.ensures)

pub returns-then-half-high : goal.returns-then-half-high
unfolding EntryFound
returns-then-half-high c R u entry period S =
    omega (arith, c.if-half-high.true, entry_from_half S c.if-half-period.false, S.cycle.late)

pub read_rounds-here-requires : goal.read_rounds-here-requires
unfolding SearchDone SomeRound
read_rounds-here-requires c =
    let (R, u, entry, period, S) = c.requires in
    (R, u, _, before_place S)

pub overflow_add-half : goal.overflow_add-half
unfolding SearchDone
overflow_add-half c =
    let (R, u, entry, period, S) = c.requires in
    omega (arith, c.if-half-period.false, S.cycle.doubles (omega (arith, c.if-high-eq0.false)))

pub read_to-there-requires-2 : goal.read_to-there-requires-2
unfolding SearchDone TwoRounds
read_to-there-requires-2 c =
    let (R, u, entry, period, S) = c.requires in
    (omega arith, (R, u, half_place S c.if-half-period.false c.read_rounds-here.ensures, saved_place S))

pub entry_between-requires-2 : goal.entry_between-requires-2
unfolding SearchDone Bracketed
entry_between-requires-2 c =
    let (R, u, entry, period, S) = c.requires in
    (R, u, entry, _, bracket_half S c.if-half-period.false c.read_rounds-here.ensures c.read_to-there-2.ensures)

pub returns : goal.returns
unfolding EntryFound EntryBetween
returns c R u entry period S =
    c.entry_between-2.ensures R u entry _
    (bracket_half S c.if-half-period.false c.read_rounds-here.ensures c.read_to-there-2.ensures)
