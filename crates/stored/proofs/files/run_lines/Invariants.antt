-- All lines. There are no more differences than cases, cases than lines, lines than letters passed.
use Rattle.std.proofs.Common.{◌≤◌, ◌+◌, length}
use Rattle.std.specs.Fn.{FnReturnsAt}
use Rattle.stored.specs.Tallies.{Kind, TestsLines}
use Rattle.stored.proofs.Tallying.{Counting}
use Rattle.stored.proofs.files.run_lines.Given as goal

abbrev pub invariant-loop-line : goal.invariant-loop-line
invariant-loop-line g l =
    ((l.tally.differences ≤ l.tally.cases) × (l.tally.cases ≤ l.number) × (l.number + length l.rest ≤ length l.text))
    × ((kind : Kind) → TestsLines (FnReturnsAt g.F.Fn l.right) kind → Counting kind l.text l.tally l.rest)

abbrev pub decreases-loop-line : goal.decreases-loop-line
decreases-loop-line g l = length l.rest
