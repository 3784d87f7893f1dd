-- Question 11 at each byte, and the count, by the laws of RowWriting.
use mathlib.Core.Path.{sym, ◌∙◌}
use native.Mathlib.Omega.{arith}
use borrow.Author.Tests.{ltb-true, ltb-false}
use Rattle.table.proofs.RowWriting.{count_skip, count_one, count_misfit, count_done}
use Rattle.table.proofs.writer.count_transitions.Goals as goal

pub loop-sets-preserved-then-sets : goal.loop-sets-preserved-then-sets
loop-sets-preserved-then-sets c =
    count_skip c.loop-sets.invariant c.loop-sets-test.true c.if-sets.true

pub returns-then-not-fits : goal.returns-then-not-fits
returns-then-not-fits c =
    let large = ltb-false _ _ (sym c.fits.ensures ∙ c.if-not-fits.true) in
    count_misfit c.loop-sets.invariant c.loop-sets-test.true c.if-sets.false (omega arith)

pub loop-sets-preserved : goal.loop-sets-preserved
loop-sets-preserved c =
    let small = ltb-true _ _ (sym c.fits.ensures ∙ c.if-not-fits.false) in
    count_one c.loop-sets.invariant c.loop-sets-test.true c.if-sets.false (omega arith)

pub returns : goal.returns
returns c =
    count_done c.loop-sets.invariant c.loop-sets-test.false
