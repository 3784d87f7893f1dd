-- A line with `yes` or `no`.
use native.Mathlib.Omega.{arith}
use borrow.Author.Tests.{ne_eqb}
use Rattle.job.specs.JobCall.{line, yes_no}
use Rattle.job.proofs.Appending.{appends_both, appends_most}
use Rattle.job.proofs.call.Text.append_yes_no.Goals as goal

pub returns-then-verdict-eq1 : goal.returns-then-verdict-eq1
unfolding line yes_no
returns-then-verdict-eq1 c =
    rw c.if-verdict-eq1.true (appends_both c.append.ensures c.append-then-verdict-eq1.ensures (omega arith))

pub returns-else-verdict-eq1 : goal.returns-else-verdict-eq1
unfolding line yes_no
returns-else-verdict-eq1 c =
    rw (ne_eqb _ _ c.if-verdict-eq1.false)
    (appends_both c.append.ensures (appends_most c.append-else-verdict-eq1.ensures 4 (omega arith)) (omega arith))
