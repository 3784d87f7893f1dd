-- A line with a number.
use native.Mathlib.Omega.{arith}
use Rattle.job.specs.JobCall.{line}
use Rattle.job.proofs.Appending.{appends_both, appends_regroup}
use Rattle.job.proofs.call.Text.append_numbered.Goals as goal

pub returns : goal.returns
unfolding line
returns c =
    let both = appends_both c.append.ensures c.append_number.ensures (omega arith) in
    appends_regroup c.args.label.now _ _ (appends_both both c.append-2.ensures (omega arith)) _ (omega arith)
