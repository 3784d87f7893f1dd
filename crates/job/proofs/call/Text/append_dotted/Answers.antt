-- A dot and a number.
use native.Mathlib.Omega.{arith}
use Rattle.job.specs.JobCall.{dotted}
use Rattle.job.proofs.Appending.{appends_both}
use Rattle.job.proofs.call.Text.append_dotted.Goals as goal

pub returns : goal.returns
unfolding dotted
returns c =
    appends_both c.append.ensures c.append_number.ensures (omega arith)
