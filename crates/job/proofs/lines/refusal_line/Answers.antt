-- The line of a refusal.
use native.Mathlib.Omega.{arith}
use Rattle.job.specs.JobCall.{refusal_text}
use Rattle.job.proofs.Appending.{from_nothing}
use Rattle.job.proofs.lines.refusal_line.Goals as goal

pub returns : goal.returns
unfolding refusal_text
returns c =
    from_nothing (rw (c.empty-text.ensures, c.from.ensures) at c.append_numbered.ensures) (omega arith)
