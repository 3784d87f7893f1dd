-- The output for a job compared.
use Rattle.stored.proofs.RightLines.{says_tests}
use Rattle.stored.proofs.jobs.output_right.Goals as goal

pub returns : goal.returns
returns c =
    says_tests _ _ _ _ c.judge_job-output.ensures (rw c.as_bytes.ensures at c.text_is.ensures)
