-- A job.
use Rattle.job.proofs.Splitting.{job_refused, job_answered}
use Rattle.job.proofs.call.judge_job.Goals as goal

pub returns-in-Err : goal.returns-in-Err
returns-in-Err c =
    job_refused _ _ c.in-Err.ensures _ (rw c.into.ensures at c.refusal_line.ensures)

pub returns-in-Ok : goal.returns-in-Ok
returns-in-Ok c =
    let (p, accepts, stand) = c.in-Ok.ensures in
    job_answered _ _ p accepts stand _ c.judge_parts.ensures
