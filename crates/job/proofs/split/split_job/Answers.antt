-- Question 12, by the laws of Splitting.
use Rattle.job.proofs.Splitting.{part_found, part_lacks, misfit, too_short, too_long, no_table, no_lead, no_tail, not_ended, whole}
use Rattle.job.proofs.split.split_job.Goals as goal
use Rattle.job.proofs.split.split_job.Goals.{then-job-lt-SHORTEST-via-then-job-lt-SHORTEST, then-job-lt-SHORTEST-via-else-job-lt-SHORTEST+then-job-gt-LONGEST}

pub returns-then-job-lt-SHORTEST : goal.returns-then-job-lt-SHORTEST
returns-then-job-lt-SHORTEST c =
    elim c.then-job-lt-SHORTEST.branch [
      | then-job-lt-SHORTEST-via-then-job-lt-SHORTEST w ↦ too_short _ w.if-job-lt-SHORTEST.true
      | then-job-lt-SHORTEST-via-else-job-lt-SHORTEST+then-job-gt-LONGEST w ↦ too_long _ w.if-job-gt-LONGEST.true
    ]

pub returns-in_err-table : goal.returns-in_err-table
returns-in_err-table c =
    let none = c.in_err-table.ensures.ok_part in
    misfit _ _ c.from_residual.ensures.1 none c.in_err-table.ensures.value
    (no_table _ c.if-job-lt-SHORTEST.false c.if-job-gt-LONGEST.false (part_lacks _ _ _ c.part_end.ensures none))

pub returns-in_err-lead : goal.returns-in_err-lead
returns-in_err-lead c =
    let table = part_found _ _ _ c.part_end.ensures c.in_ok-table.ensures.ok_part in
    let none = c.in_err-lead.ensures.ok_part in
    misfit _ _ c.from_residual-in_err-lead.ensures.1 none c.in_err-lead.ensures.value
    (no_lead _ c.if-job-lt-SHORTEST.false c.if-job-gt-LONGEST.false table (part_lacks _ _ _ c.part_end-2.ensures none))

pub returns-in_err-tail : goal.returns-in_err-tail
returns-in_err-tail c =
    let table = part_found _ _ _ c.part_end.ensures c.in_ok-table.ensures.ok_part in
    let lead = part_found _ _ _ c.part_end-2.ensures c.in_ok-lead.ensures.ok_part in
    let none = c.in_err-tail.ensures.ok_part in
    misfit _ _ c.from_residual-in_err-tail.ensures.1 none c.in_err-tail.ensures.value
    (no_tail _ c.if-job-lt-SHORTEST.false c.if-job-gt-LONGEST.false table lead (part_lacks _ _ _ c.part_end-3.ensures none))

pub returns-then-tail-job : goal.returns-then-tail-job
returns-then-tail-job c =
    let table = part_found _ _ _ c.part_end.ensures c.in_ok-table.ensures.ok_part in
    let lead = part_found _ _ _ c.part_end-2.ensures c.in_ok-lead.ensures.ok_part in
    let tail = part_found _ _ _ c.part_end-3.ensures c.in_ok-tail.ensures.ok_part in
    not_ended _ c.if-job-lt-SHORTEST.false c.if-job-gt-LONGEST.false table lead tail c.if-tail-job.true

pub returns : goal.returns
returns c =
    let table = part_found _ _ _ c.part_end.ensures c.in_ok-table.ensures.ok_part in
    let lead = part_found _ _ _ c.part_end-2.ensures c.in_ok-lead.ensures.ok_part in
    let tail = part_found _ _ _ c.part_end-3.ensures c.in_ok-tail.ensures.ok_part in
    whole _ c.if-job-lt-SHORTEST.false c.if-job-gt-LONGEST.false table lead tail c.if-tail-job.false
