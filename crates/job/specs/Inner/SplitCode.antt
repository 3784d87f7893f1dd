-- The places where a job's parts end.
use Rattle.std.specs.Prelude.{◌≡◌, List, ℕ, ◌+◌, ◌≤◌, Result, length}
use Rattle.base.specs.Outcome.{Outcome}
use Rattle.base.specs.Inner.PartEnds.{between}
use Rattle.base.specs.Refusals.{Answers}
use Rattle.base.specs.declared.refusal.Refusal.{Refusal}
use Rattle.job.specs.JobCall.{Parts}
use Rattle.job.specs.declared.split.Ends.{Ends}

-- the parts of a job stand between these places, each behind the two bytes of its length
pub record EndsAt (job : List ℕ) (p : Parts) (ends : Ends) : Type 0 where
  pub table_from : 2 ≤ ends.table
  pub lead_from : ends.table + 2 ≤ ends.lead
  pub tail_from : ends.lead + 2 ≤ length job
  pub table : p.table ≡ between 2 ends.table job
  pub lead : p.lead ≡ between (ends.table + 2) ends.lead job
  pub tail : p.tail ≡ between (ends.lead + 2) (length job) job

-- question 12's answer
abbrev pub Splits : Outcome Parts → List ℕ → Result Ends Refusal → Type 0
Splits o job split = Answers o (EndsAt job) split
