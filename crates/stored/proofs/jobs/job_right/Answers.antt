-- A stored job: its line.
use Rattle.std.proofs.Common.{◌∙◌, sym, ap, arith}
use Rattle.std.proofs.lemmas.Option.{none-some}
use Rattle.notation.specs.Bytes.{bytes_in}
use Rattle.notation.proofs.Testing.{tests_no}
use Rattle.stored.proofs.Comparing.{present}
use Rattle.stored.proofs.RightLines.{job_tests}
use Rattle.stored.proofs.jobs.job_right.Goals as goal

pub returns-then-separators-ne1 : goal.returns-then-separators-ne1
returns-then-separators-ne1 c =
    tests_no (λ R. c.if-separators-ne1.true (omega (arith, R.fields, c.separators.ensures)))

pub returns-in_default : goal.returns-in_default
returns-in_default c =
    tests_no (λ R. none-some _ (sym (ap bytes_in c.in_default.is) ∙ c.field_bytes-found.ensures ∙ R.has_job))

pub returns : goal.returns
returns c =
    job_tests _ _ _ _ (omega (arith, c.if-separators-ne1.false, c.separators.ensures)) c.field.ensures
    (present c.in-Some.is c.field_bytes-found.ensures c.as_slice.ensures) c.output_right.ensures
