-- Question 12, each way that it can go; and the parts of a job between the places where they end.
use mathlib.Core.Path.{◌≡◌, refl, sym, ◌∙◌, ap}
use mathlib.Core.Bool.{◌&&◌}
use mathlib.Core.List.{List}
use Prim.Native.Nat.{ℕ, ◌+◌, ◌≤◌, ◌<◌}
use native.Mathlib.Omega.{arith}
use borrow.Author.Tests.{le-leb, lt-leb}
use lib.Dec.{leb}
use lib.ListN.{length}
use lib.Seq.{drop-cons, drop-length}
use Rattle.std.specs.Prelude.{Option, Some, None, Result, Err, IsErrAnd}
use Rattle.std.proofs.lemmas.Result.{err_from_is_err_and}
use Rattle.std.specs.Option.{ok_or}
use Rattle.base.specs.Outcome.{refused, accepted}
use Rattle.base.specs.declared.refusal.Refusal.{Refusal}
use Rattle.base.specs.declared.refusal.Refusal.TheVariants.{JobMisfit}
use Rattle.base.specs.Reading.{read_part, ended}
use Rattle.base.specs.Inner.PartEnds.{end_as, part_end, between}
use Rattle.base.proofs.PartEnds.{PartAt, part_at, part_number, part_missing}
use Rattle.base.proofs.Numbers.{IfRefused, ask_number, then_number}
use Rattle.word.specs.Judging.{walk_questions}
use Rattle.job.specs.JobCall.{shortest_job, longest_job, Parts, job_parts, refusal_text, text_of, PartsAnswers, JobAnswer}
use Rattle.job.specs.Inner.SplitCode.{EndsAt, Splits}
use Rattle.job.specs.declared.split.Ends.{Ends}
use Rattle.job.specs.declared.call.Text.{Text}

-- QUESTION 12

abbrev Twelve : ℕ → Type 0
Twelve number = number ≡ 12

-- a job is refused by no other number than 12
pub parts_number : (job : List ℕ) → IfRefused Twelve (job_parts job)
unfolding job_parts
parts_number job =
    ask_number Twelve (leb shortest_job (length job) && leb (length job) longest_job) 12 _ refl
    (then_number Twelve (read_part 12 job) _ (part_number 12 job) (λ table.
    then_number Twelve (read_part 12 table.1) _ (part_number 12 table.1) (λ lead.
    then_number Twelve (read_part 12 lead.1) _ (part_number 12 lead.1) (λ tail.
    ask_number Twelve (ended tail.1) 12 _ refl tt))))

-- what the code finds where a part's length stands at a place
module _ (job : List ℕ) (at : ℕ) (found : Option ℕ) (finds : (number : ℕ) → end_as number found ≡ part_end number at job) where
  pub part_found : {end : ℕ} → found ≡ Some end → PartAt 12 job at end
  part_found {end} some = part_at 12 job at end (sym (finds 12) ∙ ap (end_as 12) some)

  pub part_lacks : found ≡ None → part_end 12 at job ≡ refused 12
  part_lacks none = sym (finds 12) ∙ ap (end_as 12) none

-- the refusal that is made of nothing found
pub misfit : (job : List ℕ) (split : Result Ends Refusal) {refusal : Refusal} {found : Option ℕ} → IsErrAnd split (λ x. x ≡ refusal)
    → found ≡ None → Err refusal ≡ ok_or found JobMisfit → job_parts job ≡ refused 12 → Splits (job_parts job) job split
misfit job split {refusal} exit none is refuses =
    let (x, left, same) = err_from_is_err_and split exit in
    let twelve : refusal ≡ JobMisfit = cc in
    rw (left, same, twelve) refuses

module _ (job : List ℕ) where
  pub too_short : length job < shortest_job → job_parts job ≡ refused 12
  unfolding job_parts
  too_short h = rw (lt-leb shortest_job (length job) h)

  pub too_long : longest_job < length job → job_parts job ≡ refused 12
  unfolding job_parts
  too_long h = rw (le-leb shortest_job (length job) (omega arith), lt-leb (length job) longest_job h)

  module _ (enough : shortest_job ≤ length job) (few : length job ≤ longest_job) where
    pub no_table : part_end 12 0 job ≡ refused 12 → job_parts job ≡ refused 12
    unfolding job_parts
    no_table e = rw (le-leb shortest_job (length job) enough, le-leb (length job) longest_job few, part_missing 12 job 0 e)

    module _ {table : ℕ} (first : PartAt 12 job 0 table) where
      pub no_lead : part_end 12 table job ≡ refused 12 → job_parts job ≡ refused 12
      unfolding job_parts
      no_lead e = rw (le-leb shortest_job (length job) enough, le-leb (length job) longest_job few, first.reads, part_missing 12 job table e)

      module _ {lead : ℕ} (second : PartAt 12 job table lead) where
        pub no_tail : part_end 12 lead job ≡ refused 12 → job_parts job ≡ refused 12
        unfolding job_parts
        no_tail e =
            rw (le-leb shortest_job (length job) enough, le-leb (length job) longest_job few, first.reads, second.reads, part_missing 12 job lead e)

        module _ {tail : ℕ} (third : PartAt 12 job lead tail) where
          -- bytes behind the tail
          pub not_ended : tail < length job → job_parts job ≡ refused 12
          unfolding job_parts ended
          not_ended h =
              rw (le-leb shortest_job (length job) enough, le-leb (length job) longest_job few, first.reads, second.reads, third.reads, drop-cons job tail 0 h)

          pub whole : length job ≤ tail → (p : Parts) × (job_parts job ≡ accepted p) × EndsAt job p (record { table = table; lead = lead })
          unfolding job_parts ended
          whole h =
              let last : tail ≡ length job = omega (arith, third.upto) in
              rw (le-leb shortest_job (length job) enough, le-leb (length job) longest_job few, first.reads, second.reads, third.reads, last, drop-length job) (
                _,
                refl,
                record {
                  table_from = first.from;
                  lead_from = second.from;
                  tail_from = omega (arith, third.from);
                  table = refl;
                  lead = refl;
                  tail = refl;
                },
              )

-- THE CALL

-- a job without three parts has the answer of its refusal
pub job_refused : (job : List ℕ) (number : ℕ) → job_parts job ≡ refused number → (text : Text) → text ≡ text_of (refusal_text number) → JobAnswer job text
unfolding JobAnswer
job_refused job number e text says = rw e says

-- the answer to the bytes between the places is the answer to the job
pub job_answered : (job : List ℕ) (ends : Ends) (p : Parts) → job_parts job ≡ accepted p → EndsAt job p ends → (text : Text)
    → PartsAnswers (walk_questions (between 2 ends.table job) (between (ends.table + 2) ends.lead job) (between (ends.lead + 2) (length job) job))
    (between (ends.table + 2) ends.lead job) (between (ends.lead + 2) (length job) job) text
    → JobAnswer job text
unfolding JobAnswer
job_answered job ends p accepts stand text A = rw (accepts, stand.table, stand.lead, stand.tail) A
