-- Right lines: what is compared with what, put together.
use Rattle.std.proofs.Common.{◌≡◌, sym, ◌∙◌, ap, subst, Bool, true, false, ◌&&◌, List, ℕ, ◌+◌, length, arith, Option, Some, None}
use Rattle.std.proofs.Math.Bool.{false≢true}
use Rattle.std.specs.Option.{unwrap_or}
use Rattle.std.proofs.lemmas.Option.{none-some, same_Some}
use Rattle.job.specs.JobCall.{JobAnswer}
use Rattle.job.specs.declared.call.Text.{Text}
use Rattle.job.proofs.JobVerdict.{job_determined}
use Rattle.notation.specs.Parts.{tab, parts, field_at}
use Rattle.notation.specs.Hexadecimal.{byte_string}
use Rattle.notation.specs.OneLine.{on_one_line}
use Rattle.notation.specs.Testing.{Tests, HasNumbers}
use Rattle.notation.proofs.Testing.{both_true, and_yes}
use Rattle.stored.specs.Calls.{name_of, arguments, BytesAt, Answered, CallRight}
use Rattle.stored.specs.Jobs.{shown, SaysAnswer, JobRight}
use Rattle.stored.specs.Inner.Comparing.{Compared}
use Rattle.stored.specs.declared.calls.Call.{Call}
use Rattle.stored.proofs.CallNames.{names_one}

-- A CALL

-- yes, or else no
said_yes : (result : Option Bool) → unwrap_or result false ≡ true → result ≡ Some true
said_yes None e = absurd (false≢true e)
said_yes (Some b) e = ap {B = Option Bool} Some e

-- its numbers are compared with a text, and the buffer after it with another
pub answered : (call : Call) (line lent numbers-text after_text after : List ℕ) (result : Option Bool) (right same : Bool) (count : ℕ)
    → count ≡ arguments call → numbers-text ≡ field_at line (count + 2) → after_text ≡ field_at line (count + 3)
    → Compared call line lent numbers-text after result → right ≡ unwrap_or result false → Tests same (byte_string after_text ≡ Some after)
    → Tests (right && same) (Answered call line lent)
answered call line lent numbers-text after_text after result right same count size numbers-field after-field compared is tests = (so, back)
  where
    numbers_there : numbers-text ≡ field_at line (arguments call + 2)
    numbers_there = numbers-field ∙ ap (λ n. field_at line (n + 2)) size

    after_there : byte_string after_text ≡ byte_string (field_at line (arguments call + 3))
    after_there = ap byte_string (after-field ∙ ap (λ n. field_at line (n + 3)) size)

    so : (right && same) ≡ true → Answered call line lent
    so e =
        let (is_right, is_same) = both_true right same e in
        let yes : result ≡ Some true = said_yes result (sym is ∙ is_right) in
        let (numbers, gives) = compared.only true yes in
        let (left, told) = compared.every numbers after gives in
        let (answer, tells) = told in
        let (found, has) = tells in
        record {
          numbers = numbers;
          after = after;
          gives = gives;
          has_numbers = subst (λ t. HasNumbers t numbers) numbers_there (has.0 (same_Some answer true (sym found ∙ yes)));
          has_after = sym after_there ∙ tests.0 is_same;
        }

    back : Answered call line lent → (right && same) ≡ true
    back A =
        let (left, told) = compared.every A.numbers A.after A.gives in
        let (answer, tells) = told in
        let (found, has) = tells in
        let yes : answer ≡ true = has.1 (subst (λ t. HasNumbers t A.numbers) (sym numbers_there) A.has_numbers) in
        and_yes (is ∙ ap (λ r. unwrap_or r false) found ∙ yes)
        (tests.1 (after_there ∙ A.has_after ∙ ap {B = Option (List ℕ)} Some left))

module _ (line name : List ℕ) (field : name ≡ field_at line 0) where
  -- the name of no call
  pub not_named : ((call : Call) → name ≡ name_of call → ⊥) → CallRight line → ⊥
  not_named none R = none R.call (field ∙ R.has_name)

  module _ (call : Call) (count : ℕ) (is : name ≡ name_of call) (size : count ≡ arguments call) where
    same_call : (R : CallRight line) → R.call ≡ call
    same_call R = names_one R.call call (sym R.has_name ∙ sym field ∙ is)

    -- a line with another number of fields
    pub not_whole : (separators : ℕ) → separators + 1 ≡ length (parts tab line) → (separators ≡ count + 3 → ⊥) → CallRight line → ⊥
    not_whole separators whole other R =
        let fields : length (parts tab line) ≡ arguments call + 4 = R.fields ∙ ap (λ k. arguments k + 4) (same_call R) in
        other (omega arith)

    there : field_at line (count + 1) ≡ field_at line (arguments call + 1)
    there = ap (λ n. field_at line (n + 1)) size

    lent_there : (R : CallRight line) → byte_string (field_at line (count + 1)) ≡ Some R.lent
    lent_there R =
        let bytes : BytesAt line (arguments call + 1) R.lent = subst (λ k. BytesAt line (arguments k + 1) R.lent) (same_call R) R.has_lent in
        ap byte_string there ∙ bytes

    -- no buffer to lend
    pub not_lent : byte_string (field_at line (count + 1)) ≡ None → CallRight line → ⊥
    not_lent none R = none-some R.lent (sym none ∙ lent_there R)

    -- a line with the fields of a call
    pub line_tests : (separators : ℕ) (lent : List ℕ) (result : Bool) → separators + 1 ≡ length (parts tab line) → separators ≡ count + 3
        → byte_string (field_at line (count + 1)) ≡ Some lent → Tests result (Answered call line lent) → Tests result (CallRight line)
    line_tests separators lent result whole all has tests = (
      λ e. record {
        call = call;
        has_name = sym field ∙ is;
        fields = omega arith;
        lent = lent;
        has_lent = sym (ap byte_string there) ∙ has;
        answered = tests.0 e;
      },
      λ R.
          let equal : R.lent ≡ lent = same_Some R.lent lent (sym (lent_there R) ∙ has) in
          let answered : Answered call line R.lent = subst (λ k. Answered k line R.lent) (same_call R) R.answered in
          tests.1 (subst (λ l. Answered call line l) equal answered),
    )

-- A JOB

-- the output is compared with a text
pub says_tests : (job line : List ℕ) (text : Text) (result : Bool) → JobAnswer job text → Tests result (line ≡ on_one_line (shown text))
    → Tests result (SaysAnswer job line)
says_tests job line text result answers tests = (
  λ e. record { text = text; answers = answers; says = tests.0 e },
  λ S. tests.1 (S.says ∙ ap (λ t. on_one_line (shown t)) (job_determined job S.text text S.answers answers)),
)

-- a line with a job and a text
pub job_tests : (line line-text job : List ℕ) (result : Bool) → length (parts tab line) ≡ 2 → line-text ≡ field_at line 1
    → byte_string (field_at line 0) ≡ Some job → Tests result (SaysAnswer job line-text) → Tests result (JobRight line)
job_tests line line-text job result fields there has tests = (
  λ e. record { fields = fields; job = job; has_job = has; answered = subst (λ t. SaysAnswer job t) there (tests.0 e) },
  λ R.
      let equal : R.job ≡ job = same_Some R.job job (sym R.has_job ∙ has) in
      let answered : SaysAnswer R.job line-text = subst (λ t. SaysAnswer R.job t) (sym there) R.answered in
      tests.1 (subst (λ j. SaysAnswer j line-text) equal answered),
)
