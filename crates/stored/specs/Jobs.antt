-- Stored jobs. A line has, between tabs: the job in hexadecimal, and the program's whole output with each newline written as `\n`. It is
-- right if the library gives this output.
use Rattle.std.specs.Prelude.{◌≡◌, List, ℕ, length, take}
use Rattle.job.specs.JobCall.{JobAnswer}
use Rattle.job.specs.declared.call.Text.{Text}
use Rattle.notation.specs.Parts.{tab, parts, field_at}
use Rattle.notation.specs.OneLine.{on_one_line}
use Rattle.stored.specs.Calls.{BytesAt}

-- the letters of a text: those at the front of its array
abbrev pub shown : Text → List ℕ
shown text = take text.length text.bytes

-- the line says what the library answers to this job
pub record SaysAnswer (job line : List ℕ) : Type 0 where
  pub text : Text
  pub answers : JobAnswer job text
  pub says : line ≡ on_one_line (shown text)

-- THE LINE IS RIGHT
pub record JobRight (line : List ℕ) : Type 0 where
  pub fields : length (parts tab line) ≡ 2
  pub job : List ℕ
  pub has_job : BytesAt line 0 job
  pub answered : SaysAnswer job (field_at line 1)
