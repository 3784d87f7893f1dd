-- The program's input: a beginning of it is read, and the answer is the answer to the whole of it.
use Rattle.std.specs.Prelude.{◌≡◌, List, ℕ, suc, take}
use Rattle.job.specs.JobCall.{longest_job, JobAnswer}
use Rattle.job.specs.declared.call.Text.{Text}

-- as many bytes of an input as are read: one more than the longest job has
abbrev pub read_room : ℕ
read_room = suc longest_job

-- the text answers, as a job, every input that has the same first `read_room` bytes as what was read: all of them where there are fewer
unfoldable pub InputAnswer : List ℕ → Text → Type 0
InputAnswer read text = (input : List ℕ) → take read_room read ≡ take read_room input → JobAnswer input text
