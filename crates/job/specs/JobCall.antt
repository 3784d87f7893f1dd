-- The call that judges one job (document 01, "Jobs and checked examples" and question 12): the text that it answers, for all
-- inputs.
use Rattle.std.specs.Prelude.{◌≡◌, ◌&&◌, cond, ℕ, zero, suc, ◌+◌, ◌-◌, ◌/◌, ◌%◌, eqb, leb, ltb, length, replicate}
use mathlib.Core.List.{List, [], ◌∷◌, ◌++◌, flat_map}
use Rattle.base.specs.Outcome.{Outcome, refused, accepted, ask, ◌then◌}
use Rattle.base.specs.Reading.{read_part, ended}
use Rattle.rule.specs.Rule.{Rule}
use Rattle.word.specs.Judging.{walk_questions}
use Rattle.word.specs.Keeps.{KeepsByLasso}
use Rattle.word.specs.Verdict.{Decides}
use Rattle.history.specs.Finding.{Finding, yes_node, no_node, WalkJudged}
use Rattle.job.specs.Ascii.{ascii}
use Rattle.job.specs.declared.call.Text.{Text}

-- THE PARTS OF A JOB

-- "A job is three parts, each after its length in two bytes, low first: table, u, v."
pub record Parts : Type 0 where
  pub table : List ℕ
  pub lead : List ℕ
  pub tail : List ℕ

-- "has the job 6 to 9,354 bytes"
abbrev pub shortest_job : ℕ
shortest_job = 6

abbrev pub longest_job : ℕ
longest_job = 9354

-- ", and do its three parts end exactly with its last byte? 12"
unfoldable pub job_parts : List ℕ → Outcome Parts
job_parts job =
    ask (leb shortest_job (length job) && leb (length job) longest_job) 12
    (read_part 12 job then λ table.
    read_part 12 table.1 then λ lead.
    read_part 12 lead.1 then λ tail.
    ask (ended tail.1) 12
    (accepted (record { table = table.0; lead = lead.0; tail = tail.0 })))

-- all questions to a job: behind 12, those to its table and its walk; accepted, its parts and the rule of its table
unfoldable pub job_outcome : List ℕ → Outcome (Parts × Rule)
job_outcome job = job_parts job then λ p. walk_questions p.table p.lead p.tail then λ R. accepted (p, R)

-- THE LINES

-- a number's decimal digits in ASCII, highest first. The first argument bounds how many there are; n itself always suffices, so
-- `digits` is right for every n.
unfoldable pub digits_within : ℕ → ℕ → List ℕ
digits_within zero n = (48 + n) ∷ []
digits_within (suc more) n = cond (ltb n 10) ((48 + n) ∷ []) (digits_within more (n / 10) ++ ((48 + n % 10) ∷ []))

unfoldable pub digits : ℕ → List ℕ
digits n = digits_within n n

-- a line: its label with a space, its value, a newline
unfoldable pub line : List ℕ → List ℕ → List ℕ
line label value = label ++ (value ++ ascii "\n")

-- the verdict 1 is yes, 0 is no
unfoldable pub yes_no : ℕ → List ℕ
yes_no verdict = cond (eqb verdict 1) (ascii "yes") (ascii "no")

unfoldable pub finding_verdict : Finding → ℕ
finding_verdict (yes_node w) = 1
finding_verdict no_node = 0

-- "numbers joined by dots, `-` for the root"
unfoldable pub dotted : ℕ → List ℕ
dotted j = ascii "." ++ digits j

unfoldable pub name_text : List ℕ → List ℕ
name_text [] = ascii "-"
name_text (i ∷ w) = digits i ++ flat_map dotted w

-- "the word `none` on no"
unfoldable pub node_text : Finding → List ℕ
node_text (yes_node w) = name_text w
node_text no_node = ascii "none"

-- "five lines: verdict, entry, period, node .., plain verdict"
unfoldable pub five_lines : ℕ → ℕ → Finding → ℕ → List ℕ
five_lines entry period finding plain =
    line (ascii "verdict ") (yes_no (finding_verdict finding))
    ++ (line (ascii "entry ") (digits entry)
    ++ (line (ascii "period ") (digits period)
    ++ (line (ascii "node ") (node_text finding)
    ++ line (ascii "plain ") (yes_no plain))))

-- "A refusal prints one line, as `refused 5`."
unfoldable pub refusal_text : ℕ → List ℕ
refusal_text number = line (ascii "refused ") (digits number)

-- THE ANSWER

-- the length of a text's array
abbrev pub text_room : ℕ
text_room = 128

-- the text with these bytes: they stand at the front of its array, zeros behind them
unfoldable pub text_of : List ℕ → Text
text_of bytes = record { bytes = bytes ++ replicate (text_room - length bytes) 0; length = length bytes }

-- a job that is judged: the walk is judged, the plain verdict says whether it keeps the rule, by a loop, and the text has the five lines
-- that say so
pub record JobJudged (R : Rule) (u v : List ℕ) (text : Text) : Type 0 where
  pub walk : WalkJudged R u v
  pub plain : ℕ
  pub decides : Decides plain (KeepsByLasso R u v)
  pub says : text ≡ text_of (five_lines walk.entry walk.period walk.finding plain)

-- the answer to a job's parts: on a refusal its one line
abbrev pub PartsAnswers : Outcome Rule → List ℕ → List ℕ → Text → Type 0
PartsAnswers (refused number) u v text = text ≡ text_of (refusal_text number)
PartsAnswers (accepted R) u v text = JobJudged R u v text

-- the answer to a job that question 12 was put to
abbrev pub SplitAnswers : Outcome Parts → Text → Type 0
SplitAnswers (refused number) text = text ≡ text_of (refusal_text number)
SplitAnswers (accepted p) text = PartsAnswers (walk_questions p.table p.lead p.tail) p.lead p.tail text

-- THE CALL: this text answers this job
unfoldable pub JobAnswer : List ℕ → Text → Type 0
JobAnswer job text = SplitAnswers (job_parts job) text
