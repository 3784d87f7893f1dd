-- What the printed text of a job says of the walk (demand 3, for the program), and by which number a job is refused.
use Rattle.std.specs.Prelude.{◌≡◌, ◌↔◌, List, ◌++◌, ℕ}
use Rattle.base.specs.Outcome.{refused, accepted}
use Rattle.rule.specs.Rule.{Rule}
use Rattle.word.specs.Keeps.{Keeps}
use Rattle.word.specs.Verdict.{Decides}
use Rattle.history.specs.Finding.{WalkJudged}
use Rattle.job.specs.Ascii.{ascii}
use Rattle.job.specs.JobCall.{Parts, job_outcome, finding_verdict, five_lines, refusal_text, text_of, JobAnswer}
use Rattle.job.specs.declared.call.Text.{Text}

-- a job that is not refused: it has the parts p, and its table is read as the rule R
abbrev pub AcceptedJob : List ℕ → Parts → Rule → Type 0
AcceptedJob job p R = job_outcome job ≡ accepted (p, R)

-- the text begins with these bytes
abbrev pub Begins : List ℕ → Text → Type 0
Begins front text = (rest : List ℕ) × (text ≡ text_of (front ++ rest))

-- what the reader of a text sees: it begins with a verdict exactly when the job is accepted, and else has the number of the refusal,
-- which is never 0
pub record TextTells (job : List ℕ) (text : Text) : Type 0 where
  pub accepts : Begins (ascii "verdict ") text ↔ ((p : Parts) × (R : Rule) × AcceptedJob job p R)
  pub refuses : (number : ℕ) → job_outcome job ≡ refused number → (text ≡ text_of (refusal_text number)) × (number ≡ 0 → ⊥)

abbrev pub JobNumber : Type 0
JobNumber = (job : List ℕ) (text : Text) → JobAnswer job text → TextTells job text

-- a text that says what is so of the rule and the walk: five lines with what is judged of the walk, and the first and the last are right
pub record Says (R : Rule) (u v : List ℕ) (text : Text) : Type 0 where
  pub walk : WalkJudged R u v
  pub plain : ℕ
  pub lines : text ≡ text_of (five_lines walk.entry walk.period walk.finding plain)
  -- the first line "says yes exactly when some endless run of the rule, over the lead-in followed by the tail for ever, goes through
  -- every accepting set infinitely often, and no otherwise"
  pub first : Decides (finding_verdict walk.finding) (Keeps R u v)
  -- the last line says the same
  pub last : finding_verdict walk.finding ≡ plain

-- THE PRINTED VERDICT: whatever the job, if it is not refused, a text that the contract allows is so
unfoldable pub PrintedVerdict : Type 0
PrintedVerdict =
    (job : List ℕ) (p : Parts) (R : Rule) (text : Text) → AcceptedJob job p R → JobAnswer job text
    → Says R p.lead p.tail text

-- the text begins and ends with these bytes
abbrev pub Prints : List ℕ → List ℕ → Text → Type 0
Prints begin end text = (middle : List ℕ) × (text ≡ text_of (begin ++ (middle ++ end)))

-- the same in letters, from what is seen alone: whatever the job, the lines `verdict yes` and `plain yes` stand there exactly when the job
-- is accepted and its walk keeps its rule, `verdict no` and `plain no` exactly when it is accepted and its walk does not
unfoldable pub PrintedYesNo : Type 0
PrintedYesNo =
    (job : List ℕ) (text : Text) → JobAnswer job text
    → (Prints (ascii "verdict yes\n") (ascii "\nplain yes\n") text
    ↔ ((p : Parts) × (R : Rule) × AcceptedJob job p R × Keeps R p.lead p.tail))
    × (Prints (ascii "verdict no\n") (ascii "\nplain no\n") text
    ↔ ((p : Parts) × (R : Rule) × AcceptedJob job p R × (Keeps R p.lead p.tail → ⊥)))
