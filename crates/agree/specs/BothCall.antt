-- The call of both judges: what it answers, and what it leaves in the two lent buffers, for all inputs.
use Rattle.std.specs.Prelude.{◌≡◌, List, ℕ}
use Rattle.base.specs.Outcome.{Tells}
use Rattle.plain.specs.PlainCall.{plain_outcome, PlainAnswers, scratch_after}
use Rattle.treejudge.specs.JudgeCall.{tree_outcome, TreeAnswers}
use Rattle.agree.specs.Agreement.{Agreement}
use Rattle.agree.specs.declared.both.BothAnswers.{BothAnswers}

-- each judge answers, and leaves its own buffer, exactly as its own contract says, and the two agree
pub record BothAnswer (table u v names scratch : List ℕ) (answers : BothAnswers) (names' scratch' : List ℕ) : Type 0 where
  pub tree : TreeAnswers (tree_outcome table u v names) u v names answers.tree names'
  pub plain : PlainAnswers (plain_outcome table u v scratch) u v answers.plain
  pub clears : scratch' ≡ scratch_after (plain_outcome table u v scratch) scratch
  pub agreement : Agreement table u v answers.tree answers.plain

-- the contract determines the answers and both buffers
abbrev pub BothDetermined : Type 0
BothDetermined =
    (table u v names scratch : List ℕ) (a b : BothAnswers) (names' names'' scratch' scratch'' : List ℕ)
    → BothAnswer table u v names scratch a names' scratch' → BothAnswer table u v names scratch b names'' scratch''
    → (a ≡ b) × (names' ≡ names'') × (scratch' ≡ scratch'')

-- each number tells whether that judge's call is accepted
abbrev pub BothNumbers : Type 0
BothNumbers =
    (table u v names scratch : List ℕ) (answers : BothAnswers) (names' scratch' : List ℕ)
    → BothAnswer table u v names scratch answers names' scratch'
    → Tells (tree_outcome table u v names) answers.tree.number × Tells (plain_outcome table u v scratch) answers.plain.number
