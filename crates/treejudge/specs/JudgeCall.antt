-- The tree judge's call (document 01, "Walks and verdicts"): what it answers, and what it leaves in the lent name buffer, for all
-- inputs.
use Rattle.std.specs.Prelude.{◌≡◌, List, ℕ, length}
use Rattle.base.specs.Outcome.{Outcome, refused, accepted, Tells}
use Rattle.base.specs.LentBuffer.{stored}
use Rattle.rule.specs.Rule.{Rule}
use Rattle.word.specs.Judging.{judge_questions}
use Rattle.history.specs.Finding.{Finding, yes_node, no_node, WalkJudged}
use Rattle.treejudge.specs.declared.judge.TreeAnswer.{TreeAnswer}

-- "7 for a name"
abbrev pub name_room : ℕ
name_room = 7

-- "On no, the length is 255"
abbrev pub no_name : ℕ
no_name = 255

-- questions 1 to 6, 7, 8 and 10
unfoldable pub tree_outcome : List ℕ → List ℕ → List ℕ → List ℕ → Outcome Rule
tree_outcome table u v names = judge_questions name_room table u v names

-- the answer to a walk: yes is 1, with the length of the node's name; no is 0, with the length 255
unfoldable pub tree_answer : ℕ → ℕ → Finding → TreeAnswer
tree_answer entry period (yes_node w) = record { number = 0; verdict = 1; entry = entry; period = period; length = length w }
tree_answer entry period no_node = record { number = 0; verdict = 0; entry = entry; period = period; length = no_name }

-- the name buffer afterwards: "numbers in a lent 7-byte buffer, the rest of it unchanged. On no, .. the buffer unchanged"
unfoldable pub names_after : Finding → List ℕ → List ℕ
names_after (yes_node w) names = stored 0 w names
names_after no_node names = names

-- an accepted call: the walk is judged, and the answer and the buffer are as that says
pub record Judged (R : Rule) (u v names : List ℕ) (answer : TreeAnswer) (after : List ℕ) : Type 0 where
  pub walk : WalkJudged R u v
  pub answers : answer ≡ tree_answer walk.entry walk.period walk.finding
  pub leaves : after ≡ names_after walk.finding names

-- the answer and the buffer afterwards: on a refusal its number and zero for all else, the buffer unchanged
abbrev pub TreeAnswers : Outcome Rule → List ℕ → List ℕ → List ℕ → TreeAnswer → List ℕ → Type 0
TreeAnswers (refused number) u v names answer after =
    (answer ≡ record { number = number; verdict = 0; entry = 0; period = 0; length = 0 }) × (after ≡ names)
TreeAnswers (accepted R) u v names answer after = Judged R u v names answer after

-- the contract of the call: for a table, a walk and a lent name buffer, this answer, and these bytes in the buffer afterwards
abbrev pub TreeCall : List ℕ → List ℕ → List ℕ → List ℕ → TreeAnswer → List ℕ → Type 0
TreeCall table u v names answer after = TreeAnswers (tree_outcome table u v names) u v names answer after

-- the number that a caller sees tells whether the call is accepted
abbrev pub TreeNumber : Type 0
TreeNumber =
    (table u v names : List ℕ) (answer : TreeAnswer) (after : List ℕ)
    → TreeCall table u v names answer after → Tells (tree_outcome table u v names) answer.number
