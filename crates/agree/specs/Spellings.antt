-- One walk, two spellings (document 02, U6): what the judges say of two walks that have the same letters.
use Rattle.std.specs.Prelude.{◌≡◌, List, [], ◌∷◌, ℕ}
use Rattle.word.specs.Walk.{SameLetters}
use Rattle.spelling.specs.SameCall.{same_outcome, SameAnswers}
use Rattle.spelling.specs.declared.same.SameAnswer.{SameAnswer}
use Rattle.history.specs.Finding.{Finding}
use Rattle.plain.specs.PlainCall.{plain_outcome, PlainAnswers}
use Rattle.plain.specs.declared.judge.PlainAnswer.{PlainAnswer}
use Rattle.treejudge.specs.JudgeCall.{tree_outcome, tree_answer, names_after, TreeAnswers}
use Rattle.treejudge.specs.Examples.{AlwaysAnswers}
use Rattle.treejudge.specs.declared.judge.TreeAnswer.{TreeAnswer}

-- VERDICTS

-- a judge says this verdict on a table and a walk: some call of the tree judge or of the plain judge, with whatever buffer lent, gives an
-- answer that its contract allows, with the number 0 and this verdict
pub data JudgeSays (table u v : List ℕ) (verdict : ℕ) : Type 0 where
  tree_says : (names : List ℕ) (answer : TreeAnswer) (after : List ℕ)
      → TreeAnswers (tree_outcome table u v names) u v names answer after → answer.number ≡ 0 → answer.verdict ≡ verdict
      → JudgeSays table u v verdict
  plain_says : (scratch : List ℕ) (answer : PlainAnswer)
      → PlainAnswers (plain_outcome table u v scratch) u v answer → answer.number ≡ 0 → answer.verdict ≡ verdict
      → JudgeSays table u v verdict

-- U6: "if two accepted walks have the same letter at every position of the endless sequence, the verdicts that accepted calls give on any
-- accepted table are equal": of tree and tree, plain and plain, tree and plain
abbrev pub TwoSpellings : Type 0
TwoSpellings =
    (table u v u' v' : List ℕ) (verdict verdict' : ℕ) → SameLetters u v u' v'
    → JudgeSays table u v verdict → JudgeSays table u' v' verdict' → verdict ≡ verdict'

-- so where `same_walk` answers 1, a verdict on one walk is the verdict on the other
abbrev pub SameWalkVerdicts : Type 0
SameWalkVerdicts =
    (table u v u' v' : List ℕ) (answer : SameAnswer) (verdict verdict' : ℕ)
    → SameAnswers (same_outcome u v u' v') u v u' v' answer → answer.same ≡ 1
    → JudgeSays table u v verdict → JudgeSays table u' v' verdict' → verdict ≡ verdict'

-- ENTRY, PERIOD AND NODE: "Entry, period and node may differ." Entry and period do; the node does not.

-- two answers of the tree judge with one finding: the same verdict, name length and name, whatever entry and period are
pub record SameFinding (names names' : List ℕ) (answer answer' : TreeAnswer) (after after' : List ℕ) : Type 0 where
  pub finding : Finding
  pub answers : answer ≡ tree_answer answer.entry answer.period finding
  pub answers' : answer' ≡ tree_answer answer'.entry answer'.period finding
  pub leaves : after ≡ names_after finding names
  pub leaves' : after' ≡ names_after finding names'

-- accepted calls of the tree judge on two walks with the same letters have one finding
abbrev pub SameNode : Type 0
SameNode =
    (table u v u' v' names names' : List ℕ) (answer answer' : TreeAnswer) (after after' : List ℕ) → SameLetters u v u' v'
    → TreeAnswers (tree_outcome table u v names) u v names answer after → answer.number ≡ 0
    → TreeAnswers (tree_outcome table u' v' names') u' v' names' answer' after' → answer'.number ≡ 0
    → SameFinding names names' answer answer' after after'

-- two states, one letter, two sets: both states start, and only state 1 has a transition, to itself, in both sets
unfoldable pub table_d : List ℕ
table_d = 0x02 ∷ 0x01 ∷ 0x02 ∷ 0x03 ∷ 0x00 ∷ 0x02 ∷ 0x03 ∷ []

-- the walk 0 0 0 …, spelled with the tail 0, and with the lead-in 0 and the tail 0 0: entry 1 and period 2, entry 0 and period 1
pub record EntryPeriodDiffer : Type 0 where
  pub same : SameLetters [] (0 ∷ []) (0 ∷ []) (0 ∷ 0 ∷ [])
  pub first : AlwaysAnswers table_d [] (0 ∷ []) (record { number = 0; verdict = 1; entry = 1; period = 2; length = 0 })
  pub second : AlwaysAnswers table_d (0 ∷ []) (0 ∷ 0 ∷ []) (record { number = 0; verdict = 1; entry = 0; period = 1; length = 0 })
