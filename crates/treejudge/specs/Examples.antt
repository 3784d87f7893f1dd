-- The examples of document 01 that are marked P ("Jobs and checked examples"), as rows of one list.
use Rattle.std.specs.Prelude.{◌≡◌, List, [], ◌∷◌, ℕ, ◌≤◌, length, replicate}
use Rattle.base.specs.Outcome.{Outcome, refused, accepted}
use Rattle.rule.specs.Rule.{Rule}
use Rattle.history.specs.Rounds.{round_tree, FirstRepeat}
use Rattle.history.specs.Finding.{Finding, yes_node, no_node, Found}
use Rattle.tree.specs.StartCall.{start_outcome, record_room}
use Rattle.step.specs.StepCall.{Moved, step_outcome}
use Rattle.treejudge.specs.JudgeCall.{tree_outcome, TreeAnswers, name_room}
use Rattle.treejudge.specs.declared.judge.TreeAnswer.{TreeAnswer}

-- a row of the list
pub data Example : Type 0 where
  -- the record that a table starts with
  starts : List ℕ → List ℕ → Example
  -- table, letter, record: the outcome of the step
  steps : List ℕ → ℕ → List ℕ → Outcome Moved → Example
  -- table, u, v: entry, period and what the tree judge finds
  judges : List ℕ → List ℕ → List ℕ → ℕ → ℕ → Finding → Example
  -- table, u, v: the number by which the tree judge refuses them
  refuses : List ℕ → List ℕ → List ℕ → ℕ → Example

-- what a row says, with a buffer of the length needed. A verdict: the call is accepted, and under the table's rule the walk has that
-- first repeat and that finding.
abbrev pub Holds : Example → Type 0
Holds (starts table bytes) = start_outcome table (replicate record_room 0) ≡ accepted bytes
Holds (steps table a bytes outcome) = step_outcome table a bytes (replicate record_room 0) ≡ outcome
Holds (judges table u v entry period finding) =
    (R : Rule) × (tree_outcome table u v (replicate name_room 0) ≡ accepted R)
    × FirstRepeat (round_tree R u v) entry period × Found R u v entry period finding
Holds (refuses table u v number) = tree_outcome table u v (replicate name_room 0) ≡ refused number

-- what the tree judge answers to a table and a walk, whatever buffer with room it is lent
abbrev pub AlwaysAnswers : List ℕ → List ℕ → List ℕ → TreeAnswer → Type 0
AlwaysAnswers table u v expected =
    (names : List ℕ) (answer : TreeAnswer) (after : List ℕ) → name_room ≤ length names
    → TreeAnswers (tree_outcome table u v names) u v names answer after → answer ≡ expected

-- Table A, Table B, Table C
unfoldable pub table_a : List ℕ
table_a = 0x02 ∷ 0x02 ∷ 0x01 ∷ 0x01 ∷ 0x01 ∷ 0x00 ∷ 0x00 ∷ 0x03 ∷ 0x00 ∷ 0x00 ∷ 0x02 ∷ 0x01 ∷ []

unfoldable pub table_b : List ℕ
table_b = 0x01 ∷ 0x02 ∷ 0x02 ∷ 0x01 ∷ 0x01 ∷ 0x01 ∷ 0x01 ∷ 0x02 ∷ []

unfoldable pub table_c : List ℕ
table_c = 0x01 ∷ 0x01 ∷ 0x01 ∷ 0x01 ∷ 0x00 ∷ []

-- "A starts 01 00 01; after letter 1: 03 00 00 01; again: 03 00 01 01 11; again the same, accepting map 02, stable 03."
-- "A, u empty, v = 1" is yes, entry 2, period 1, node 0. "A, v = 0: no, entry 0, period 1." "A, v = 0 1: no, entry 1, period 1."
-- "B, v = 0: no, entry 1, period 1." "B, v = 0 1: yes, entry 0, root." "B, v = 1: no, entry 0."
-- "C, v = 0: no, entry 1; the dead root does not accept." The document names no period for these three: it is 1.
-- "Letter 2 under A: 8", in a step and in a walk.
unfoldable pub examples : List Example
examples =
    starts table_a (0x01 ∷ 0x00 ∷ 0x01 ∷ [])
    ∷ steps table_a 1 (0x01 ∷ 0x00 ∷ 0x01 ∷ []) (accepted (record { bytes = 0x03 ∷ 0x00 ∷ 0x00 ∷ 0x01 ∷ []; accepting = 0x00; stable = 0x01 }))
    ∷ steps table_a 1 (0x03 ∷ 0x00 ∷ 0x00 ∷ 0x01 ∷ []) (accepted (record { bytes = 0x03 ∷ 0x00 ∷ 0x01 ∷ 0x01 ∷ 0x11 ∷ []; accepting = 0x00; stable = 0x01 }))
    ∷ steps table_a 1 (0x03 ∷ 0x00 ∷ 0x01 ∷ 0x01 ∷ 0x11 ∷ []) (accepted (record { bytes = 0x03 ∷ 0x00 ∷ 0x01 ∷ 0x01 ∷ 0x11 ∷ []; accepting = 0x02; stable = 0x03 }))
    ∷ judges table_a [] (1 ∷ []) 2 1 (yes_node (0 ∷ []))
    ∷ judges table_a [] (0 ∷ []) 0 1 no_node
    ∷ judges table_a [] (0 ∷ 1 ∷ []) 1 1 no_node
    ∷ judges table_b [] (0 ∷ []) 1 1 no_node
    ∷ judges table_b [] (0 ∷ 1 ∷ []) 0 1 (yes_node [])
    ∷ judges table_b [] (1 ∷ []) 0 1 no_node
    ∷ judges table_c [] (0 ∷ []) 1 1 no_node
    ∷ steps table_a 2 (0x01 ∷ 0x00 ∷ 0x01 ∷ []) (refused 8)
    ∷ refuses table_a [] (2 ∷ []) 8
    ∷ []
