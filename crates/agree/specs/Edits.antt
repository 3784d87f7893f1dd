-- Editing a mode the walk never uses (document 02, U10): "A fitter edits the cells of one letter and wants to know which old verdicts stand."
use Rattle.std.specs.Prelude.{◌≡◌, cond, List, [], ◌∷◌, ℕ, eqb, length}
use Rattle.base.specs.Outcome.{accepted}
use Rattle.base.specs.LentBuffer.{stored}
use Rattle.rule.specs.Rule.{Rule}
use Rattle.table.specs.Table.{read_rule}
use Rattle.word.specs.EqualOn.{EqualOn, EqualBytesOn}
use Rattle.plain.specs.PlainCall.{scratch_length, plain_outcome, PlainAnswers, scratch_after}
use Rattle.plain.specs.declared.judge.PlainAnswer.{PlainAnswer}
use Rattle.treejudge.specs.JudgeCall.{tree_outcome, TreeAnswers}
use Rattle.treejudge.specs.Examples.{AlwaysAnswers, table_a}
use Rattle.treejudge.specs.declared.judge.TreeAnswer.{TreeAnswer}

-- WHAT TWO CALLS HAVE IN COMMON

-- they write the same bytes at the front of their lent buffers, `count` of them, and leave all else as it was
pub record WriteAlike (count : ℕ) (lent lent' after after' : List ℕ) : Type 0 where
  pub bytes : List ℕ
  pub size : length bytes ≡ count
  pub leaves : after ≡ stored 0 bytes lent
  pub leaves' : after' ≡ stored 0 bytes lent'

-- the tree judge writes the node's name: on yes as many bytes as it says, on no and on a refusal none
unfoldable pub name_bytes : TreeAnswer → ℕ
name_bytes answer = cond (eqb answer.verdict 1) answer.length 0

-- the plain judge writes the scratch bytes that it wants, on a refusal none
unfoldable pub zero_bytes : PlainAnswer → ℕ
zero_bytes answer = cond (eqb answer.number 0) scratch_length 0

-- two calls of the tree judge on one walk, with lent buffers of one length: of whatever answers the contract allows, and whatever the buffers
-- hold, number, verdict, entry, period and name length are the same, and so is the name
abbrev pub SameTreeCalls : List ℕ → List ℕ → List ℕ → List ℕ → Type 0
SameTreeCalls table table' u v =
    (names names' : List ℕ) → length names ≡ length names' → (answer answer' : TreeAnswer) (after after' : List ℕ)
    → TreeAnswers (tree_outcome table u v names) u v names answer after
    → TreeAnswers (tree_outcome table' u v names') u v names' answer' after'
    → (answer ≡ answer') × WriteAlike (name_bytes answer) names names' after after'

-- two calls of the plain judge, in the same way: number and verdict are the same
abbrev pub SamePlainCalls : List ℕ → List ℕ → List ℕ → List ℕ → Type 0
SamePlainCalls table table' u v =
    (scratch scratch' : List ℕ) → length scratch ≡ length scratch' → (answer answer' : PlainAnswer) (after after' : List ℕ)
    → PlainAnswers (plain_outcome table u v scratch) u v answer → after ≡ scratch_after (plain_outcome table u v scratch) scratch
    → PlainAnswers (plain_outcome table' u v scratch') u v answer' → after' ≡ scratch_after (plain_outcome table' u v scratch') scratch'
    → (answer ≡ answer') × WriteAlike (zero_bytes answer) scratch scratch' after after'

-- "each judge's call gives the same on both, be it verdict, entry, period and node, plain verdict, or refusal, under .. the same lent lengths"
pub record SameCalls (table table' u v : List ℕ) : Type 0 where
  pub tree : SameTreeCalls table table' u v
  pub plain : SamePlainCalls table table' u v

-- THE THEOREM

-- "For two accepted tables equal in header and starting map, and equal in all cells of the letters that occur in u or v": by the rules that the
-- tables are read as
abbrev pub UnusedEdits : Type 0
UnusedEdits =
    (table table' u v : List ℕ) (R S : Rule) → read_rule table ≡ accepted R → read_rule table' ≡ accepted S
    → EqualOn R S u v → SameCalls table table' u v

-- the same by the tables' bytes: what a fitter edits is the cells of letters that do not occur
abbrev pub UnusedBytes : Type 0
UnusedBytes =
    (table table' u v : List ℕ) (R S : Rule) → read_rule table ≡ accepted R → read_rule table' ≡ accepted S
    → EqualBytesOn table table' u v → SameCalls table table' u v

-- AN EXAMPLE

-- table A of document 01 with one cell of letter 0 edited: the transition from state 0 to itself is now in set 1
unfoldable pub edited_a : List ℕ
edited_a = 0x02 ∷ 0x02 ∷ 0x01 ∷ 0x01 ∷ 0x01 ∷ 0x01 ∷ 0x00 ∷ 0x03 ∷ 0x00 ∷ 0x00 ∷ 0x02 ∷ 0x01 ∷ []

-- the walk 1 1 1 … has no letter 0, so what was said of it stands; the walk 0 0 0 … has, and its verdict turns from no to yes
pub record EditedExample : Type 0 where
  pub unused : EqualBytesOn table_a edited_a [] (1 ∷ [])
  pub used : AlwaysAnswers table_a [] (0 ∷ []) (record { number = 0; verdict = 0; entry = 0; period = 1; length = 255 })
  pub used' : AlwaysAnswers edited_a [] (0 ∷ []) (record { number = 0; verdict = 1; entry = 0; period = 1; length = 0 })
