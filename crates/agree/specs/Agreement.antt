-- Demand 3: the verdicts of both judges, and the endless run itself.
use Rattle.std.specs.Prelude.{◌≡◌, List, ℕ}
use Rattle.base.specs.Outcome.{accepted}
use Rattle.rule.specs.Rule.{Rule}
use Rattle.table.specs.Table.{read_rule}
use Rattle.word.specs.Keeps.{Keeps}
use Rattle.word.specs.Verdict.{Decides}
use Rattle.plain.specs.PlainCall.{plain_outcome, PlainAnswers}
use Rattle.plain.specs.declared.judge.PlainAnswer.{PlainAnswer}
use Rattle.treejudge.specs.JudgeCall.{tree_outcome, TreeAnswers}
use Rattle.treejudge.specs.declared.judge.TreeAnswer.{TreeAnswer}

-- a verdict on a table and a walk is right: there is the rule that the table is read as, and the verdict "says yes exactly when some
-- endless run of the rule, over the lead-in followed by the tail for ever, goes through every accepting set infinitely often, and
-- no otherwise"
abbrev pub Right : List ℕ → List ℕ → List ℕ → ℕ → Type 0
Right table u v verdict = (R : Rule) × (read_rule table ≡ accepted R) × Decides verdict (Keeps R u v)

-- two answers to one table and one walk are right and agree. A call is accepted where its number is 0.
pub record Agreement (table u v : List ℕ) (tree : TreeAnswer) (plain : PlainAnswer) : Type 0 where
  -- "if its call is accepted, the tree judge says yes exactly when .., and no otherwise"
  pub tree_right : tree.number ≡ 0 → Right table u v tree.verdict
  -- "If its own call is accepted, the plain judge, which builds no tree, says yes exactly then too, and no otherwise"
  pub plain_right : plain.number ≡ 0 → Right table u v plain.verdict
  -- "so where both calls are accepted, the two say the same"
  pub same : tree.number ≡ 0 → plain.number ≡ 0 → tree.verdict ≡ plain.verdict

-- DEMAND 3: "Whatever the rule table, whatever the walk and whatever the lent buffers hold": the answers that the two contracts allow
-- are right and agree
unfoldable pub Demand3 : Type 0
Demand3 =
    (table u v names scratch : List ℕ) (tree : TreeAnswer) (after : List ℕ) (plain : PlainAnswer)
    → TreeAnswers (tree_outcome table u v names) u v names tree after
    → PlainAnswers (plain_outcome table u v scratch) u v plain
    → Agreement table u v tree plain
