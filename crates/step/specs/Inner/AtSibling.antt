-- Document 02, U4, of the code's variable: the running set wherever the pass over the nodes of a tree reaches a sibling.
use Rattle.std.specs.Prelude.{◌≡◌, true, List, [], ℕ, get_or, take}
use Rattle.rule.specs.Rule.{Rule}
use Rattle.rule.specs.Inner.Lookup.{Lookup, letter_lookup, look_up}
use Rattle.rule.specs.Inner.Padded.{padded}
use Rattle.table.specs.Inner.ReadRule.{WithinLimits}
use Rattle.history.specs.Tree.{Tree, is_tree_of}
use Rattle.tree.specs.Inner.Nodes.{AreNodes}
use Rattle.tree.specs.declared.nodes.Node.{Node as CodeNode}
use Rattle.step.specs.RunningSet.{RunningSet}
use Rattle.step.specs.Inner.Pass.{closed_to, read_nodes, at_start}
use Rattle.step.specs.Inner.LevelArrays.{pass_at}
use Rattle.step.specs.declared.pass.Levels.{Levels}
use Rattle.step.specs.declared.pass.Standing.{Standing}

-- what is known where a sibling is reached: the variables are those of a pass that has read the first i of some nodes, and has closed the
-- levels deeper than `top`
pub record AtSibling (lookup : Lookup) (k : ℕ) (nodes : List CodeNode) (i : ℕ) (at : Standing) : Type 0 where
  pub side : List ℕ
  pub levels : Levels
  pub accepting : ℕ
  pub stable : ℕ
  pub pass : pass_at side levels at accepting stable ≡ closed_to at.top (read_nodes (look_up lookup) k 0 at_start (take i nodes))

-- for every rule, letter and tree whose look-up and nodes these are: "when a sibling is reached, this set is the union of its older
-- siblings' labels, both as they were before these siblings lost states to one another and as they are after"
unfoldable pub CarriedAlong : Type 0
CarriedAlong =
    (R : Rule) → WithinLimits R → (a : ℕ) (T : Tree) → is_tree_of R T ≡ true
    → (lookup : Lookup) → lookup ≡ letter_lookup (get_or (padded R.grid) a []) → (nodes : List CodeNode) → AreNodes nodes T
    → (i : ℕ) (at : Standing) → AtSibling lookup R.sets nodes i at → RunningSet R a T i at.top at.running
