-- What the check of a record answers, for the contracts inside this crate.
use Rattle.std.specs.Prelude.{◌≡◌, ◌&&◌, List, ℕ, leb, MatchOption}
use Rattle.base.specs.Outcome.{Outcome, refused, accepted, ask}
use Rattle.rule.specs.Limits.{max_states, max_sets}
use Rattle.history.specs.Forest.{nil, size}
use Rattle.history.specs.Tree.{Tree}
use Rattle.history.specs.Record.{read_tree}
use Rattle.tree.specs.Inner.Nodes.{nodes_of}
use Rattle.tree.specs.Inner.RecordNodes.{HasNodes}
use Rattle.tree.specs.declared.record.Checked.{Checked}

-- question 9 for any n and k: past the limits the code has no room for a tree, and no bytes pass
unfoldable pub checked_tree : ℕ → ℕ → List ℕ → Outcome Tree
checked_tree n k bytes = ask (leb n max_states && leb k max_sets) 9 (read_tree n k bytes)

-- the tree that stands beside the count: the tree of the record; the dead tree beside a refusal
unfoldable pub tree_beside : Outcome Tree → Tree
tree_beside (refused number) = nil
tree_beside (accepted T) = T

-- the check's answer: the number of the tree's nodes, or nothing where question 9 is answered no; and the tree
pub record Checks (o : Outcome Tree) (r : Checked) : Type 0 where
  pub count : MatchOption r.count (o ≡ refused 9) (λ count. (T : Tree) × (o ≡ accepted T) × (count ≡ size T))
  pub tree : HasNodes (nodes_of (tree_beside o)) r.tree
