-- The name of a tree's node: what the contracts of the tree judge's own functions say of it.
use Rattle.std.specs.Prelude.{◌≡◌, true, false, [], ℕ, ◌≤◌, ◌<◌, get_or, take, length}
use Rattle.base.specs.BitSet.{member}
use Rattle.rule.specs.Limits.{max_states}
use Rattle.rule.specs.Rule.{Rule}
use Rattle.history.specs.Forest.{names}
use Rattle.history.specs.Tree.{Tree}
use Rattle.tree.specs.Inner.Nodes.{HoldsTree}
use Rattle.tree.specs.declared.nodes.Tree.{Tree as CodeTree}
use Rattle.treejudge.specs.JudgeCall.{name_room}
use Rattle.treejudge.specs.declared.name.Name.{Name}

-- the lowest member of a map that has one below the limit
pub record Lowest (map j : ℕ) : Type 0 where
  pub none_before : (i : ℕ) → i < j → member map i ≡ false
  pub here : j < max_states → member map j ≡ true

-- a tree over some rule within the limits, with a node of that number
pub record SomeNode (x : CodeTree) (j : ℕ) : Type 0 where
  pub rule : Rule
  pub tree : Tree
  pub states : rule.states ≤ max_states
  pub holds : HoldsTree rule tree x
  pub node : j < x.count

-- the name of a tree's node
pub record IsName (x : CodeTree) (j : ℕ) (name : Name) : Type 0 where
  pub places : length name.numbers ≡ max_states
  pub short : name.length ≤ name_room
  pub numbers : (R : Rule) (T : Tree) → HoldsTree R T x → take name.length name.numbers ≡ get_or (names T) j []
