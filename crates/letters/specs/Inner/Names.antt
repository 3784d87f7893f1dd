-- Following nodes by their names: what the contracts of the tree judge's own functions say of the two maps.
use Rattle.std.specs.Prelude.{◌≡◌, true, List, map, ◌++◌, ℕ, ◌-◌, ◌^◌}
use Rattle.base.specs.Lists.{Every}
use Rattle.rule.specs.Rule.{Rule}
use Rattle.word.specs.Inner.WalkLookups.{Lookups, HasLookup}
use Rattle.history.specs.Tree.{Tree, is_tree_of}
use Rattle.history.specs.Rounds.{read_letters}
use Rattle.history.specs.Inner.Following.{carried, kept_map, witness_map}
use Rattle.tree.specs.Inner.PackedNodes.{counted_nodes}
use Rattle.tree.specs.Inner.Nodes.{HoldsTree}
use Rattle.tree.specs.declared.nodes.Tree.{Tree as CodeTree}
use Rattle.letters.specs.Inner.Reading.{HasSets}
use Rattle.letters.specs.declared.follow.Maps.{Maps}

-- before the first letter: all nodes have kept their names, and none is a witness
abbrev pub all_kept : ℕ → Maps
all_kept count = record { kept = 2 ^ count - 1; witnesses = 0 }

-- both maps of old numbers carried to the numbers of a tree's nodes
unfoldable pub carried_maps : CodeTree → Maps → Maps
carried_maps x m =
    let olds = map (λ r. r.old) (counted_nodes x) in
    record { kept = carried olds m.kept; witnesses = carried olds m.witnesses }

-- the tree after the letters w from T on, and the maps of its nodes that kept their names all along, and were accepting once
pub record Follows (R : Rule) (T : Tree) (w : List ℕ) (x : CodeTree) (m : Maps) : Type 0 where
  pub first : is_tree_of R T ≡ true
  pub tree : HoldsTree R (read_letters R w T) x
  pub kept : m.kept ≡ kept_map R T w
  pub witnesses : m.witnesses ≡ witness_map R T w

-- the letters w are read on, behind others
pub record FollowsOn (R : Rule) (T : Tree) (before : List ℕ) (lookups : Lookups) (k : ℕ) (w : List ℕ)
    (x : CodeTree) (m : Maps) : Type 0 where
  pub holds : HasSets R k
  pub has_lookups : Every (HasLookup R lookups) w
  pub follows : Follows R T before x m

unfoldable pub Followable : Lookups → ℕ → List ℕ → CodeTree → Maps → Type 0
Followable lookups k w x m = (R : Rule) × (T : Tree) × (before : List ℕ) × FollowsOn R T before lookups k w x m

unfoldable pub FollowsTo : Lookups → ℕ → List ℕ → CodeTree → Maps → CodeTree → Maps → Type 0
FollowsTo lookups k w x m y n =
    (R : Rule) (T : Tree) (before : List ℕ) → FollowsOn R T before lookups k w x m → Follows R T (before ++ w) y n
