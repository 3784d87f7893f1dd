-- Reading letters: what the contracts of the tree judge's own functions say of look-ups and nodes.
use Rattle.std.specs.Prelude.{◌≡◌, List, ℕ}
use Rattle.base.specs.Lists.{Every}
use Rattle.rule.specs.Rule.{Rule}
use Rattle.table.specs.Inner.ReadRule.{WithinLimits}
use Rattle.word.specs.Inner.WalkLookups.{Lookups, HasLookup}
use Rattle.history.specs.Tree.{Tree}
use Rattle.history.specs.Rounds.{read_letters}
use Rattle.tree.specs.Inner.Nodes.{HoldsTree}
use Rattle.tree.specs.declared.nodes.Tree.{Tree as CodeTree}

-- the rule R is within the limits, and has k sets
pub record HasSets (R : Rule) (k : ℕ) : Type 0 where
  pub number : R.sets ≡ k
  pub limits : WithinLimits R

-- the letters w are read from T
pub record Reads (R : Rule) (T : Tree) (lookups : Lookups) (k : ℕ) (w : List ℕ) (x : CodeTree) : Type 0 where
  pub holds : HasSets R k
  pub has_lookups : Every (HasLookup R lookups) w
  pub tree : HoldsTree R T x

unfoldable pub Readable : Lookups → ℕ → List ℕ → CodeTree → Type 0
Readable lookups k w x = (R : Rule) × (T : Tree) × Reads R T lookups k w x

-- and lead to the tree after them
unfoldable pub ReadsTo : Lookups → ℕ → List ℕ → CodeTree → CodeTree → Type 0
ReadsTo lookups k w x r = (R : Rule) (T : Tree) → Reads R T lookups k w x → HoldsTree R (read_letters R w T) r
