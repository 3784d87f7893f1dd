-- The first repeat as the code finds it: what the contracts of the tree judge's own functions say of it.
use Rattle.std.specs.Prelude.{◌≡◌, true, false, List, [], ℕ, ◌<◌, get_or, Option, MatchOption}
use Rattle.base.specs.BitSet.{member}
use Rattle.rule.specs.Rule.{Rule}
use Rattle.word.specs.Inner.WalkLookups.{Lookups}
use Rattle.history.specs.Forest.{size, names}
use Rattle.history.specs.Tree.{Tree}
use Rattle.history.specs.Rounds.{round_tree, FirstRepeat}
use Rattle.history.specs.Verdict.{Witness, FirstWitness}
use Rattle.tree.specs.Inner.Nodes.{HoldsTree}
use Rattle.tree.specs.declared.nodes.Tree.{Tree as CodeTree}
use Rattle.treejudge.specs.Inner.Cycles.{AtRound}
use Rattle.treejudge.specs.declared.repeat.Repeat.{Repeat}

-- entry and period are those of the first repeat, and the map has the witnesses among the nodes of a tree: its lowest number is that
-- of the first witness, and it is empty only where there is none
pub record RepeatOf (R : Rule) (u v : List ℕ) (r : Repeat) : Type 0 where
  pub repeat : FirstRepeat (round_tree R u v) r.entry r.period
  pub tree : Tree
  pub holds : HoldsTree R tree r.tree
  pub node : (j : ℕ) → member r.witnesses j ≡ true → j < size tree
  pub lowest : (j : ℕ) → member r.witnesses j ≡ true → ((i : ℕ) → i < j → member r.witnesses i ≡ false)
      → FirstWitness R u v r.entry r.period (get_or (names tree) j [])
  pub none : r.witnesses ≡ 0 → (w : List ℕ) → Witness R u v r.entry r.period w → ⊥

-- the first repeat was found from t(0) on, for every walk with this tail that has this t(0)
unfoldable pub RepeatFound : Lookups → ℕ → List ℕ → CodeTree → Repeat → Type 0
RepeatFound lookups k v first r = (R : Rule) (u : List ℕ) → AtRound R u v lookups k 0 first → RepeatOf R u v r

-- what an early answer says: the first repeat was found, and its period is 1; or nothing
abbrev pub FoundEarly : Lookups → ℕ → List ℕ → CodeTree → Option Repeat → Type 0
FoundEarly lookups k v first found = MatchOption found Unit (λ r. (r.period ≡ 1) × RepeatFound lookups k v first r)
