-- Finding the first repeat in constant memory: what the contracts of the tree judge's own functions say of rounds.
use Rattle.std.specs.Prelude.{◌≡◌, List, ℕ, ◌+◌, ◌-◌, ◌≤◌, ◌<◌}
use Rattle.base.specs.Lists.{Every}
use Rattle.rule.specs.Rule.{Rule}
use Rattle.word.specs.Walk.{rounds}
use Rattle.word.specs.Inner.WalkLookups.{Lookups, HasLookup}
use Rattle.history.specs.Rounds.{round_tree, FirstRepeat}
use Rattle.history.specs.Inner.Following.{witness_map}
use Rattle.tree.specs.Inner.Nodes.{HoldsTree}
use Rattle.tree.specs.declared.nodes.Tree.{Tree as CodeTree}
use Rattle.letters.specs.Inner.Reading.{HasSets}
use Rattle.treejudge.specs.declared.cycle.Cycle.{Cycle}

-- the walk u v v v … is read, and x is its tree t(r)
pub record AtRound (R : Rule) (u v : List ℕ) (lookups : Lookups) (k r : ℕ) (x : CodeTree) : Type 0 where
  pub holds : HasSets R k
  pub has_lookups : Every (HasLookup R lookups) v
  pub tree : HoldsTree R (round_tree R u v r) x

-- ROUNDS

unfoldable pub SomeRound : Lookups → ℕ → List ℕ → CodeTree → Type 0
SomeRound lookups k v x = (R : Rule) × (u : List ℕ) × (r : ℕ) × AtRound R u v lookups k r x

-- y is the tree `count` rounds further
unfoldable pub Ahead : Lookups → ℕ → List ℕ → ℕ → CodeTree → CodeTree → Type 0
Ahead lookups k v count x y =
    (R : Rule) (u : List ℕ) (r : ℕ) → AtRound R u v lookups k r x → HoldsTree R (round_tree R u v (r + count)) y

-- x is t(i) and y is t(j)
unfoldable pub TwoRounds : Lookups → ℕ → List ℕ → ℕ → CodeTree → ℕ → CodeTree → Type 0
TwoRounds lookups k v i x j y = (R : Rule) × (u : List ℕ) × AtRound R u v lookups k i x × AtRound R u v lookups k j y

-- where they are, z is t(place)
unfoldable pub ReadTo : Lookups → ℕ → List ℕ → ℕ → CodeTree → ℕ → CodeTree → ℕ → CodeTree → Type 0
ReadTo lookups k v i x j y place z =
    (R : Rule) (u : List ℕ) → AtRound R u v lookups k i x → AtRound R u v lookups k j y → AtRound R u v lookups k place z

-- THE PERIOD

unfoldable pub FirstRound : Lookups → ℕ → List ℕ → CodeTree → Type 0
FirstRound lookups k v first = (R : Rule) × (u : List ℕ) × AtRound R u v lookups k 0 first

-- what is known of a found cycle, where entry and period are those of the first repeat
pub record CycleOf (R : Rule) (u v : List ℕ) (entry period : ℕ) (c : Cycle) : Type 0 where
  pub saved : HoldsTree R (round_tree R u v (c.power - 1)) c.saved
  pub before : HoldsTree R (round_tree R u v (c.half - 1)) c.before
  pub below : c.half < c.power
  pub doubles : 1 < c.power → c.power ≡ c.half + c.half
  pub back : c.period ≡ period
  pub late : entry ≤ c.power - 1
  pub skips : period ≤ c.half → c.half ≤ entry
  pub witnesses : c.witnesses ≡ witness_map R (round_tree R u v (c.power - 1)) (rounds period v)

unfoldable pub CycleFound : Lookups → ℕ → List ℕ → CodeTree → Cycle → Type 0
CycleFound lookups k v first c =
    (R : Rule) (u : List ℕ) (entry period : ℕ) → AtRound R u v lookups k 0 first → FirstRepeat (round_tree R u v) entry period
    → CycleOf R u v entry period c

-- THE ENTRY

-- the entry is from low to high, x is t(low) and y is the tree a period further
pub record Bracket (R : Rule) (u v : List ℕ) (lookups : Lookups) (k entry period low high : ℕ) (x y : CodeTree) : Type 0 where
  pub place : AtRound R u v lookups k low x
  pub ahead : AtRound R u v lookups k (low + period) y
  pub repeat : FirstRepeat (round_tree R u v) entry period
  pub from : low ≤ entry
  pub upto : entry ≤ high

unfoldable pub Bracketed : Lookups → ℕ → List ℕ → ℕ → ℕ → CodeTree → CodeTree → Type 0
Bracketed lookups k v low high x y =
    (R : Rule) × (u : List ℕ) × (entry : ℕ) × (period : ℕ) × Bracket R u v lookups k entry period low high x y

unfoldable pub EntryBetween : Lookups → ℕ → List ℕ → ℕ → ℕ → CodeTree → CodeTree → ℕ → Type 0
EntryBetween lookups k v low high x y found =
    (R : Rule) (u : List ℕ) (entry period : ℕ) → Bracket R u v lookups k entry period low high x y → found ≡ entry

-- the cycle of a walk was found from t(0) on
pub record Searched (R : Rule) (u v : List ℕ) (lookups : Lookups) (k entry period : ℕ) (first : CodeTree) (c : Cycle) : Type 0 where
  pub place : AtRound R u v lookups k 0 first
  pub repeat : FirstRepeat (round_tree R u v) entry period
  pub cycle : CycleOf R u v entry period c

unfoldable pub SearchDone : Lookups → ℕ → List ℕ → CodeTree → Cycle → Type 0
SearchDone lookups k v first c =
    (R : Rule) × (u : List ℕ) × (entry : ℕ) × (period : ℕ) × Searched R u v lookups k entry period first c

unfoldable pub EntryFound : Lookups → ℕ → List ℕ → CodeTree → Cycle → ℕ → Type 0
EntryFound lookups k v first c found =
    (R : Rule) (u : List ℕ) (entry period : ℕ) → Searched R u v lookups k entry period first c → found ≡ entry
