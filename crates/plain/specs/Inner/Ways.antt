-- Ways between two states, inside the plain judge. Relation 0 has the pairs of states with a way from the one to the other,
-- relation i those with a way that takes a transition of set i. A row has the ways from one state. It is a word of lanes with the
-- layout of a look-up's word (crates/rule/specs/Inner/Lanes.antt): lane i has the map of the states that they lead to by relation i.
use Rattle.std.specs.Prelude.{◌≡◌, Bool, ◌&&◌, ◌||◌, List, ℕ, ◌≤◌, ◌<◌, length, get_or}
use Rattle.base.specs.BitSet.{member}
use Rattle.rule.specs.Inner.Lanes.{map_of}
use Rattle.rule.specs.Limits.{max_sets}

-- by the state that the ways come from, the state that they lead to, and the relation
abbrev pub Ways : Type 0
Ways = ℕ → ℕ → ℕ → Bool

-- one of the ways a, and one of the ways b behind it: one of the two takes the transition of set i
unfoldable pub joined : (ℕ → Bool) → (ℕ → Bool) → ℕ → Bool
joined a b i = (a 0 && b i) || (a i && b 0)

-- the ways of some rows
unfoldable pub ways : List ℕ → Ways
ways rows s t i = member (map_of (get_or rows s 0) i) t

-- the rows of the states below n have the ways W
abbrev pub AreWays : ℕ → Ways → List ℕ → Type 0
AreWays n W rows = (s t i : ℕ) → s < n → i ≤ max_sets → ways rows s t i ≡ W s t i

-- the first n rows are changed by f, and the others kept
pub record Changed (f : ℕ → ℕ) (n : ℕ) (before after : List ℕ) : Type 0 where
  pub size : length after ≡ length before
  pub first : (s : ℕ) → s < n → get_or after s 0 ≡ f (get_or before s 0)
  pub others : (s : ℕ) → n ≤ s → get_or after s 0 ≡ get_or before s 0
