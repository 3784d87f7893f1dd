-- What the plain judge looks for, inside it: a state that is reached after the lead-in and some tails, and from which one
-- or more tails lead back to it, by ways that take all sets.
use Rattle.std.specs.Prelude.{◌≡◌, ◌⊎◌, true, List, ℕ, zero, suc, ◌*◌, ◌/◌, ◌%◌, ◌^◌, ◌≤◌, ◌<◌, get_or}
use Rattle.std.specs.Int.Bits.{bit_or}
use Rattle.base.specs.BitSet.{member}
use Rattle.rule.specs.Inner.Lanes.{map_of}
use Rattle.plain.specs.Inner.Ways.{Ways}

-- the states `from`, and those that the rows of the states below n lead to from them
unfoldable pub reached : ℕ → List ℕ → ℕ → ℕ
reached zero rows from = from
reached (suc n) rows from = bit_or (reached n rows from) (map_of (get_or rows n 0) 0 * (from / 2 ^ n % 2))

-- state t is one of the states `from`, or ways of one or more tails (W) lead to it from one of them
abbrev pub Reaches : Ways → ℕ → ℕ → ℕ → Type 0
Reaches W n from t = (member from t ≡ true) ⊎ ((s : ℕ) × (s < n) × (member from s ≡ true) × (W s t 0 ≡ true))

-- and from t ways of one or more tails lead back to t, and they take all k sets
abbrev pub LassoAt : Ways → ℕ → ℕ → ℕ → ℕ → Type 0
LassoAt W n k from t = Reaches W n from t × ((i : ℕ) → i ≤ k → W t t i ≡ true)

-- there is such a state
abbrev pub SomeLasso : Ways → ℕ → ℕ → ℕ → Type 0
SomeLasso W n k from = (t : ℕ) × (t < n) × LassoAt W n k from t
