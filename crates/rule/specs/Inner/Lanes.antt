-- A word of lanes: some maps of states in one number, each in a lane of its own. This file and src/lanes.rt alone say where a lane lies.
-- The numbers are the word's own: limits may be smaller.
use Rattle.std.specs.Prelude.{Bool, true, cond, ℕ, zero, suc, ◌+◌, ◌*◌, ◌/◌, ◌%◌, ◌^◌}
use Rattle.std.specs.Int.Bits.{bit_and, bit_or}
use Rattle.base.specs.BitSet.{member, collect}

-- the bits of a lane: a map has states below this
abbrev pub lane_width : ℕ
lane_width = 8

-- the lanes of a word: 0 for all transitions, 1 to 6 for those of the sets 1 to 6, and 7, which stays empty
abbrev pub lanes : ℕ
lanes = 8

abbrev pub set_lanes : ℕ
set_lanes = 6

-- the map in lane i
abbrev pub map_of : ℕ → ℕ → ℕ
map_of word i = word / 2 ^ (lane_width * i) % 2 ^ lane_width

-- the word with the maps f 0, f 1, .., f (k−1) in the lanes below k
unfoldable pub word_of : ℕ → (ℕ → ℕ) → ℕ
word_of zero f = 0
word_of (suc k) f = f 0 + 2 ^ lane_width * word_of k (λ i. f (suc i))

-- a map of states for each relation, in one number: state r stands in lane i where f i r
unfoldable pub by_relation : (ℕ → ℕ → Bool) → ℕ
by_relation f = word_of lanes (λ i. collect lane_width (f i))

-- LANES CHOSEN: a number that has bit 0 of each of them

-- the lanes i below k with f i
unfoldable pub chosen_lanes : ℕ → (ℕ → Bool) → ℕ
chosen_lanes k f = word_of k (λ i. cond (f i) 1 0)

-- each of the lanes below k
unfoldable pub each_lane : ℕ → ℕ
each_lane k = chosen_lanes k (λ i. true)

-- the lanes of some relations, which are given as a map
unfoldable pub spread : ℕ → ℕ
spread relations = chosen_lanes lanes (member relations)

-- those of the lanes `among` in which state s stands
unfoldable pub lanes_with : ℕ → ℕ → ℕ → ℕ
lanes_with word s among = bit_and (word / 2 ^ s) among

-- MAPS PUT INTO LANES

-- a map in lane i
unfoldable pub in_lane : ℕ → ℕ → ℕ
in_lane map i = map * 2 ^ (lane_width * i)

-- a map in each of the chosen lanes
unfoldable pub in_lanes : ℕ → ℕ → ℕ
in_lanes map chosen = map * chosen

-- a word with state s more in each of the chosen lanes
unfoldable pub with_state : ℕ → ℕ → ℕ → ℕ
with_state word s chosen = bit_or word (in_lanes (2 ^ s) chosen)
