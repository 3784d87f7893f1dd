-- The look-up of a set's successors inside the code: a letter has a look-up of the images of all sets of states within the
-- lowest four bits, then of those within the next four. Two entries give the images of any set, by all relations at once, in one word
-- of lanes (Lanes.antt): lane i has the image under relation i.
use Rattle.std.specs.Prelude.{Bool, ◌&&◌, cond, List, [], ◌∷◌, ◌++◌, map, ℕ, zero, suc, ◌+◌, ◌*◌, ◌/◌, ◌%◌, ◌^◌, eqb, ltb, get_or}
use Rattle.std.specs.Int.Bits.{bit_or}
use Rattle.base.specs.BitSet.{member, image}
use Rattle.base.specs.Lists.{tabulate}
use Rattle.rule.specs.Limits.{no_transition}
use Rattle.rule.specs.Inner.Lanes.{lane_width, set_lanes, map_of, by_relation}
use Rattle.rule.specs.Rule.{Grid, edge, edge_in}

-- the transitions of a letter's square: all of them at 0, those of set i at i, for each set that has a lane; none at a lane further on
unfoldable pub relation : List (List ℕ) → ℕ → ℕ → ℕ → Bool
relation square zero q r = edge (square ∷ []) 0 q r
relation square (suc i) q r = ltb i set_lanes && edge_in (square ∷ []) (suc i) 0 q r

-- the relations that a grid's byte stands in, as a map: 0 for all transitions, i for those of set i
unfoldable pub relations_of : ℕ → ℕ
relations_of x = cond (eqb x no_transition) 0 (1 + 2 * (x % 2 ^ set_lanes))

-- the images of a state alone, whose row this is: by each relation
unfoldable pub row_word : List ℕ → ℕ
row_word row = by_relation (λ i r. member (relations_of (get_or row r no_transition)) i)

-- those of a letter's states, and of all letters' states
unfoldable pub square_words : List (List ℕ) → List ℕ
square_words square = map row_word square

unfoldable pub grid_words : Grid → List (List ℕ)
grid_words cells = map square_words cells

-- the images of s: under all transitions, then by those of each set
unfoldable pub images : List (List ℕ) → ℕ → ℕ
images square s = by_relation (λ i r. member (image lane_width (relation square i) s) r)

-- a letter's look-up: the images of some sets, one entry each
abbrev pub Lookup : Type 0
Lookup = List ℕ

-- the look-up of a letter: the images of the sets 0 to 15, then of their multiples by 16
unfoldable pub letter_lookup : List (List ℕ) → Lookup
letter_lookup square = tabulate 16 (λ j. images square j) ++ tabulate 16 (λ j. images square (16 * j))

-- the union of the words of the members of s: the word of state q stands at place q
unfoldable pub joined_word : List ℕ → ℕ → ℕ
joined_word [] s = 0
joined_word (word ∷ words) s = bit_or (cond (eqb (s % 2) 1) word 0) (joined_word words (s / 2))

-- the look-up that any words of the states give: the entries of the sets 0 to 15, then of their multiples by 16
unfoldable pub joined_lookup : List ℕ → Lookup
joined_lookup words = tabulate 16 (λ j. joined_word words j) ++ tabulate 16 (λ j. joined_word words (16 * j))

-- the images of s by a look-up, in one number: under all transitions, then by those of each set
unfoldable pub images_by : Lookup → ℕ → ℕ
images_by lookup s = bit_or (get_or lookup (s % 16) 0) (get_or lookup (16 + s / 16 % 16) 0)

-- one of them: under all transitions at i = 0, by those of set i at i
unfoldable pub look_up : Lookup → ℕ → ℕ → ℕ
look_up lookup i s = map_of (images_by lookup s) i
