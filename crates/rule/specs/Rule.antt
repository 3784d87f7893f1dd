-- A rule (document 01, "The rule table"): a transition-based generalised Büchi automaton.
use Rattle.std.specs.Prelude.{Bool, false, not, ◌&&◌, List, [], ℕ, zero, suc, eqb, get_or}
use Rattle.base.specs.BitSet.{member, image}
use Rattle.rule.specs.Limits.{no_transition}

-- "A grid has for each letter a square of n rows and n columns: row the state, column the next state, one byte
-- each": squares by letter, rows by state, bytes by next state
abbrev pub Grid : Type 0
Grid = List (List (List ℕ))

-- "A rule has n states, m letters, k accepting sets, some starting states, and transitions."
pub record Rule : Type 0 where
  -- n: the states are 0 to n−1
  pub states : ℕ
  -- m: the letters are 0 to m−1
  pub letters : ℕ
  -- k: the accepting sets are 1 to k
  pub sets : ℕ
  -- the map of starting states
  pub start : ℕ
  -- the transitions
  pub grid : Grid

-- the square of letter a: its cells, a row for each state; none where the rule has no such letter
abbrev pub square_of : Rule → ℕ → List (List ℕ)
square_of R a = get_or R.grid a []

-- the byte at letter a, row q, column r; no transition where the grid has no such place
unfoldable pub cell_at : Grid → ℕ → ℕ → ℕ → ℕ
cell_at grid a q r = get_or (get_or (get_or grid a []) q []) r no_transition

-- "A transition is a state, a letter and a next state": state q has under letter a a transition to r
unfoldable pub edge : Grid → ℕ → ℕ → ℕ → Bool
edge grid a q r = not (eqb (cell_at grid a q r) no_transition)

-- "and belongs to any of the sets, or none": that transition is there and belongs to set i.
-- "In a set byte, bit i−1 stands for set i"; the sets are numbered from 1.
unfoldable pub edge_in : Grid → ℕ → ℕ → ℕ → ℕ → Bool
edge_in grid zero a q r = false
edge_in grid (suc i) a q r = edge grid a q r && member (cell_at grid a q r) i

-- the successors of a set of states under letter a
unfoldable pub successors : Rule → ℕ → ℕ → ℕ
successors R a s = image R.states (edge R.grid a) s

-- the successors of a set of states under letter a by transitions of set i
unfoldable pub successors_in : Rule → ℕ → ℕ → ℕ → ℕ
successors_in R i a s = image R.states (edge_in R.grid i a) s
