-- Rule tables (document 01, "The rule table" and "Questions in order", 1 to 6 and 11): what a table's bytes are, and
-- which bytes are refused by which number.
use Rattle.std.specs.Prelude.{Bool, true, false, ◌&&◌, cond, ℕ, zero, suc, ◌+◌, ◌*◌, ◌/◌, ◌%◌, ◌^◌, eqb, leb, ltb, length, get_or, take, drop}
use mathlib.Core.List.{List, [], ◌∷◌, map, flatten, flat_map}
use Rattle.base.specs.Outcome.{Outcome, refused, accepted, ask, ◌then◌}
use Rattle.base.specs.Reading.{Read, read_many, ended}
use Rattle.rule.specs.Limits.{max_states, max_letters, max_sets, no_transition}
use Rattle.rule.specs.Rule.{Grid, Rule}
use Rattle.rule.specs.WellFormed.{start_fits, bytes_fit}

-- WHAT A TABLE'S BYTES ARE

-- the map byte of a row of the grid: bit r stands where the row has a transition to r
unfoldable pub map_byte : List ℕ → ℕ
map_byte [] = 0
map_byte (x ∷ row) = cond (eqb x no_transition) 0 1 + 2 * map_byte row

-- the set bytes of a row's transitions, lowest next state first
unfoldable pub set_bytes : List ℕ → List ℕ
set_bytes [] = []
set_bytes (x ∷ row) = cond (eqb x no_transition) (set_bytes row) (x ∷ set_bytes row)

-- "A cell is one map byte of next states, then as many set bytes as the map has standing bits, lowest bit first."
unfoldable pub cell_bytes : List ℕ → List ℕ
cell_bytes row = map_byte row ∷ set_bytes row

-- "Table bytes: n, m, k, the map of starting states (bit q for state q). Then m times n cells, letter 0 with states
-- 0 to n−1 first."
unfoldable pub table_bytes : Rule → List ℕ
table_bytes R = R.states ∷ R.letters ∷ R.sets ∷ R.start ∷ flat_map cell_bytes (flatten R.grid)

-- "one byte each, in that order": letter by letter, row by row, column by column
unfoldable pub grid_bytes : Grid → List ℕ
grid_bytes grid = flatten (flatten grid)

-- c parts of w elements each
unfoldable pub parts : {A : Type 0} → ℕ → ℕ → List A → List (List A)
parts w zero l = []
parts w (suc c) l = take w l ∷ parts w c (drop w l)

-- the grid that some bytes are: m squares of n rows of n bytes
unfoldable pub grid_of : ℕ → ℕ → List ℕ → Grid
grid_of n m bytes = map (parts n n) (parts (n * n) m bytes)

-- THE QUESTIONS

-- "Are n, m, k in range?"
unfoldable pub in_range : ℕ → ℕ → ℕ → Bool
in_range n m k = (leb 1 n && leb n max_states) && ((leb 1 m && leb m max_letters) && (leb 1 k && leb k max_sets))

-- questions 2 and 3, and what follows on yes
unfoldable pub ask_header : {A : Type 0} → ℕ → ℕ → ℕ → ℕ → Outcome A → Outcome A
ask_header n m k start next = ask (in_range n m k) 2 (ask (start_fits n start) 3 next)

-- "At each cell byte in turn: is it there? 4. Does a map have no bit from n up, a set byte none from k up? 5":
-- one cell byte in which the bits below w may stand
unfoldable pub read_byte : ℕ → List ℕ → Read ℕ
read_byte w [] = refused 4
read_byte w (x ∷ rest) = ask (ltb x (2 ^ w)) 5 (accepted (x, rest))

-- the grid's byte for one next state: a set byte where its bit stands in the map, else no transition
unfoldable pub read_transition : ℕ → Bool → List ℕ → Read ℕ
read_transition k true bytes = read_byte k bytes
read_transition k false bytes = accepted (no_transition, bytes)

-- a row of w next states by its map, lowest bit first
unfoldable pub read_row : ℕ → ℕ → ℕ → List ℕ → Read (List ℕ)
read_row k zero standing bytes = accepted ([], bytes)
read_row k (suc w) standing bytes =
    read_transition k (eqb (standing % 2) 1) bytes then λ x.
    read_row k w (standing / 2) x.1 then λ row.
    accepted (x.0 ∷ row.0, row.1)

-- a cell, as a row of w next states: its map byte, in which the bits below n may stand, then its set bytes
unfoldable pub read_cell : ℕ → ℕ → ℕ → List ℕ → Read (List ℕ)
read_cell n k w bytes = read_byte n bytes then λ standing. read_row k w standing.0 standing.1

-- m times n cells, letter by letter, state by state
unfoldable pub read_grid : ℕ → ℕ → ℕ → List ℕ → Read Grid
read_grid n m k bytes = read_many (read_many (read_cell n k n) n) m bytes

-- questions 4, 5 and 6: the cells behind the header, and the end of the table
unfoldable pub read_body : ℕ → ℕ → ℕ → ℕ → List ℕ → Outcome Rule
read_body n m k start bytes =
    read_grid n m k bytes then λ cells.
    ask (ended cells.1) 6
    (accepted (record { states = n; letters = m; sets = k; start = start; grid = cells.0 }))

-- questions 1 to 6 put to a table: the number of the first that is answered no, or the rule that the table says
unfoldable pub read_rule : List ℕ → Outcome Rule
read_rule table =
    let n = get_or table 0 0 in
    let m = get_or table 1 0 in
    let k = get_or table 2 0 in
    let start = get_or table 3 0 in
    ask (leb 4 (length table)) 1
    (ask_header n m k start
    (read_body n m k start (drop 4 table)))

-- "has the grid m·n·n bytes, each 255 or below 2^k?"
unfoldable pub grid_fits : ℕ → ℕ → ℕ → List ℕ → Bool
grid_fits n m k bytes = eqb (length bytes) (m * n * n) && bytes_fit k bytes

-- "The writer puts 2 and 3 to its numbers", then 11: the rule that is to be written
unfoldable pub write_rule : ℕ → ℕ → ℕ → ℕ → List ℕ → Outcome Rule
write_rule n m k start bytes =
    ask_header n m k start
    (ask (grid_fits n m k bytes) 11
    (accepted (record { states = n; letters = m; sets = k; start = start; grid = grid_of n m bytes })))
