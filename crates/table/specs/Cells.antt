-- The cells of one letter in a table's bytes (document 01, "The rule table"), wherever they lie: what a fitter edits (document 02, U10).
use Rattle.std.specs.Prelude.{List, ℕ, zero, suc, ◌+◌, ◌*◌, get_or, take, drop}
use Rattle.std.specs.Int.Count.{ones}

-- how many bytes the first c cells have: "A cell is one map byte of next states, then as many set bytes as the map has standing bits"
unfoldable pub cells_length : ℕ → List ℕ → ℕ
cells_length zero bytes = 0
cells_length (suc c) bytes = let one = suc (ones (get_or bytes 0 0)) in one + cells_length c (drop one bytes)

-- "Table bytes: n, m, k, the map of starting states"
unfoldable pub header_bytes : List ℕ → List ℕ
header_bytes table = take 4 table

-- "Then m times n cells, letter 0 with states 0 to n−1 first": the bytes of letter a's n cells, behind those of the a letters before it
unfoldable pub letter_cells : List ℕ → ℕ → List ℕ
letter_cells table a =
    let n = get_or table 0 0 in
    let cells = drop 4 table in
    let here = drop (cells_length (a * n) cells) cells in
    take (cells_length n here) here
