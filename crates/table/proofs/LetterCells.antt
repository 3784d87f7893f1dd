-- The cells of one letter in a table's bytes are those of its square in the rule that the table says.
use mathlib.Core.Path.{◌≡◌, refl, sym, ap, ap₂, ◌∙◌}
use mathlib.Core.Bool.{Bool, true, false, cond}
use mathlib.Core.List.{List, [], ◌∷◌, ◌++◌, flatten, flat_map, append_assoc}
use Prim.Native.Nat.{ℕ, zero, suc, ◌+◌, ◌*◌, ◌/◌, ◌≤◌, ◌<◌}
use native.Mathlib.Nat.{zero-add, suc-add, zero-mul}
use native.Mathlib.Decide.{dec_lt}
use native.Mathlib.Omega.{arith}
use lib.Count.{ones, ones_in, ones_step}
use lib.Dec.{eqb}
use lib.ListN.{length, get_or, take, drop, length-append, get_or-eq_default}
use lib.Seq.{take_at, drop_at, drop-drop, take-nil, drop-nil}
use Rattle.base.specs.Outcome.{accepted}
use Rattle.base.specs.Reading.{Read, read_many}
use Rattle.base.specs.Lists.{tabulate}
use Rattle.base.proofs.Every.{every_at}
use Rattle.base.proofs.Flattening.{flat_map_append}
use Rattle.base.proofs.Tabulate.{tabulate_ext}
use Rattle.rule.specs.Limits.{no_transition}
use Rattle.rule.specs.Rule.{Grid, Rule, square_of}
use Rattle.rule.specs.WellFormed.{SquareFits}
use Rattle.table.specs.Table.{map_byte, set_bytes, cell_bytes, table_bytes, read_cell, read_rule}
use Rattle.table.specs.Cells.{cells_length, header_bytes, letter_cells}
use Rattle.table.specs.Theorems.{TableByLetters, SameCells}
use Rattle.table.proofs.Parts.{Squares, fits_squares}
use Rattle.table.proofs.Reading.{read_square_bytes}
use Rattle.table.proofs.RoundTrip.{read_well_formed, read_bytes}

-- HOW MANY BYTES CELLS HAVE

-- a row has a set byte for each standing bit of its map
map_ones : (row : List ℕ) → ones (map_byte row) ≡ length (set_bytes row)
unfolding map_byte set_bytes ones ones_in
map_ones [] = refl
map_ones (x ∷ row) = go (eqb x no_transition) (map_ones row)
  where
    go : (t : Bool) → ones (map_byte row) ≡ length (set_bytes row)
        → ones (cond t 0 1 + 2 * map_byte row) ≡ length (cond t (set_bytes row) (x ∷ set_bytes row))
    go true e =
        let half : (0 + 2 * map_byte row) / 2 ≡ map_byte row = omega arith in
        omega (arith, ones_step (0 + 2 * map_byte row), ap ones half, e)
    go false e =
        let half : (1 + 2 * map_byte row) / 2 ≡ map_byte row = omega arith in
        omega (arith, ones_step (1 + 2 * map_byte row), ap ones half, e)

-- the cells of some rows, whatever stands behind them
cells_of_rows : (rows : List (List ℕ)) (rest : List ℕ)
    → cells_length (length rows) (flat_map cell_bytes rows ++ rest) ≡ length (flat_map cell_bytes rows)
unfolding cells_length flat_map cell_bytes
cells_of_rows [] rest = refl
cells_of_rows (row ∷ rows) rest =
    let behind : List ℕ = flat_map cell_bytes rows in
    let here : drop (ones (map_byte row)) ((set_bytes row ++ behind) ++ rest) ≡ behind ++ rest =
    ap (drop (ones (map_byte row))) (append_assoc (set_bytes row) behind rest)
    ∙ drop_at (set_bytes row) (behind ++ rest) (ones (map_byte row)) (sym (map_ones row)) in
    rw here (omega (arith, map_ones row, cells_of_rows rows rest, length-append (set_bytes row) behind))

-- c cells and then d cells
cells_add : (c d : ℕ) (bytes : List ℕ) → cells_length (c + d) bytes ≡ cells_length c bytes + cells_length d (drop (cells_length c bytes) bytes)
unfolding cells_length
cells_add zero d bytes = rw (zero-add, zero-add)
cells_add (suc c) d bytes =
    let one : ℕ = suc (ones (get_or bytes 0 0)) in
    rw (suc-add, cells_add c d (drop one bytes), drop-drop (cells_length c (drop one bytes)) one bytes) (omega arith)

-- WHERE A LETTER'S CELLS ARE

module _ (n : ℕ) where
  -- letter a's n cells among the cells of all letters
  nth_cells : ℕ → List ℕ → List ℕ
  nth_cells a cells = let here = drop (cells_length (a * n) cells) cells in take (cells_length n here) here

  -- no cells at all
  none_there : (a : ℕ) → nth_cells a [] ≡ []
  unfolding nth_cells
  none_there a = rw (drop-nil, take-nil)

  -- the first square's cells, and then those of the others
  module _ (square : List (List ℕ)) (rest : List ℕ) (rows : length square ≡ n) where
    own : cells_length n (flat_map cell_bytes square ++ rest) ≡ length (flat_map cell_bytes square)
    own = rw (← rows) (cells_of_rows square rest)

    first_cells : nth_cells 0 (flat_map cell_bytes square ++ rest) ≡ flat_map cell_bytes square
    unfolding nth_cells cells_length
    first_cells = rw (zero-mul, own) (take_at (flat_map cell_bytes square) rest (length (flat_map cell_bytes square)) refl)

    later_cells : (a : ℕ) → nth_cells (suc a) (flat_map cell_bytes square ++ rest) ≡ nth_cells a rest
    unfolding nth_cells
    later_cells a =
        let more : suc a * n ≡ n + a * n = omega arith in
        let size : ℕ = length (flat_map cell_bytes square) in
        let cells : List ℕ = flat_map cell_bytes square ++ rest in
        let behind : drop size cells ≡ rest = drop_at (flat_map cell_bytes square) rest size refl in
        let here : drop (cells_length (suc a * n) cells) cells ≡ drop (cells_length (a * n) rest) rest =
        rw (more, cells_add n (a * n) cells, own, behind, ← drop-drop (cells_length (a * n) rest) size cells, behind) in
        rw here

  -- letter a's cells are those of square a
  grid_cells : (grid : Grid) → Squares n grid → (a : ℕ) → nth_cells a (flat_map cell_bytes (flatten grid)) ≡ flat_map cell_bytes (get_or grid a [])
  unfolding flatten flat_map
  grid_cells [] h a = none_there a
  grid_cells (square ∷ grid) h zero =
      rw (flat_map_append cell_bytes square (flatten grid)) (first_cells square (flat_map cell_bytes (flatten grid)) h.0.0)
  grid_cells (square ∷ grid) h (suc a) =
      rw (flat_map_append cell_bytes square (flatten grid))
      (later_cells square (flat_map cell_bytes (flatten grid)) h.0.0 a ∙ grid_cells grid h.1 a)

module _ (table : List ℕ) (R : Rule) (e : read_rule table ≡ accepted R) where
  -- a letter's cells in an accepted table
  letter_cells_lem : (a : ℕ) → letter_cells table a ≡ flat_map cell_bytes (square_of R a)
  unfolding letter_cells table_bytes nth_cells
  letter_cells_lem a =
      rw (← read_bytes table R e)
      (grid_cells R.states R.grid (fits_squares R.states R.sets R.grid (read_well_formed table R e).0.fits) a)

  -- its header
  header_bytes_lem : header_bytes table ≡ R.states ∷ R.letters ∷ R.sets ∷ R.start ∷ []
  unfolding header_bytes table_bytes
  header_bytes_lem = rw (← read_bytes table R e)

  -- the square of a letter of the rule fits its numbers; there are no others
  square_fits : (a : ℕ) → a < R.letters → SquareFits R.states R.sets (square_of R a)
  square_fits a h =
      let well = (read_well_formed table R e).0 in
      every_at (SquareFits R.states R.sets) R.grid a [] well.fits (omega (arith, well.squares))

  no_square : (a : ℕ) → R.letters ≤ a → square_of R a ≡ []
  no_square a h = get_or-eq_default R.grid [] (omega (arith, (read_well_formed table R e).0.squares))

-- THE WHOLE TABLE

-- the squares' cells, one square behind the other
by_squares : (grid : Grid) → flatten (tabulate (length grid) (λ a. flat_map cell_bytes (get_or grid a []))) ≡ flat_map cell_bytes (flatten grid)
unfolding tabulate flatten flat_map
by_squares [] = refl
by_squares (square ∷ grid) = ap (flat_map cell_bytes square ++◌) (by_squares grid) ∙ sym (flat_map_append cell_bytes square (flatten grid))

pub table_by_letters : TableByLetters
unfolding table_bytes
table_by_letters table R e =
    let cells : flatten (tabulate R.letters (letter_cells table)) ≡ flat_map cell_bytes (flatten R.grid) =
    rw (← (read_well_formed table R e).0.squares) (ap flatten (tabulate_ext _ _ _ (λ a _. letter_cells_lem table R e a)) ∙ by_squares R.grid) in
    ap₂ ◌++◌ (header_bytes_lem table R e) cells ∙ read_bytes table R e

-- THE SAME HEADER, THE SAME CELLS

-- n, m, k and the starting map are the same
abbrev pub SameNumbers : Rule → Rule → Type 0
SameNumbers R S = (R.states ≡ S.states) × (R.letters ≡ S.letters) × (R.sets ≡ S.sets) × (R.start ≡ S.start)

-- they are so where the header's bytes are, and only there
pub same_numbers : (table table' : List ℕ) (R S : Rule) → read_rule table ≡ accepted R → read_rule table' ≡ accepted S
    → header_bytes table ≡ header_bytes table' → SameNumbers R S
same_numbers table table' R S e e' same = (byte 0, byte 1, byte 2, byte 3)
  where
    byte : (i : ℕ)
        → get_or (R.states ∷ R.letters ∷ R.sets ∷ R.start ∷ []) i 0 ≡ get_or (S.states ∷ S.letters ∷ S.sets ∷ S.start ∷ []) i 0
    byte i = ap (λ (l : List ℕ). get_or l i 0) (sym (header_bytes_lem table R e) ∙ same ∙ header_bytes_lem table' S e')

pub same_headers : (table table' : List ℕ) (R S : Rule) → read_rule table ≡ accepted R → read_rule table' ≡ accepted S
    → SameNumbers R S → header_bytes table ≡ header_bytes table'
same_headers table table' R S e e' (states, letters, sets, start) =
    rw (header_bytes_lem table R e, header_bytes_lem table' S e', states, letters, sets, start)

-- squares with the same bytes are the same: they are read back from them
same_bytes : (n k : ℕ) (square square' : List (List ℕ)) → SquareFits n k square → SquareFits n k square'
    → flat_map cell_bytes square ≡ flat_map cell_bytes square' → square ≡ square'
same_bytes n k square square' fits fits' e =
    let both : ◌≡◌ {A = Read (List (List ℕ))} (accepted (square, [])) (accepted (square', [])) =
    sym (read_square_bytes n k square [] fits) ∙ ap (λ (l : List ℕ). read_many (read_cell n k n) n (l ++ [])) e
    ∙ read_square_bytes n k square' [] fits' in
    let pairs : ◌≡◌ {A = List (List ℕ) × List ℕ} (square, []) (square', []) = cc in
    ap (λ (p : List (List ℕ) × List ℕ). p.0) pairs

pub same_cells : SameCells
same_cells table table' R S e e' headers a = (to, from)
  where
    numbers : SameNumbers R S
    numbers = same_numbers table table' R S e e' headers

    fits : a < R.letters → SquareFits R.states R.sets (square_of S a)
    fits h = rw (numbers.0, numbers.2) (square_fits table' S e' a (omega (arith, numbers.1)))

    to : letter_cells table a ≡ letter_cells table' a → square_of R a ≡ square_of S a
    to same = go (dec_lt a R.letters)
      where
        bytes : flat_map cell_bytes (square_of R a) ≡ flat_map cell_bytes (square_of S a)
        bytes = sym (letter_cells_lem table R e a) ∙ same ∙ letter_cells_lem table' S e' a

        go : Dec (a < R.letters) → square_of R a ≡ square_of S a
        go (yes h) = same_bytes R.states R.sets (square_of R a) (square_of S a) (square_fits table R e a h) (fits h) bytes
        go (no h) =
            no_square table R e a (omega arith) ∙ sym (no_square table' S e' a (omega (arith, numbers.1)))

    from : square_of R a ≡ square_of S a → letter_cells table a ≡ letter_cells table' a
    from same = letter_cells_lem table R e a ∙ ap (flat_map cell_bytes) same ∙ sym (letter_cells_lem table' S e' a)
