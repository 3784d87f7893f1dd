-- Tables and rules correspond: a table that is read is the table of the rule that it says, and the table of a rule is read as
-- that rule. The writer writes just those rules, and writes a rule that was read as it was. And the lengths of tables.
use mathlib.Core.Path.{◌≡◌, refl, sym, ap, ◌∙◌}
use mathlib.Core.Bool.{Bool, true, false, ◌&&◌, ◌||◌, cond, and_assoc}
use mathlib.Core.List.{List, [], ◌∷◌, ◌++◌, flatten, flat_map, append-nil}
use Prim.Native.Nat.{ℕ, suc, ◌+◌, ◌*◌, ◌^◌, ◌≤◌, suc-le-suc}
use native.Mathlib.Nat.{mul-le-mul}
use native.Mathlib.Omega.{arith}
use borrow.Author.Tests.{eqb-true, eq-eqb, le-leb}
use lib.Dec.{eqb, leb, ltb}
use lib.ListN.{length, length-append}
use Rattle.base.specs.Outcome.{accepted}
use Rattle.base.specs.Lists.{Every}
use Rattle.base.specs.Reading.{ended}
use Rattle.base.proofs.Logic.{clash, and_in, and_both}
use Rattle.base.proofs.Accepted.{IfAccepted, of_accepted, asked, followed}
use Rattle.base.proofs.Every.{flatten_every, every_flatten, every_both, every_weaker}
use Rattle.rule.specs.Limits.{max_states, max_letters, no_transition}
use Rattle.rule.specs.Rule.{Grid, Rule}
use Rattle.rule.specs.WellFormed.{bytes_fit, SquareFits, WellFormed, start_fits}
use Rattle.table.specs.Table.{set_bytes, cell_bytes, table_bytes, grid_bytes, grid_of, in_range, ask_header, read_grid, read_body, read_rule, grid_fits, write_rule}
use Rattle.table.proofs.Ranges.{in_range_lem, sets_small}
use Rattle.table.proofs.Parts.{Squares, fits_squares, grid_squares, grid_of_bytes, bytes_of_grid, grid_length, row_count, row_lengths}
use Rattle.table.proofs.Reading.{grid_read, read_grid_bytes}

-- READING

-- at the end of the table nothing is left
nothing_left : (rest : List ℕ) → ended rest ≡ true → rest ≡ []
unfolding ended
nothing_left [] e = refl
nothing_left (x ∷ rest) e = clash refl e

-- what a table that is read says
abbrev Says : List ℕ → Rule → Type 0
Says table R = WellFormed R × (in_range R.states R.letters R.sets ≡ true) × (table_bytes R ≡ table)

table_read : (table : List ℕ) → IfAccepted (Says table) (read_rule table)
unfolding read_rule ask_header read_body table_bytes
table_read [] = tt
table_read (n ∷ []) = tt
table_read (n ∷ m ∷ []) = tt
table_read (n ∷ m ∷ k ∷ []) = tt
table_read (n ∷ m ∷ k ∷ start ∷ cells) =
    asked _ (leb 4 (length (n ∷ m ∷ k ∷ start ∷ cells))) 1 _ λ _.
    asked _ (in_range n m k) 2 _ λ range.
    asked _ (start_fits n start) 3 _ λ starts.
    followed _ _ (read_grid n m k cells) _ (grid_read n m k (sets_small n m k range) cells) λ grid says.
    asked _ (ended grid.1) 6 _ λ end.
    let bytes = flat_map cell_bytes (flatten grid.0) in
    let all : cells ≡ bytes = says.1 ∙ ap (bytes ++◌) (nothing_left grid.1 end) ∙ append-nil bytes in
    (record { starts = starts; squares = says.0.0; fits = says.0.1 }, range, ap (λ (b : List ℕ). n ∷ m ∷ k ∷ start ∷ b) (sym all))

module _ (table : List ℕ) (R : Rule) (e : read_rule table ≡ accepted R) where
  -- a table that is read says a well-formed rule with numbers in range
  pub read_well_formed : WellFormed R × (in_range R.states R.letters R.sets ≡ true)
  read_well_formed = let says = of_accepted (Says table) (read_rule table) R e (table_read table) in (says.0, says.1)

  -- and it is the table of that rule
  pub read_bytes : table_bytes R ≡ table
  read_bytes = (of_accepted (Says table) (read_rule table) R e (table_read table)).2

-- the table of a rule is read as that rule
pub bytes_read : (R : Rule) → WellFormed R → in_range R.states R.letters R.sets ≡ true → read_rule (table_bytes R) ≡ accepted R
unfolding read_rule ask_header read_body table_bytes ended
bytes_read R well range =
    let cells = flat_map cell_bytes (flatten R.grid) in
    let back = read_grid_bytes R.states R.letters R.sets R.grid [] well.squares well.fits in
    rw (le-leb 4 (length (table_bytes R)) (omega arith), range, well.starts, ← (append-nil cells), back)

-- WRITING

-- bytes that fit, in rows
fit_append : (k : ℕ) (a b : List ℕ) → bytes_fit k (a ++ b) ≡ (bytes_fit k a && bytes_fit k b)
unfolding bytes_fit
fit_append k [] b = refl
fit_append k (x ∷ a) b =
    let fits = eqb x no_transition || ltb x (2 ^ k) in
    ap (fits &&◌) (fit_append k a b) ∙ sym (and_assoc fits (bytes_fit k a) (bytes_fit k b))

flatten_fit : (k : ℕ) (rows : List (List ℕ)) → bytes_fit k (flatten rows) ≡ true → Every (λ row. bytes_fit k row ≡ true) rows
unfolding flatten
flatten_fit k [] h = tt
flatten_fit k (row ∷ rows) h =
    let (here, rest) = and_in (bytes_fit k row) _ (sym (fit_append k row (flatten rows)) ∙ h) in
    (here, flatten_fit k rows rest)

fit_flatten : (k : ℕ) (rows : List (List ℕ)) → Every (λ row. bytes_fit k row ≡ true) rows → bytes_fit k (flatten rows) ≡ true
unfolding flatten bytes_fit
fit_flatten k [] h = refl
fit_flatten k (row ∷ rows) h = fit_append k row (flatten rows) ∙ and_both _ _ h.0 (fit_flatten k rows h.1)

-- a grid fits if its bytes fit, and only then
grid_fits_lem : (n k : ℕ) (grid : Grid) → Squares n grid → bytes_fit k (grid_bytes grid) ≡ true → Every (SquareFits n k) grid
unfolding grid_bytes
grid_fits_lem n k grid shape h =
    every_weaker _ _ grid (λ square f. (f.0.0, every_both _ _ square f.0.1 f.1))
    (every_both _ _ grid shape (flatten_every _ grid (flatten_fit k (flatten grid) h)))

bytes_fit_lem : (n k : ℕ) (grid : Grid) → Every (SquareFits n k) grid → bytes_fit k (grid_bytes grid) ≡ true
unfolding grid_bytes
bytes_fit_lem n k grid h =
    fit_flatten k (flatten grid)
    (every_flatten _ grid (every_weaker _ _ grid (λ square f. every_weaker _ _ square (λ row g. g.1) f.1) h))

-- what is written
abbrev Writes : ℕ → ℕ → ℕ → ℕ → List ℕ → Rule → Type 0
Writes n m k start bytes R =
    WellFormed R × (in_range n m k ≡ true)
    × (R.states ≡ n) × (R.letters ≡ m) × (R.sets ≡ k) × (R.start ≡ start) × (grid_bytes R.grid ≡ bytes)

rule_written : (n m k start : ℕ) (bytes : List ℕ) → IfAccepted (Writes n m k start bytes) (write_rule n m k start bytes)
unfolding write_rule ask_header grid_fits grid_bytes
rule_written n m k start bytes =
    asked _ (in_range n m k) 2 _ λ range.
    asked _ (start_fits n start) 3 _ λ starts.
    asked _ (grid_fits n m k bytes) 11 _ λ whole.
    let (count, fit) = and_in (eqb (length bytes) (m * n * n)) _ whole in
    let long = eqb-true (length bytes) (m * n * n) count in
    let grid = grid_of n m bytes in
    let (squares, shape) = grid_squares n m bytes long in
    let same = bytes_of_grid n m bytes long in
    let fits = grid_fits_lem n k grid shape (rw same fit) in
    (record { starts = starts; squares = squares; fits = fits }, range, refl, refl, refl, refl, same)

module _ (n m k start : ℕ) (bytes : List ℕ) (R : Rule) (e : write_rule n m k start bytes ≡ accepted R) where
  -- a grid that is written is that of a well-formed rule with the numbers given
  pub written_well_formed : WellFormed R × (in_range n m k ≡ true)
      × (R.states ≡ n) × (R.letters ≡ m) × (R.sets ≡ k) × (R.start ≡ start) × (grid_bytes R.grid ≡ bytes)
  written_well_formed = of_accepted (Writes n m k start bytes) (write_rule n m k start bytes) R e (rule_written n m k start bytes)

  -- and its table is read as that rule
  pub rule_written_reads_back : read_rule (table_bytes R) ≡ accepted R
  rule_written_reads_back =
      let (well, range, states, letters, sets, _, _) = written_well_formed in
      bytes_read R well (rw (states, letters, sets) range)

-- the grid of a rule is written as that rule
pub well_formed_written : (R : Rule) → WellFormed R → in_range R.states R.letters R.sets ≡ true
    → write_rule R.states R.letters R.sets R.start (grid_bytes R.grid) ≡ accepted R
unfolding write_rule ask_header grid_fits grid_bytes
well_formed_written R well range =
    let squares = fits_squares R.states R.sets R.grid well.fits in
    let long = grid_length R.states R.letters R.grid well.squares squares in
    let fit = bytes_fit_lem R.states R.sets R.grid well.fits in
    let back = grid_of_bytes R.states R.letters R.grid well.squares squares in
    rw (range, well.starts, eq-eqb _ _ long, fit, back)

-- as is the grid of a rule that was read
pub rule_read_writes_back : (table : List ℕ) (R : Rule) → read_rule table ≡ accepted R
    → write_rule R.states R.letters R.sets R.start (grid_bytes R.grid) ≡ accepted R
rule_read_writes_back table R e = let (well, range) = read_well_formed table R e in well_formed_written R well range

-- LENGTHS

-- a row has at most one set byte for each next state
pub set_bytes_le : (row : List ℕ) → length (set_bytes row) ≤ length row
unfolding set_bytes
set_bytes_le [] = omega arith
set_bytes_le (x ∷ row) = go (eqb x no_transition) (set_bytes_le row)
  where
    go : (t : Bool) → length (set_bytes row) ≤ length row → length (cond t (set_bytes row) (x ∷ set_bytes row)) ≤ suc (length row)
    go true h = omega arith
    go false h = omega arith

-- the cell of a row of n bytes has 1 to 1 + n bytes
cells_length_lem : (n : ℕ) (rows : List (List ℕ)) → Every (λ row. length row ≡ n) rows
    → (length rows ≤ length (flat_map cell_bytes rows)) × (length (flat_map cell_bytes rows) ≤ length rows * (1 + n))
unfolding flat_map cell_bytes
cells_length_lem n [] h = omega arith
cells_length_lem n (row ∷ rows) h =
    omega (arith, cells_length_lem n rows h.1, set_bytes_le row, length-append (set_bytes row) (flat_map cell_bytes rows), h.0)

-- the length of a table, by its numbers
pub table_length_by : (R : Rule) → WellFormed R
    → (4 + R.letters * R.states ≤ length (table_bytes R)) × (length (table_bytes R) ≤ 4 + R.letters * R.states * (1 + R.states))
unfolding table_bytes
table_length_by R well =
    let squares = fits_squares R.states R.sets R.grid well.fits in
    let rows = row_count R.states R.letters R.grid well.squares squares in
    let lengths = row_lengths R.states R.letters R.grid well.squares squares in
    omega (arith, rows, cells_length_lem R.states (flatten R.grid) lengths, ap (◌* (1 + R.states)) rows)

-- with numbers in range: 5 to 1156 bytes
pub table_length : (R : Rule) → WellFormed R → in_range R.states R.letters R.sets ≡ true
    → (5 ≤ length (table_bytes R)) × (length (table_bytes R) ≤ 4 + max_letters * max_states * (1 + max_states))
table_length R well range =
    let r = in_range_lem range in
    omega (
      arith,
      table_length_by R well,
      mul-le-mul r.some_letter_lem r.some_state,
      mul-le-mul (mul-le-mul r.letters r.states) (suc-le-suc r.states),
    )
