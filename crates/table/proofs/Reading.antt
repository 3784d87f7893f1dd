-- Reading cells: a grid is read back from the bytes of its cells, and what is read has just the bytes that it is read from.
-- The numbers n, m and k are any; for the second, a set byte of k sets must not be the byte of "no transition".
use mathlib.Core.Path.{◌≡◌, refl, sym, ap, ap₂, ◌∙◌}
use mathlib.Core.Bool.{Bool, true, false, not, ◌||◌, cond}
use mathlib.Core.List.{List, [], ◌∷◌, ◌++◌, flatten, flat_map, append_assoc}
use Prim.Native.Nat.{ℕ, zero, suc, ◌+◌, ◌*◌, ◌/◌, ◌%◌, ◌^◌, ◌<◌, ◌≤◌}
use native.Mathlib.Omega.{arith}
use borrow.Author.Tests.{eqb-true, eqb-false, ltb-true, lt-ltb, ne_eqb}
use lib.Dec.{eqb, ltb}
use lib.ListN.{length}
use Rattle.base.specs.Outcome.{accepted, ◌then◌}
use Rattle.base.specs.Lists.{Every}
use Rattle.base.specs.Reading.{Read, read_many}
use Rattle.base.proofs.Logic.{and_in, and_both}
use Rattle.base.proofs.Accepted.{IfAccepted, asked, weaker, followed}
use Rattle.base.proofs.Every.{every_weaker}
use Rattle.base.proofs.Flattening.{flat_map_flatten}
use Rattle.rule.specs.Limits.{no_transition}
use Rattle.rule.specs.Rule.{Grid}
use Rattle.rule.specs.WellFormed.{bytes_fit, RowFits, SquareFits}
use Rattle.table.specs.Table.{map_byte, set_bytes, cell_bytes, read_byte, read_transition, read_row, read_cell, read_grid}

-- ONE CELL

-- a row by a map: one next state by the lowest bit, then the others. t says that the lowest bit does not stand.
row_by_lowest : (k w : ℕ) (t : Bool) (s : ℕ) (bytes : List ℕ) → read_row k (suc w) (cond t 0 1 + 2 * s) bytes
    ≡ (read_transition k (not t) bytes then λ x. read_row k w s x.1 then λ row. accepted (x.0 ∷ row.0, row.1))
unfolding read_row
row_by_lowest k w true s bytes = let (low, high) : ((0 + 2 * s) % 2 ≡ 0) × ((0 + 2 * s) / 2 ≡ s) = omega arith in rw (low, high)
row_by_lowest k w false s bytes = let (low, high) : ((1 + 2 * s) % 2 ≡ 1) × ((1 + 2 * s) / 2 ≡ s) = omega arith in rw (low, high)

-- a row is read back from its bytes
read_row_bytes : (k : ℕ) (row rest : List ℕ) → bytes_fit k row ≡ true
    → read_row k (length row) (map_byte row) (set_bytes row ++ rest) ≡ accepted (row, rest)
unfolding map_byte set_bytes bytes_fit read_transition read_byte read_row
read_row_bytes k [] rest h = refl
read_row_bytes k (x ∷ row) rest h = go (eqb x no_transition) refl head.0 (read_row_bytes k row rest head.1)
  where
    head : ((eqb x no_transition || ltb x (2 ^ k)) ≡ true) × (bytes_fit k row ≡ true)
    head = and_in (eqb x no_transition || ltb x (2 ^ k)) (bytes_fit k row) h

    go : (t : Bool) → eqb x no_transition ≡ t → (t || ltb x (2 ^ k)) ≡ true
        → read_row k (length row) (map_byte row) (set_bytes row ++ rest) ≡ accepted (row, rest)
        → read_row k (suc (length row)) (cond t 0 1 + 2 * map_byte row) (cond t (set_bytes row) (x ∷ set_bytes row) ++ rest)
        ≡ accepted (x ∷ row, rest)
    go true e f ih = row_by_lowest k (length row) true (map_byte row) (set_bytes row ++ rest) ∙ rw (ih, eqb-true x no_transition e)
    go false e f ih = row_by_lowest k (length row) false (map_byte row) (x ∷ set_bytes row ++ rest) ∙ rw (f, ih)

-- a row's map has no bit from the row's length up
pub map_byte_lt : (row : List ℕ) → map_byte row < 2 ^ length row
unfolding map_byte
map_byte_lt [] = omega arith
map_byte_lt (x ∷ row) = go (eqb x no_transition) (map_byte_lt row)
  where
    go : (t : Bool) → map_byte row < 2 ^ length row → cond t 0 1 + 2 * map_byte row < 2 ^ suc (length row)
    go true h = omega arith
    go false h = omega arith

-- a cell is read back from its bytes
pub read_cell_bytes : (n k : ℕ) (row rest : List ℕ) → RowFits n k row → read_cell n k n (cell_bytes row ++ rest) ≡ accepted (row, rest)
unfolding read_cell cell_bytes read_byte
read_cell_bytes n k row rest (long, fits) =
    rw (← long, lt-ltb (map_byte row) (2 ^ length row) (map_byte_lt row)) (read_row_bytes k row rest fits)

-- MANY CELLS

-- where each thing is read back from its bytes, many are read back from theirs
pub read_many_bytes : {A : Type 0} (one : List ℕ → Read A) (bytes : A → List ℕ) (c : ℕ) (things : List A) (rest : List ℕ)
    → length things ≡ c → Every (λ x. (behind : List ℕ) → one (bytes x ++ behind) ≡ accepted (x, behind)) things
    → read_many one c (flat_map bytes things ++ rest) ≡ accepted (things, rest)
unfolding read_many flat_map
read_many_bytes one bytes c [] rest e h = rw (← e)
read_many_bytes one bytes c (x ∷ things) rest e h =
    let more = read_many_bytes one bytes (length things) things rest refl h.1 in
    rw (← e, append_assoc (bytes x) (flat_map bytes things) rest, h.0 (flat_map bytes things ++ rest), more)

-- a square, and so a grid, is read back from its bytes
pub read_square_bytes : (n k : ℕ) (square : List (List ℕ)) (rest : List ℕ) → SquareFits n k square
    → read_many (read_cell n k n) n (flat_map cell_bytes square ++ rest) ≡ accepted (square, rest)
read_square_bytes n k square rest (long, fits) =
    read_many_bytes (read_cell n k n) cell_bytes n square rest long
    (every_weaker _ _ square (λ row fit behind. read_cell_bytes n k row behind fit) fits)

pub read_grid_bytes : (n m k : ℕ) (grid : Grid) (rest : List ℕ) → length grid ≡ m → Every (SquareFits n k) grid
    → read_grid n m k (flat_map cell_bytes (flatten grid) ++ rest) ≡ accepted (grid, rest)
unfolding read_grid
read_grid_bytes n m k grid rest e h =
    rw (flat_map_flatten cell_bytes grid)
    (read_many_bytes (read_many (read_cell n k n) n) (flat_map cell_bytes) m grid rest e
    (every_weaker _ _ grid (λ square fits behind. read_square_bytes n k square behind fits) h))

-- WHAT AN ACCEPTED READING SAYS

-- what was read has the property P, and the bytes are its bytes and then the rest
abbrev pub ReadAs : {A : Type 0} → (A → Type 0) → (A → List ℕ) → List ℕ → A × List ℕ → Type 0
ReadAs P bytes all x = P x.0 × (all ≡ bytes x.0 ++ x.1)

-- one byte
pub byte_read_lem : (w : ℕ) (all : List ℕ) → IfAccepted (ReadAs (λ x. x < 2 ^ w) (λ x. x ∷ []) all) (read_byte w all)
unfolding read_byte
byte_read_lem w [] = tt
byte_read_lem w (x ∷ rest) = asked _ (ltb x (2 ^ w)) 5 (accepted (x, rest)) (λ e. (ltb-true x (2 ^ w) e, refl))

-- one next state; t says that its bit stands
Transition : ℕ → Bool → List ℕ → ℕ × List ℕ → Type 0
Transition k t all x =
    (eqb x.0 no_transition ≡ not t)
    × ((eqb x.0 no_transition || ltb x.0 (2 ^ k)) ≡ true)
    × (all ≡ cond (not t) x.1 (x.0 ∷ x.1))

transition_read : (k : ℕ) → 2 ^ k ≤ no_transition → (t : Bool) (all : List ℕ) → IfAccepted (Transition k t all) (read_transition k t all)
unfolding read_transition Transition
transition_read k small true all =
    weaker _ _ (read_byte k all) (byte_read_lem k all) λ x says.
    let other = ne_eqb x.0 no_transition (omega arith) in
    (other, rw (other, lt-ltb x.0 (2 ^ k) says.0), says.1)
transition_read k small false all = (refl, refl, refl)

-- one row: it has the map that it was read by
Row : ℕ → ℕ → ℕ → List ℕ → List ℕ × List ℕ → Type 0
Row k w standing all x =
    (length x.0 ≡ w) × (bytes_fit k x.0 ≡ true) × (map_byte x.0 ≡ standing) × (all ≡ set_bytes x.0 ++ x.1)

-- a map by its lowest bit and the others
by_lowest : (standing : ℕ) (t : Bool) → eqb (standing % 2) 1 ≡ t → cond (not t) 0 1 + 2 * (standing / 2) ≡ standing
by_lowest standing true e = omega (arith, eqb-true (standing % 2) 1 e)
by_lowest standing false e = omega (arith, eqb-false (standing % 2) 1 e)

-- a choice of two lists, with the same rest behind either
cond_append : (t : Bool) (a b rest : List ℕ) → cond t a b ++ rest ≡ cond t (a ++ rest) (b ++ rest)
cond_append true a b rest = refl
cond_append false a b rest = refl

-- one next state, and a row behind it
row_cons : (k w standing : ℕ) (all : List ℕ) (t : Bool) → eqb (standing % 2) 1 ≡ t → (x : ℕ × List ℕ) → Transition k t all x
    → (row : List ℕ × List ℕ) → Row k w (standing / 2) x.1 row → Row k (suc w) standing all (x.0 ∷ row.0, row.1)
unfolding Transition Row map_byte set_bytes bytes_fit
row_cons k w standing all t e x (is, fit, here) row (long, fits, map, behind) =
    let split = cond_append (not t) (set_bytes row.0) (x.0 ∷ set_bytes row.0) row.1 in
    let bytes = here ∙ ap (λ (r : List ℕ). cond (not t) r (x.0 ∷ r)) behind ∙ sym split in
    (ap suc long, and_both _ _ fit fits, rw (is, map) (by_lowest standing t e), rw is bytes)

-- so for each row
row_read : (k : ℕ) → 2 ^ k ≤ no_transition → (w standing : ℕ) (all : List ℕ) → standing < 2 ^ w
    → IfAccepted (Row k w standing all) (read_row k w standing all)
unfolding read_row Row map_byte bytes_fit set_bytes
row_read k small zero standing all h = (refl, refl, omega arith, refl)
row_read k small (suc w) standing all h =
    let bit = eqb (standing % 2) 1 in
    followed _ _ (read_transition k bit all) _ (transition_read k small bit all) λ x told.
    followed _ _ (read_row k w (standing / 2) x.1) _ (row_read k small w (standing / 2) x.1 (omega arith)) λ row says.
    row_cons k w standing all bit refl x told row says

-- one cell
cell_read : (n k : ℕ) → 2 ^ k ≤ no_transition → (all : List ℕ) → IfAccepted (ReadAs (RowFits n k) cell_bytes all) (read_cell n k n all)
unfolding read_cell cell_bytes Row
cell_read n k small all =
    followed _ _ (read_byte n all) _ (byte_read_lem n all) λ standing told.
    weaker _ _ (read_row k n standing.0 standing.1) (row_read k small n standing.0 standing.1 told.0) λ row says.
    ((says.0, says.1), told.1 ∙ ap₂ ◌∷◌ (sym says.2) says.3)

-- many things: if whatever is read has the property P and the bytes that it is read from, so it is with many
many_read : {A : Type 0} (P : A → Type 0) (bytes : A → List ℕ) (one : List ℕ → Read A)
    → ((all : List ℕ) → IfAccepted (ReadAs P bytes all) (one all)) → (c : ℕ) (all : List ℕ)
    → IfAccepted (ReadAs (λ things. (length things ≡ c) × Every P things) (flat_map bytes) all) (read_many one c all)
unfolding read_many flat_map
many_read P bytes one h zero all = ((refl, tt), refl)
many_read P bytes one h (suc c) all =
    followed _ _ (one all) _ (h all) λ x told.
    followed _ _ (read_many one c x.1) _ (many_read P bytes one h c x.1) λ xs says. (
      (ap suc says.0.0, (told.0, says.0.1)),
      told.1 ∙ ap (bytes x.0 ++◌) says.1 ∙ sym (append_assoc (bytes x.0) (flat_map bytes xs.0) xs.1),
    )

-- a square, and so a grid
square_read : (n k : ℕ) → 2 ^ k ≤ no_transition → (all : List ℕ)
    → IfAccepted (ReadAs (SquareFits n k) (flat_map cell_bytes) all) (read_many (read_cell n k n) n all)
square_read n k small = many_read (RowFits n k) cell_bytes (read_cell n k n) (cell_read n k small) n

abbrev pub GridRead : ℕ → ℕ → ℕ → List ℕ → Grid × List ℕ → Type 0
GridRead n m k = ReadAs (λ grid. (length grid ≡ m) × Every (SquareFits n k) grid) (λ grid. flat_map cell_bytes (flatten grid))

pub grid_read : (n m k : ℕ) → 2 ^ k ≤ no_transition → (all : List ℕ) → IfAccepted (GridRead n m k all) (read_grid n m k all)
unfolding read_grid
grid_read n m k small all =
    let squares = read_many (read_cell n k n) n in
    weaker _ _ (read_many squares m all) (many_read (SquareFits n k) (flat_map cell_bytes) squares (square_read n k small) m all) λ grid says.
    (says.0, rw (flat_map_flatten cell_bytes grid.0) says.1)
