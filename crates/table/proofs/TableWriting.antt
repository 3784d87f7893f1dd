-- The table that the writer puts into a lent buffer: a cell, and the cells of the grid's rows.
use mathlib.Core.Path.{◌≡◌, sym, ◌∙◌, ap}
use mathlib.Core.List.{List, []}
use Prim.Native.Nat.{ℕ, zero, suc, ◌+◌, ◌-◌, ◌*◌, ◌≤◌, ◌<◌}
use native.Mathlib.Omega.{arith}
use native.Mathlib.Nat.{suc-mul, zero-mul, mul-le-mul_right, le_of_suc-le-suc, not-suc-le-zero}
use lib.ListN.{length, get_or, take, drop, set, length-take, length-drop}
use lib.Seq.{drop-drop}
use Rattle.base.specs.LentBuffer.{stored}
use Rattle.base.proofs.EachStored.{EachStored, each_start, each_room, each_next, each_done}
use Rattle.base.proofs.Storing.{stored_start, stored_byte, stored_next, pieces_size}
use Rattle.table.specs.Table.{map_byte, set_bytes, cell_bytes, parts}
use Rattle.table.specs.Inner.Writing.{row_cells}
use Rattle.table.proofs.Parts.{length_parts}

-- a map byte, and the set bytes behind it
pub cell_stored : (row buffer : List ℕ) (from : ℕ) → from + length (cell_bytes row) ≤ length buffer
    → stored (from + 1) (set_bytes row) (set buffer from (map_byte row)) ≡ stored from (cell_bytes row) buffer
unfolding cell_bytes
cell_stored row buffer from h =
    (stored_next (stored_byte (stored_start buffer from (omega arith)) (map_byte row) (omega arith)) (set_bytes row) (omega arith)).same

module _ {A : Type 0} where
  -- the part at a place
  part_at : (w c : ℕ) (l : List A) (i : ℕ) → i < c → get_or (parts w c l) i [] ≡ take w (drop (i * w) l)
  unfolding parts
  part_at w zero l i h = absurd (not-suc-le-zero h)
  part_at w (suc c) l zero h = ap (λ (x : ℕ). take w (drop x l)) (sym (zero-mul w))
  part_at w (suc c) l (suc i) h =
      let e : w + i * w ≡ suc i * w = omega (arith, suc-mul i w) in
      part_at w c (drop w l) i (le_of_suc-le-suc h) ∙ ap (take w) (drop-drop (i * w) w l) ∙ ap (λ (x : ℕ). take w (drop x l)) e

-- the bytes of a row of the grid
abbrev pub row_at : ℕ → ℕ → List ℕ → List ℕ
row_at n row grid = take (row * n + n - row * n) (drop (row * n) grid)

-- the cells of the first rows are stored behind the header
pub record CellsStored (n rows : ℕ) (grid before buffer : List ℕ) (at row : ℕ) : Type 0 where
  pub whole : length grid ≡ rows * n
  pub each : EachStored cell_bytes (parts n rows grid) before 4 buffer at row

pub cells_start : (n rows : ℕ) (grid before : List ℕ) → length grid ≡ rows * n → 4 + length (row_cells n rows grid) ≤ length before
    → CellsStored n rows grid before before 4 0
unfolding row_cells
cells_start n rows grid before e h = record { whole = e; each = each_start h }

module _ {n rows : ℕ} {grid before buffer : List ℕ} {at row : ℕ} (v : CellsStored n rows grid before buffer at row) where
  module _ (h : row < rows) where
    -- the next row ends within the grid, and has n bytes
    pub row_end : row * n + n ≤ length grid
    row_end = omega (arith, v.whole, suc-mul row n, mul-le-mul_right n h)

    pub row_length : length (row_at n row grid) ≡ n
    row_length = simp (length-take, length-drop) (omega (arith, row_end))

    -- it is the next of the rows
    there : row < length (parts n rows grid)
    there = omega (arith, length_parts n rows grid)

    same_row : get_or (parts n rows grid) row [] ≡ row_at n row grid
    same_row =
        let e : n ≡ row * n + n - row * n = omega arith in
        part_at n rows grid row h ∙ ap (λ (w : ℕ). take w (drop (row * n) grid)) e

    -- there is room for its cell
    pub cells_room : at + length (cell_bytes (row_at n row grid)) ≤ length buffer
    cells_room = omega (arith, rw same_row at (each_room v.each [] there), pieces_size v.each.pieces)

    -- and it is stored
    pub cells_next : CellsStored n rows grid before
        (stored at (cell_bytes (row_at n row grid)) buffer) (at + length (cell_bytes (row_at n row grid))) (row + 1)
    cells_next = record { whole = v.whole; each = rw same_row at (each_next v.each [] there) }

  -- all rows are done
  pub cells_done : rows ≤ row → buffer ≡ stored 4 (row_cells n rows grid) before
  unfolding row_cells
  cells_done h = (each_done v.each (omega (arith, length_parts n rows grid))).0
