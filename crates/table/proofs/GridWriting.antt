-- The pieces of a grid's bytes: rows of a square, squares of the grid.
use mathlib.Core.Path.{◌≡◌, refl, sym, ◌∙◌, ap}
use mathlib.Core.List.{List, [], ◌∷◌, ◌++◌, map, flatten, flat_map}
use Prim.Native.Nat.{ℕ, zero, suc, ◌+◌, ◌*◌, ◌≤◌}
use native.Mathlib.Omega.{arith}
use native.Mathlib.Nat.{suc-mul}
use lib.ListN.{length, take, drop, length-append, length-take}
use lib.Seq.{drop-drop}
use borrow.Rule.Slice.PartMut.{put_mid}
use Rattle.base.specs.LentBuffer.{stored}
use Rattle.base.proofs.Flattening.{flatten_append}
use Rattle.rule.specs.Rule.{Grid}
use Rattle.table.specs.Table.{grid_bytes}
use Rattle.table.specs.Inner.GridBytes.{square_bytes, narrow}

-- a part of a buffer that is written to has the bytes stored
pub part_stored : (from size : ℕ) (bytes buffer : List ℕ) → length bytes ≡ size → put_mid from size buffer bytes ≡ stored from bytes buffer
unfolding stored
part_stored from size bytes buffer e =
    ap (λ (l : List ℕ). take from buffer ++ (bytes ++ l)) (drop-drop size from buffer ∙ ap (λ (c : ℕ). drop (from + c) buffer) (sym e))

module _ (n : ℕ) where
  -- the bytes of a square, row by row
  by_rows : (rows : List (List ℕ)) → flat_map (take n) rows ≡ flatten (map (take n) rows)
  unfolding flat_map flatten
  by_rows [] = refl
  by_rows (row ∷ rows) = ap (take n row ++◌) (by_rows rows)

  pub square_by_rows : (square : List (List ℕ)) → flat_map (take n) (take n square) ≡ square_bytes n square
  unfolding square_bytes
  square_by_rows square = by_rows (take n square)

  -- the bytes of a grid, square by square
  by_squares : (squares : Grid) → flat_map (square_bytes n) squares ≡ flatten (flatten (map (λ square. map (take n) (take n square)) squares))
  unfolding flat_map flatten square_bytes
  by_squares [] = refl
  by_squares (square ∷ squares) =
      ap (square_bytes n square ++◌) (by_squares squares)
      ∙ sym (flatten_append (map (take n) (take n square)) (flatten (map (λ square. map (take n) (take n square)) squares)))

  pub grid_by_squares : (m : ℕ) (cells : Grid) → flat_map (square_bytes n) (take m cells) ≡ grid_bytes (narrow n m cells)
  unfolding grid_bytes narrow
  grid_by_squares m cells = by_squares (take m cells)

  -- c rows have at most c * n bytes, and c squares at most c * (n * n)
  pub rows_length : (c : ℕ) (rows : List (List ℕ)) → length (flat_map (take n) (take c rows)) ≤ c * n
  unfolding flat_map
  rows_length zero rows = omega arith
  rows_length (suc c) [] = omega arith
  rows_length (suc c) (row ∷ rows) =
      omega (arith, rows_length c rows, length-append (take n row) (flat_map (take n) (take c rows)), length-take n row, suc-mul c n)

  pub squares_length : (c : ℕ) (squares : Grid) → length (flat_map (square_bytes n) (take c squares)) ≤ c * (n * n)
  unfolding flat_map
  squares_length zero squares = omega arith
  squares_length (suc c) [] = omega arith
  squares_length (suc c) (square ∷ squares) =
      omega (
        arith,
        squares_length c squares,
        length-append (square_bytes n square) (flat_map (square_bytes n) (take c squares)),
        ap length (square_by_rows square),
        rows_length n square,
        suc-mul c (n * n),
      )
