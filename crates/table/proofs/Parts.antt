-- Lists cut into parts of one width, and put together again. Hence the grid that some bytes are and the bytes of a grid are
-- inverse to each other, for squares of any width n and any number m of letters.
use mathlib.Core.Path.{◌≡◌, refl, sym, ap, ap₂, subst, ◌∙◌}
use mathlib.Core.List.{List, [], ◌∷◌, ◌++◌, flatten}
use Prim.Native.Nat.{ℕ, zero, suc, ◌+◌, ◌*◌, ◌≤◌}
use native.Mathlib.Nat.{suc-mul, zero-mul, zero-add, suc-add, add_comm}
use native.Mathlib.Omega.{arith}
use lib.ListN.{length, take, drop, length-drop, length-map, take-append-drop}
use lib.Seq.{take_at, drop_at, take-take, drop-drop, length-take-le}
use Rattle.std.proofs.lemmas.List.{drop-take}
use Rattle.base.specs.Lists.{Every}
use Rattle.base.proofs.Every.{every_flatten, flatten_every, every_weaker, every_both, every_value}
use Rattle.base.proofs.Flattening.{flatten_append, length_flatten}
use Rattle.rule.specs.Rule.{Grid}
use Rattle.rule.specs.WellFormed.{SquareFits}
use Rattle.table.specs.Table.{parts, grid_of, grid_bytes}

-- PARTS

module _ {A : Type 0} where
  -- there are c parts
  pub length_parts : (w c : ℕ) (l : List A) → length (parts w c l) ≡ c
  unfolding parts
  length_parts w zero l = refl
  length_parts w (suc c) l = ap suc (length_parts w c (drop w l))

  -- each part of a list that is long enough has the width
  parts_width : (w c : ℕ) (l : List A) → c * w ≤ length l → Every (λ part. length part ≡ w) (parts w c l)
  unfolding parts
  parts_width w zero l h = tt
  parts_width w (suc c) l h =
      (length-take-le w l (omega (arith, suc-mul c w)), parts_width w c (drop w l) (omega (arith, length-drop w l)))

  -- the parts of a list, put together again
  pub flatten_parts : (w c : ℕ) (l : List A) → length l ≡ c * w → flatten (parts w c l) ≡ l
  unfolding parts flatten
  flatten_parts w zero [] h = refl
  flatten_parts w zero (x ∷ l) h = absurd (omega (arith, zero-mul w))
  flatten_parts w (suc c) l h =
      ap (take w l ++◌) (flatten_parts w c (drop w l) (omega (arith, length-drop w l, suc-mul c w))) ∙ take-append-drop w l

  -- lists of one width, put together and cut again
  parts_flatten : (w : ℕ) (ls : List (List A)) → Every (λ l. length l ≡ w) ls → parts w (length ls) (flatten ls) ≡ ls
  unfolding parts flatten
  parts_flatten w [] h = refl
  parts_flatten w (l ∷ ls) h =
      ap₂ ◌∷◌ (take_at l (flatten ls) w h.0) (ap (parts w (length ls)) (drop_at l (flatten ls) w h.0) ∙ parts_flatten w ls h.1)

  -- a + b parts are a parts, then b parts of the rest
  parts_add : (w a b : ℕ) (l : List A) → parts w (a + b) l ≡ parts w a (take (a * w) l) ++ parts w b (drop (a * w) l)
  unfolding parts
  parts_add w zero b l = rw (zero-add, zero-mul)
  parts_add w (suc a) b l =
      let m : suc a * w ≡ w + a * w = omega arith in
      rw (suc-add, m, take-take w (w + a * w) l (omega arith), drop-take, ← (drop-drop (a * w) w l), parts_add w a b (drop w l))

-- GRIDS

-- the rows of the grid that some bytes are
pub rows_of_grid : (n m : ℕ) (bytes : List ℕ) → flatten (grid_of n m bytes) ≡ parts n (m * n) bytes
unfolding grid_of parts flatten
rows_of_grid n zero bytes = rw zero-mul
rows_of_grid n (suc m) bytes =
    ap (parts n n (take (n * n) bytes) ++◌) (rows_of_grid n m (drop (n * n) bytes))
    ∙ sym (parts_add n n (m * n) bytes)
    ∙ ap (λ (c : ℕ). parts n c bytes) (sym (suc-mul m n ∙ add_comm (m * n) n))

-- squares of n rows of n bytes
abbrev pub Squares : ℕ → Grid → Type 0
Squares n grid = Every (λ square. (length square ≡ n) × Every (λ row. length row ≡ n) square) grid

-- as squares that fit some number of sets are
pub fits_squares : (n k : ℕ) (grid : Grid) → Every (SquareFits n k) grid → Squares n grid
fits_squares n k grid h = every_weaker _ _ grid (λ square f. (f.0, every_weaker _ _ square (λ row g. g.0) f.1)) h

-- the bytes of a square, cut into rows again
square_of_bytes : (n : ℕ) (square : List (List ℕ)) → length square ≡ n → Every (λ row. length row ≡ n) square
    → (length (flatten square) ≡ n * n) × (parts n n (flatten square) ≡ square)
square_of_bytes n square e h =
    (length_flatten n square h ∙ ap (◌* n) e, subst (λ (c : ℕ). parts n c (flatten square) ≡ square) e (parts_flatten n square h))

-- the bytes of a grid, cut into squares again
squares_of_bytes : (n : ℕ) (grid : Grid) → Squares n grid → grid_of n (length grid) (grid_bytes grid) ≡ grid
unfolding grid_of grid_bytes parts flatten
squares_of_bytes n [] h = refl
squares_of_bytes n (square ∷ grid) h =
    let (long, back) = square_of_bytes n square h.0.0 h.0.1 in
    let here = flatten square in
    let rest = grid_bytes grid in
    rw (flatten_append square (flatten grid), take_at here rest (n * n) long, drop_at here rest (n * n) long, back)
    (ap (square ∷◌) (squares_of_bytes n grid h.1))

module _ (n m : ℕ) (grid : Grid) (e : length grid ≡ m) (h : Squares n grid) where
  -- the grid that its bytes are
  pub grid_of_bytes : grid_of n m (grid_bytes grid) ≡ grid
  grid_of_bytes = subst (λ (c : ℕ). grid_of n c (grid_bytes grid) ≡ grid) e (squares_of_bytes n grid h)

  -- each row has n bytes, each of the m letters n rows
  pub row_lengths : Every (λ row. length row ≡ n) (flatten grid)
  row_lengths = every_flatten (λ (row : List ℕ). length row ≡ n) grid (every_weaker _ _ grid (λ square f. f.1) h)

  pub row_count : length (flatten grid) ≡ m * n
  row_count = length_flatten n grid (every_weaker _ _ grid (λ square f. f.0) h) ∙ ap (◌* n) e

  -- so there are m * n * n bytes
  pub grid_length : length (grid_bytes grid) ≡ m * n * n
  unfolding grid_bytes
  grid_length = length_flatten n (flatten grid) row_lengths ∙ ap (◌* n) row_count

module _ (n m : ℕ) (bytes : List ℕ) (h : length bytes ≡ m * n * n) where
  -- m * n * n bytes are the bytes of the grid that they are
  pub bytes_of_grid : grid_bytes (grid_of n m bytes) ≡ bytes
  unfolding grid_bytes
  bytes_of_grid = ap flatten (rows_of_grid n m bytes) ∙ flatten_parts n (m * n) bytes h

  -- that grid has m squares of n rows of n bytes
  pub grid_squares : (length (grid_of n m bytes) ≡ m) × Squares n (grid_of n m bytes)
  unfolding grid_of
  grid_squares = (
    length-map (parts (n * n) m bytes) (parts n n) ∙ length_parts (n * n) m bytes,
    every_both _ _ (grid_of n m bytes)
        (every_value _ (parts n n) (parts (n * n) m bytes) (length_parts n n))
        (flatten_every _ (grid_of n m bytes) (rw (rows_of_grid n m bytes) (parts_width n (m * n) bytes (omega arith)))),
  )
