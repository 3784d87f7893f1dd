-- The writer's call: the exact length of the table, the outcome by the answers of the questions, and that what is
-- written is the table.
use mathlib.Core.Path.{◌≡◌, refl, sym, ◌∙◌, ap}
use mathlib.Core.Bool.{Bool, true, false}
use mathlib.Core.List.{List, [], ◌∷◌, ◌++◌, flatten, flat_map}
use Prim.Native.Nat.{ℕ, ◌+◌, ◌*◌, ◌^◌, ◌≤◌, ◌<◌}
use native.Mathlib.Omega.{arith}
use borrow.Author.Tests.{eq-eqb, ne_eqb, eqb-true, le-leb, lt-leb}
use lib.Dec.{eqb}
use lib.ListN.{length, length-append}
use lib.Pow.{pow_mono}
use Rattle.std.specs.Prelude.{Option, Some, None, Ok, Err}
use Rattle.std.specs.Option.{ok_or}
use Rattle.base.specs.Outcome.{Outcome, refused, accepted, ask}
use Rattle.base.specs.declared.refusal.Refusal.{Refusal}
use Rattle.base.specs.LentBuffer.{stored}
use Rattle.base.proofs.Logic.{and_in}
use Rattle.base.proofs.Flattening.{flat_map_append}
use Rattle.base.proofs.Storing.{StoredSoFar, stored_next}
use Rattle.rule.specs.Limits.{max_states}
use Rattle.rule.specs.Rule.{Rule}
use Rattle.rule.specs.WellFormed.{bytes_fit, start_fits}
use Rattle.table.specs.Table.{set_bytes, cell_bytes, table_bytes, parts, grid_of, in_range, ask_header, grid_fits, write_rule}
use Rattle.table.specs.Inner.Header.{header_outcome}
use Rattle.table.specs.WriteCall.{write_outcome, table_after}
use Rattle.table.specs.Inner.Writing.{counted_as, transition_count, row_cells}
use Rattle.table.proofs.Ranges.{InRange, in_range_lem, start_fits_lem}
use Rattle.table.proofs.Parts.{flatten_parts, length_parts, rows_of_grid}
use Rattle.table.proofs.RowWriting.{set_byte, set_bytes_each}
use Rattle.table.proofs.RuleReading.{header_refused, header_accepted}

-- THE EXACT LENGTH

-- the set bytes of rows are those of all their bytes, so the cells have one byte more for each row
sets_append : (a b : List ℕ) → set_bytes (a ++ b) ≡ set_bytes a ++ set_bytes b
sets_append a b = rw (set_bytes_each a, set_bytes_each b) (set_bytes_each (a ++ b) ∙ flat_map_append set_byte a b)

cells_length_lem : (rows : List (List ℕ)) → length (flat_map cell_bytes rows) ≡ length rows + length (set_bytes (flatten rows))
unfolding flat_map flatten cell_bytes set_bytes
cells_length_lem [] = refl
cells_length_lem (row ∷ rows) =
    omega (
      arith,
      cells_length_lem rows,
      length-append (set_bytes row) (flat_map cell_bytes rows),
      ap length (sets_append row (flatten rows)),
      length-append (set_bytes row) (set_bytes (flatten rows)),
    )

-- the cells of c rows of n bytes: a map byte for each row, and a set byte for each transition
row_cells_length : (n c : ℕ) (grid : List ℕ) → length grid ≡ c * n → length (row_cells n c grid) ≡ c + length (set_bytes grid)
unfolding row_cells
row_cells_length n c grid e =
    omega (arith, cells_length_lem (parts n c grid), length_parts n c grid, ap (λ (l : List ℕ). length (set_bytes l)) (flatten_parts n c grid e))

-- the rule that is to be written
abbrev rule_of : ℕ → ℕ → ℕ → ℕ → List ℕ → Rule
rule_of n m k start grid = record { states = n; letters = m; sets = k; start = start; grid = grid_of n m grid }

-- its table, and the table's length
abbrev table_of : ℕ → ℕ → ℕ → ℕ → List ℕ → List ℕ
table_of n m k start grid = n ∷ m ∷ k ∷ start ∷ row_cells n (m * n) grid

rule_bytes : (n m k start : ℕ) (grid : List ℕ) → table_bytes (rule_of n m k start grid) ≡ table_of n m k start grid
unfolding table_bytes row_cells
rule_bytes n m k start grid = rw (rows_of_grid n m grid)

rule_length : (n m k start : ℕ) (grid : List ℕ) → length grid ≡ m * n * n
    → length (table_bytes (rule_of n m k start grid)) ≡ 4 + m * n + length (set_bytes grid)
rule_length n m k start grid whole = rw (rule_bytes n m k start grid) (omega (arith, row_cells_length n (m * n) grid whole))

-- QUESTIONS 2, 3 AND 11

-- what the count of the transitions says
module _ (k : ℕ) (grid : List ℕ) (found : Option ℕ) (no : Refusal) (e : counted_as found ≡ transition_count k grid) where
  pub counted_yes : (count : ℕ) → Ok count ≡ ok_or found no → (bytes_fit k grid ≡ true) × (count ≡ length (set_bytes grid))
  unfolding transition_count
  counted_yes count is = go found e is (bytes_fit k grid) refl
    where
      go : (o : Option ℕ) → counted_as o ≡ ask (bytes_fit k grid) 11 (accepted (length (set_bytes grid))) → Ok count ≡ ok_or o no
          → (t : Bool) → bytes_fit k grid ≡ t → (t ≡ true) × (count ≡ length (set_bytes grid))
      go None e is t fit = cc
      go (Some x) e is true fit = (refl, let same = rw fit at e in cc)
      go (Some x) e is false fit = let same = rw fit at e in cc

  pub counted_no : (given : Refusal) → Err given ≡ ok_or found no → (given ≡ no) × (bytes_fit k grid ≡ false)
  unfolding transition_count
  counted_no given is = go found e is (bytes_fit k grid) refl
    where
      go : (o : Option ℕ) → counted_as o ≡ ask (bytes_fit k grid) 11 (accepted (length (set_bytes grid))) → Err given ≡ ok_or o no
          → (t : Bool) → bytes_fit k grid ≡ t → (given ≡ no) × (t ≡ false)
      go (Some x) e is t fit = cc
      go None e is true fit = let same = rw fit at e in cc
      go None e is false fit = (cc, refl)

module _ (n m k start : ℕ) (grid : List ℕ) where
  -- question 2 or 3 failed
  pub length_header : (number : ℕ) → header_outcome n m k start ≡ refused number → write_rule n m k start grid ≡ refused number
  unfolding write_rule
  length_header number e = header_refused n m k start number _ e

  module _ (header : header_outcome n m k start ≡ accepted tt) where
    -- question 11 failed: the number of bytes
    pub length_size : (length grid ≡ m * n * n → ⊥) → write_rule n m k start grid ≡ refused 11
    unfolding write_rule ask_header grid_fits
    length_size h =
        let (range, starts) = header_accepted n m k start tt header in
        rw (range, starts, ne_eqb (length grid) (m * n * n) h)

    module _ (whole : length grid ≡ m * n * n) where
      -- or one of the bytes
      pub length_misfit : bytes_fit k grid ≡ false → write_rule n m k start grid ≡ refused 11
      unfolding write_rule ask_header grid_fits
      length_misfit misfit =
          let (range, starts) = header_accepted n m k start tt header in
          rw (range, starts, eq-eqb (length grid) (m * n * n) whole, misfit)

      -- none failed
      pub length_exact : (count : ℕ) → (bytes_fit k grid ≡ true) × (count ≡ length (set_bytes grid))
          → (R : Rule) × (write_rule n m k start grid ≡ accepted R) × (4 + m * n + count ≡ length (table_bytes R))
      unfolding write_rule ask_header grid_fits
      length_exact count (fit, same) =
          let (range, starts) = header_accepted n m k start tt header in
          (rule_of n m k start grid, rw (range, starts, eq-eqb (length grid) (m * n * n) whole, fit), rw same (sym (rule_length n m k start grid whole)))

-- WHAT THE EXACT LENGTH SAYS

-- the numbers and the grid are those of a rule that can be written
pub record Writable (n m k start : ℕ) (grid : List ℕ) (size : ℕ) : Type 0 where
  pub range : InRange n m k
  pub starts : start < 2 ^ max_states
  pub whole : length grid ≡ m * n * n
  pub exact : size ≡ length (table_of n m k start grid)
  pub rule : write_rule n m k start grid ≡ accepted (rule_of n m k start grid)

pub writable : (n m k start : ℕ) (grid : List ℕ) (size : ℕ) (S : Rule) → write_rule n m k start grid ≡ accepted S → size ≡ length (table_bytes S)
    → Writable n m k start grid size
unfolding write_rule ask_header grid_fits
writable n m k start grid size S e long = go (in_range n m k) refl (start_fits n start) refl (grid_fits n m k grid) refl e
  where
    R : Rule
    R = rule_of n m k start grid

    go : (a : Bool) → in_range n m k ≡ a → (b : Bool) → start_fits n start ≡ b → (c : Bool) → grid_fits n m k grid ≡ c
        → ask a 2 (ask b 3 (ask c 11 (accepted R))) ≡ accepted S → Writable n m k start grid size
    go true x true y true z h =
        let range = in_range_lem x in
        let same : S ≡ R = cc in
        record {
          range = range;
          starts = omega (arith, (start_fits_lem n start y).1, pow_mono range.states);
          whole = eqb-true (length grid) (m * n * n) (and_in (eqb (length grid) (m * n * n)) _ z).0;
          exact = long ∙ ap (λ (T : Rule). length (table_bytes T)) same ∙ ap length (rule_bytes n m k start grid);
          rule = rw (x, y, z);
        }
    go true x true y false z h = cc
    go true x false y c z h = cc
    go false x b y c z h = cc

-- THE CALL

-- a refusal leaves the buffer as it was
pub kept : {o : Outcome (List ℕ)} {number : ℕ} → o ≡ refused number → (before : List ℕ) → before ≡ table_after o before
unfolding table_after
kept e before = rw e

module _ (n m k start : ℕ) (grid before : List ℕ) where
  -- question 2, 3 or 11 failed
  pub put_refused : (number : ℕ) → write_rule n m k start grid ≡ refused number → write_outcome n m k start grid before ≡ refused number
  unfolding write_outcome
  put_refused number e = rw e

  module _ (size : ℕ) (v : Writable n m k start grid size) where
    -- question 10 failed
    pub put_short : length before < size → write_outcome n m k start grid before ≡ refused 10
    unfolding write_outcome
    put_short h = rw (v.rule, rule_bytes n m k start grid, lt-leb (length (table_of n m k start grid)) (length before) (omega (arith, v.exact)))

    -- the header, and the cells behind it
    pub put_done : size ≤ length before → (header after : List ℕ)
        → header ≡ stored 0 (n ∷ m ∷ k ∷ start ∷ []) before → after ≡ stored 4 (row_cells n (m * n) grid) header
        → ((bytes : List ℕ) × (write_outcome n m k start grid before ≡ accepted bytes) × (size ≡ length bytes))
        × (after ≡ table_after (write_outcome n m k start grid before) before)
    unfolding write_outcome table_after
    put_done h header after e₁ e₂ =
        let s : StoredSoFar before 0 (n ∷ m ∷ k ∷ start ∷ []) header 4 =
        record { same = e₁; place = refl; fits = omega (arith, v.exact) } in
        let room = le-leb (length (table_of n m k start grid)) (length before) (omega (arith, v.exact)) in
        rw (v.rule, rule_bytes n m k start grid, room)
        ((table_of n m k start grid, refl, v.exact), e₂ ∙ (stored_next s (row_cells n (m * n) grid) (omega (arith, v.exact))).same)
