-- The reader's answer and the grid in its buffer, from the rule that was read.
use mathlib.Core.Path.{◌≡◌, refl, ◌∙◌, ap, ap₂}
use mathlib.Core.List.{List, [], ◌∷◌, map}
use Prim.Native.Nat.{ℕ, ◌*◌, ◌≤◌, ◌<◌}
use borrow.Author.Tests.{le-leb, lt-leb}
use lib.ListN.{length, take, length-map}
use lib.Seq.{take_at}
use Rattle.base.specs.Outcome.{Outcome, refused, accepted}
use Rattle.base.specs.Lists.{Every, pad}
use Rattle.base.specs.LentBuffer.{stored}
use Rattle.rule.specs.Rule.{Grid, Rule}
use Rattle.rule.specs.Inner.Padded.{padded_row, padded_square, padded}
use Rattle.table.specs.Table.{grid_bytes, read_rule}
use Rattle.table.specs.Inner.GridBytes.{narrow}
use Rattle.table.specs.ReadCall.{read_outcome, grid_after}
use Rattle.table.specs.Inner.ReadRule.{NumbersOf}
use Rattle.table.specs.declared.header.Header.{Header}
use Rattle.table.proofs.Asked.{RuleRead}
use Rattle.table.proofs.Parts.{Squares, fits_squares}

-- WHAT THE ARRAYS HOLD

-- a change of the elements of a list that is undone for each of them
undone : {A B : Type 0} (f : A → B) (g : B → A) (P : A → Type 0) → ((x : A) → P x → g (f x) ≡ x)
    → (l : List A) → Every P l → map g (map f l) ≡ l
undone f g P back [] h = refl
undone f g P back (x ∷ l) h = ap₂ ◌∷◌ (back x h.0) (undone f g P back l h.1)

narrow_row : (n : ℕ) (row : List ℕ) → length row ≡ n → take n (padded_row row) ≡ row
unfolding padded_row pad
narrow_row n row e = take_at row _ n e

narrow_square : (n : ℕ) (square : List (List ℕ)) → length square ≡ n → Every (λ row. length row ≡ n) square
    → map (take n) (take n (padded_square square)) ≡ square
unfolding padded_square pad
narrow_square n square e rows =
    ap (map (take n)) (take_at (map padded_row square) _ n (length-map square padded_row ∙ e))
    ∙ undone padded_row (take n) (λ row. length row ≡ n) (narrow_row n) square rows

-- the grid comes back out of the arrays
pub narrow_padded : (n m : ℕ) (grid : Grid) → length grid ≡ m → Squares n grid → narrow n m (padded grid) ≡ grid
unfolding narrow padded pad
narrow_padded n m grid e squares =
    ap (map (λ (square : List (List ℕ)). map (take n) (take n square))) (take_at (map padded_square grid) _ m (length-map grid padded_square ∙ e))
    ∙ undone padded_square (λ square. map (take n) (take n square)) _ (λ square h. narrow_square n square h.0 h.1) grid squares

-- THE CALL `read`

-- a refusal leaves the buffer as it was
pub kept : {o : Outcome Rule} {number : ℕ} → o ≡ refused number → (before : List ℕ) → before ≡ grid_after o before
unfolding grid_after
kept e before = rw e

-- questions 1 to 6
pub grid_refused : (table before : List ℕ) (number : ℕ) → read_rule table ≡ refused number → read_outcome table before ≡ refused number
unfolding read_outcome
grid_refused table before number e = rw e

module _ {table : List ℕ} {header : Header} {cells : Grid} {words : List (List ℕ)} (v : RuleRead table header cells words) (before : List ℕ) where
  -- question 10
  pub grid_no_room : length before < header.letters * header.states * header.states → read_outcome table before ≡ refused 10
  unfolding read_outcome
  grid_no_room h = let h' = rw (v.holds.numbers.states, v.holds.numbers.letters) at h in rw (v.reads, lt-leb _ _ h')

  -- all questions are answered yes
  pub grid_done : header.letters * header.states * header.states ≤ length before → (after : List ℕ)
      → after ≡ stored 0 (grid_bytes (narrow header.states header.letters cells)) before
      → ((R : Rule) × (read_outcome table before ≡ accepted R) × NumbersOf R header) × (after ≡ grid_after (read_outcome table before) before)
  unfolding read_outcome grid_after
  grid_done h after e =
      let R = v.rule in
      let well = v.holds.limits.well in
      let numbers = v.holds.numbers in
      let h' = rw (numbers.states, numbers.letters) at h in
      let same = narrow_padded R.states R.letters R.grid well.squares (fits_squares R.states R.sets R.grid well.fits) in
      let written = rw (numbers.states, numbers.letters, v.arrays, same) at e in
      rw (v.reads, le-leb _ _ h') ((R, refl, numbers), written)
