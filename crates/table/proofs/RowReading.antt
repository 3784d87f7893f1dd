-- Reading the set bytes of a cell into a blank row: the loop goes from standing bit to standing bit, lowest first, and ends
-- when as many bytes as the map has standing bits are read.
use mathlib.Core.Path.{◌≡◌, refl, sym, ◌∙◌, ap}
use mathlib.Core.Bool.{Bool, true, false, cond}
use mathlib.Core.List.{List, [], ◌∷◌}
use Prim.Native.Nat.{ℕ, zero, suc, ◌+◌, ◌-◌, ◌/◌, ◌%◌, ◌^◌, ◌≤◌, ◌<◌}
use native.Mathlib.Decide.{dec_lt}
use native.Mathlib.Omega.{arith}
use native.Mathlib.Nat.{pow-suc}
use lib.Bits.{bit_and, and_le_l}
use lib.Count.{ones, ones_in, count_trailing_zeros}
use lib.Dec.{eqb}
use lib.ListN.{length, set, replicate, length-set, length-replicate}
use Rattle.std.proofs.lemmas.Nat.{zero_from_ones}
use Rattle.base.specs.Outcome.{Outcome, refused, accepted, ◌then◌}
use Rattle.base.specs.Reading.{Read}
use Rattle.base.proofs.Accepted.{then_assoc}
use Rattle.base.proofs.LowestBit.{lowest_here, lowest_above, lowest_inside, cleared_even, cleared_here, cleared_above, cleared_ones}
use Rattle.rule.specs.Limits.{no_transition}
use Rattle.table.specs.Table.{read_byte, read_transition, read_row}

-- what follows may be replaced by what is equal
then_each : {A B : Type 0} (o : Outcome A) (f g : A → Outcome B) → ((a : A) → f a ≡ g a) → (o then f) ≡ (o then g)
then_each (refused number) f g e = refl
then_each (accepted a) f g e = e a

-- what is read over a row by the bits that still stand: the other places stay as they are
pub read_over : ℕ → List ℕ → ℕ → List ℕ → Read (List ℕ)
read_over k [] rest bytes = accepted ([], bytes)
read_over k (x ∷ row) rest bytes =
    cond (eqb (rest % 2) 1) (read_byte k bytes) (accepted (x, bytes)) then λ y.
    read_over k row (rest / 2) y.1 then λ ys.
    accepted (y.0 ∷ ys.0, ys.1)

-- over a blank row this is the row
over_blank : (k w rest : ℕ) (bytes : List ℕ) → read_over k (replicate w no_transition) rest bytes ≡ read_row k w rest bytes
unfolding read_over read_row read_transition
over_blank k zero rest bytes = refl
over_blank k (suc w) rest bytes =
    rw (go (eqb (rest % 2) 1)) (then_each (read_transition k (eqb (rest % 2) 1) bytes) _ _ λ x. rw (over_blank k w (rest / 2) x.1))
  where
    go : (b : Bool) → cond b (read_byte k bytes) (accepted (no_transition, bytes)) ≡ read_transition k b bytes
    go true = refl
    go false = refl

-- no bit stands
over_none : (k : ℕ) (row bytes : List ℕ) → read_over k row 0 bytes ≡ accepted (row, bytes)
unfolding read_over
over_none k [] bytes = refl
over_none k (x ∷ row) bytes = rw (over_none k row bytes)

-- the next byte goes to the place of the lowest standing bit, and the others follow
abbrev Lowest : ℕ → ℕ → List ℕ → ℕ → List ℕ → Type 0
Lowest k w row rest bytes =
    read_over k row rest bytes
    ≡ (read_byte k bytes then λ x. read_over k (set row (count_trailing_zeros w rest) x.0) (bit_and rest (rest - 1)) x.1)

over_lowest : (k w : ℕ) (row : List ℕ) (rest : ℕ) (bytes : List ℕ) → length row ≤ w → 0 < rest → rest < 2 ^ length row
    → Lowest k w row rest bytes
unfolding read_over
over_lowest k w [] rest bytes le some small = absurd (omega arith)
over_lowest k zero (x ∷ row) rest bytes le some small = absurd (omega arith)
over_lowest k (suc w) (x ∷ row) rest bytes le some small =
    go (dec_lt (rest % 2) 1) (λ half. over_lowest k w row (rest / 2) bytes (omega arith) half (omega (arith, pow-suc 2 (length row))))
  where
    go : Dec (rest % 2 < 1) → (0 < rest / 2 → Lowest k w row (rest / 2) bytes) → Lowest k (suc w) (x ∷ row) rest bytes
    go (yes h) ih =
        let even : rest % 2 ≡ 0 = omega arith in
        rw (even, lowest_above w rest even, cleared_even rest, cleared_above rest some even, ih (omega arith))
        (then_assoc (read_byte k bytes) _ _)
    go (no h) ih =
        let odd : rest % 2 ≡ 1 = omega arith in
        rw (odd, lowest_here w rest odd, cleared_even rest, cleared_here rest odd)

-- `got` of the map's bytes are read, and those of the bits of `rest` are still to come; read over the row they give the whole row
pub record RowSoFar (k w standing : ℕ) (whole : Read (List ℕ)) (row : List ℕ) (rest got : ℕ) (bytes : List ℕ) : Type 0 where
  pub size : length row ≡ w
  pub small : rest < 2 ^ w
  pub count : got + ones rest ≡ ones standing
  pub over : read_over k row rest bytes ≡ whole

pub row_start : (k w standing : ℕ) (bytes : List ℕ) → standing < 2 ^ w
    → RowSoFar k w standing (read_row k w standing bytes) (replicate w no_transition) standing 0 bytes
row_start k w standing bytes h = record {
  size = length-replicate w no_transition;
  small = h;
  count = omega arith;
  over = over_blank k w standing bytes;
}

module _ {k w standing : ℕ} {whole : Read (List ℕ)} {row : List ℕ} {rest got : ℕ} {bytes : List ℕ}
    (v : RowSoFar k w standing whole row rest got bytes) where
  module _ (h : got < ones standing) where
    -- while bytes are to come, a bit stands
    pub row_some : 0 < rest
    unfolding ones ones_in
    row_some = go (dec_lt 0 rest)
      where
        go : Dec (0 < rest) → 0 < rest
        go (yes l) = l
        go (no l) =
            let z : rest ≡ 0 = omega arith in
            let o : ones rest ≡ ones 0 = ap ones z in
            absurd (omega (arith, v.count))

    module _ (width : ℕ) (wide : w ≤ width) where
      -- it has a place in the row
      pub row_inside : count_trailing_zeros width rest < w
      row_inside = lowest_inside width w rest wide row_some v.small

      next : (read_byte k bytes then λ x. read_over k (set row (count_trailing_zeros width rest) x.0) (bit_and rest (rest - 1)) x.1) ≡ whole
      next = sym (over_lowest k width row rest bytes (omega (arith, v.size)) row_some (rw v.size v.small)) ∙ v.over

      -- its set byte is there
      pub row_take : (x : ℕ) (behind : List ℕ) → accepted (x, behind) ≡ read_byte k bytes
          → RowSoFar k w standing whole (set row (count_trailing_zeros width rest) x) (bit_and rest (rest - 1)) (got + 1) behind
      row_take x behind e = record {
        size = length-set row (count_trailing_zeros width rest) x ∙ v.size;
        small = omega (arith, v.small, and_le_l rest (rest - 1));
        count = omega (arith, v.count, cleared_ones rest row_some);
        over = rw (← e) at next;
      }

      -- its set byte is refused
      pub row_refused : (number : ℕ) → refused number ≡ read_byte k bytes → refused number ≡ whole
      row_refused number e = rw (← e) at next

  module _ (h : ones standing ≤ got) where
    -- no byte is left: no bit stands, and the row is whole
    pub row_none : rest ≡ 0
    row_none = zero_from_ones rest (omega (arith, v.count))

    pub row_done : accepted (row, bytes) ≡ whole
    row_done = sym (over_none k row bytes) ∙ rw row_none at v.over
