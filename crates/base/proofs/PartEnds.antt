-- A part that stands behind its length: where it ends, and what it is. The number that refuses it is any.
use mathlib.Core.Path.{◌≡◌, refl, sym, ◌∙◌, ap, ap₂}
use mathlib.Core.List.{List, [], ◌∷◌}
use Prim.Native.Nat.{ℕ, ◌+◌, ◌-◌, ◌*◌, ◌≤◌, ◌<◌}
use native.Mathlib.Omega.{arith}
use borrow.Author.Tests.{leb-true, le-leb, lt-leb}
use lib.Dec.{leb}
use lib.ListN.{length, get_or, take, drop, length-drop}
use lib.Seq.{drop-drop, length-take-le}
use Rattle.std.specs.List.{slice_range}
use Rattle.std.specs.Prelude.{None, Some}
use Rattle.base.specs.Outcome.{refused, accepted, ask, ◌then◌}
use Rattle.base.specs.Reading.{Read, read_part}
use Rattle.base.specs.Inner.PartEnds.{end_as, part_end, between}
use Rattle.base.proofs.Accepted.{IfAccepted, asked}
use Rattle.base.proofs.Flattening.{to_end}
use Rattle.base.proofs.Numbers.{IfRefused, ask_number}

module _ (number : ℕ) where
  -- WHERE A PART ENDS

  -- fewer than two bytes have no length
  no_length : (bytes : List ℕ) → length bytes < 2 → read_part number bytes ≡ refused number
  unfolding read_part
  no_length [] h = refl
  no_length (low ∷ []) h = refl
  no_length (low ∷ high ∷ rest) h = absurd (omega arith)

  -- the length that stands in front
  abbrev size_of : List ℕ → ℕ
  size_of bytes = get_or bytes 0 0 + 256 * get_or bytes 1 0

  -- what is behind it is read if it is long enough
  sized : (bytes : List ℕ) → 2 ≤ length bytes → read_part number bytes
      ≡ ask (leb (size_of bytes) (length (drop 2 bytes))) number (accepted (take (size_of bytes) (drop 2 bytes), drop (size_of bytes) (drop 2 bytes)))
  unfolding read_part
  sized [] h = absurd (omega arith)
  sized (low ∷ []) h = absurd (omega arith)
  sized (low ∷ high ∷ rest) h = refl

  module _ (bytes : List ℕ) (at : ℕ) where
    pub end_none : length bytes < at + 2 → end_as number None ≡ part_end number at bytes
    unfolding part_end
    end_none h = rw (no_length (drop at bytes) (omega (arith, length-drop at bytes)))

    -- the bytes from there on, of which there are at least two
    module _ (from : List ℕ) (is : from ≡ slice_range bytes at (length bytes)) (two : 2 ≤ length from) where
      here : drop at bytes ≡ from
      here = sym (is ∙ to_end at bytes)

      -- those behind the length
      abbrev rest : List ℕ
      rest = take (length from - 2) (drop 2 from)

      pub end_past : length rest < size_of from → end_as number None ≡ part_end number at bytes
      unfolding part_end
      end_past less =
          rw (here, sized from two, lt-leb (size_of from) (length (drop 2 from)) (omega (arith, length-take-le (length from - 2) (drop 2 from), length-drop 2 from)))

      pub end_at : size_of from ≤ length rest → end_as number (Some (at + 2 + size_of from)) ≡ part_end number at bytes
      unfolding part_end
      end_at fits =
          let room : size_of from ≤ length (drop 2 from) = omega (arith, length-take-le (length from - 2) (drop 2 from), length-drop 2 from) in
          rw (here, sized from two, le-leb (size_of from) (length (drop 2 from)) room, length-take-le (size_of from) (drop 2 from) room)

  -- WHAT A PART IS

  -- a part of some bytes, behind its length, and the bytes behind it
  record PartOf (bytes part rest : List ℕ) : Type 0 where
    fits : 2 + length part ≤ length bytes
    behind : part ≡ take (length part) (drop 2 bytes)
    last : rest ≡ drop (length part) (drop 2 bytes)

  part_of : (bytes : List ℕ) → IfAccepted (λ x. PartOf bytes x.0 x.1) (read_part number bytes)
  unfolding read_part
  part_of [] = tt
  part_of (low ∷ []) = tt
  part_of (low ∷ high ∷ rest) =
      asked (λ x. PartOf (low ∷ high ∷ rest) x.0 x.1) (leb (low + 256 * high) (length rest)) number _ (λ fits.
      let room : low + 256 * high ≤ length rest = leb-true (low + 256 * high) (length rest) fits in
      let long : length (take (low + 256 * high) rest) ≡ low + 256 * high = length-take-le (low + 256 * high) rest room in
      record { fits = omega arith; behind = rw long; last = rw long })

  -- it is refused by no other number
  pub part_number : (bytes : List ℕ) → IfRefused (λ x. x ≡ number) (read_part number bytes)
  unfolding read_part
  part_number [] = refl
  part_number (low ∷ []) = refl
  part_number (low ∷ high ∷ rest) = ask_number (λ x. x ≡ number) (leb (low + 256 * high) (length rest)) number _ refl tt

  -- the part whose length stands at one place ends at another
  pub record PartAt (bytes : List ℕ) (at end : ℕ) : Type 0 where
    pub from : at + 2 ≤ end
    pub upto : end ≤ length bytes
    pub reads : read_part number (drop at bytes) ≡ accepted (between (at + 2) end bytes, drop end bytes)

  module _ (bytes : List ℕ) (at : ℕ) where
    pub part_at : (end : ℕ) → part_end number at bytes ≡ accepted end → PartAt bytes at end
    unfolding part_end
    part_at end e = go (read_part number (drop at bytes)) refl (part_of (drop at bytes)) e
      where
        go : (o : Read (List ℕ)) → read_part number (drop at bytes) ≡ o → IfAccepted (λ x. PartOf (drop at bytes) x.0 x.1) o
            → (o then λ part. accepted (at + 2 + length part.0)) ≡ accepted end → PartAt bytes at end
        go (refused other) is p e = let z : ◌≡◌ {A = ℕ} 0 1 = cc in absurd (omega arith)
        go (accepted (part, rest)) is p e =
            let ends : at + 2 + length part ≡ end = cc in
            let size : end - (at + 2) ≡ length part = omega arith in
            record {
              from = omega arith;
              upto = omega (arith, p.fits, length-drop at bytes);
              reads = is ∙ ap₂ (λ (x y : List ℕ). accepted (x, y)) (own size p.behind) (past ends p.last);
            }
          where
            own : end - (at + 2) ≡ length part → part ≡ take (length part) (drop 2 (drop at bytes)) → part ≡ between (at + 2) end bytes
            own size is = is ∙ rw (drop-drop 2 at bytes, size)

            past : at + 2 + length part ≡ end → rest ≡ drop (length part) (drop 2 (drop at bytes)) → rest ≡ drop end bytes
            past ends is = is ∙ rw (drop-drop 2 at bytes, drop-drop (length part) (at + 2) bytes, ends)

    pub part_missing : part_end number at bytes ≡ refused number → read_part number (drop at bytes) ≡ refused number
    unfolding part_end
    part_missing e = go (read_part number (drop at bytes)) (part_number (drop at bytes)) e
      where
        go : (o : Read (List ℕ)) → IfRefused (λ x. x ≡ number) o → (o then λ part. accepted (at + 2 + length part.0)) ≡ refused number
            → o ≡ refused number
        go (refused other) is e = ap (λ (x : ℕ). refused x) is
        go (accepted part) is e = let z : ◌≡◌ {A = ℕ} 0 1 = cc in absurd (omega arith)
