-- Bytes that the elements of a list give, stored one behind the other into a lent buffer with room for all of them.
use mathlib.Core.Path.{◌≡◌, refl, ◌∙◌, ap}
use mathlib.Core.List.{List, [], ◌∷◌, ◌++◌, flat_map, append-nil}
use Prim.Native.Nat.{ℕ, suc, ◌+◌, ◌≤◌, ◌<◌}
use native.Mathlib.Omega.{arith}
use lib.ListN.{length, get_or, take, drop, set, length-append, take-append-drop}
use lib.Seq.{take-suc, take_all}
use Rattle.base.specs.LentBuffer.{stored}
use Rattle.base.proofs.Flattening.{flat_map_append}
use Rattle.base.proofs.Storing.{PiecesStored, pieces_start, pieces_next, pieces_byte, pieces_skip, pieces_done}

module _ {A : Type 0} (f : A → List ℕ) (d : A) where
  -- the bytes of the first i + 1 elements
  first_more : (l : List A) (i : ℕ) → i < length l → flat_map f (take (suc i) l) ≡ flat_map f (take i l) ++ f (get_or l i d)
  unfolding flat_map
  first_more l i h =
      ap (flat_map f) (take-suc l i d h) ∙ flat_map_append f (take i l) (get_or l i d ∷ [])
      ∙ ap (flat_map f (take i l) ++◌) (append-nil (f (get_or l i d)))

  -- are among those of all
  first_le : (l : List A) (i : ℕ) → length (flat_map f (take i l)) ≤ length (flat_map f l)
  first_le l i =
      omega (
        arith,
        ap (λ (x : List A). length (flat_map f x)) (take-append-drop i l),
        ap length (flat_map_append f (take i l) (drop i l)),
        length-append (flat_map f (take i l)) (flat_map f (drop i l)),
      )

-- the bytes of the first i elements are stored from a place on, and the next go to `at`
pub record EachStored {A : Type 0} (f : A → List ℕ) (l : List A) (before : List ℕ) (from : ℕ) (buffer : List ℕ) (at i : ℕ) : Type 0 where
  pub room : from + length (flat_map f l) ≤ length before
  pub pieces : PiecesStored (λ c. flat_map f (take c l)) (length l) before from buffer at i

module _ {A : Type 0} {f : A → List ℕ} {l : List A} {before : List ℕ} {from : ℕ} where
  pub each_start : from + length (flat_map f l) ≤ length before → EachStored f l before from before from 0
  unfolding flat_map
  each_start h = record { room = h; pieces = pieces_start refl (omega arith) }

  module _ {buffer : List ℕ} {at i : ℕ} (v : EachStored f l before from buffer at i) where
    -- there is room for the next
    pub each_room : (d : A) → i < length l → at + length (f (get_or l i d)) ≤ length before
    each_room d h =
        omega (
          arith,
          v.room,
          v.pieces.stores.place,
          first_le f d l (suc i),
          ap length (first_more f d l i h),
          length-append (flat_map f (take i l)) (f (get_or l i d)),
        )

    -- the next element's bytes
    pub each_next : (d : A) → i < length l
        → EachStored f l before from (stored at (f (get_or l i d)) buffer) (at + length (f (get_or l i d))) (i + 1)
    each_next d h = record { room = v.room; pieces = pieces_next v.pieces h (f (get_or l i d)) (first_more f d l i h) (each_room d h) }

    -- the next element gives one byte, or none
    pub each_byte : (d : A) → i < length l → (x : ℕ) → f (get_or l i d) ≡ x ∷ []
        → EachStored f l before from (set buffer at x) (at + 1) (i + 1)
    each_byte d h x e = record {
      room = v.room;
      pieces = pieces_byte v.pieces h x
          (first_more f d l i h ∙ ap (flat_map f (take i l) ++◌) e)
          (omega (arith, each_room d h, ap length e));
    }

    pub each_skip : (d : A) → i < length l → f (get_or l i d) ≡ [] → EachStored f l before from buffer at (i + 1)
    each_skip d h e = record {
      room = v.room;
      pieces = pieces_skip v.pieces h (first_more f d l i h ∙ ap (flat_map f (take i l) ++◌) e ∙ append-nil (flat_map f (take i l)));
    }

    pub each_done : length l ≤ i → (buffer ≡ stored from (flat_map f l) before) × (at ≡ from + length (flat_map f l))
    each_done h =
        let (same, place) = pieces_done v.pieces h in
        let all : take (length l) l ≡ l = take_all (length l) l (omega arith) in
        (same ∙ ap (λ (x : List A). stored from (flat_map f x) before) all, place ∙ ap (λ (x : List A). from + length (flat_map f x)) all)
