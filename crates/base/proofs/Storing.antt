-- Bytes stored one behind the other into a lent buffer.
use mathlib.Core.Path.{◌≡◌, sym, ◌∙◌, ap, ap₂}
use mathlib.Core.List.{List, [], ◌∷◌, ◌++◌, append_assoc}
use Prim.Native.Nat.{ℕ, suc, ◌+◌, ◌≤◌, ◌<◌}
use native.Mathlib.Omega.{arith}
use native.Mathlib.Nat.{add-zero, add_assoc}
use native.Mathlib.Numerals.{add-one}
use lib.ListN.{length, take, drop, set, length-append, length-drop, take-append-drop}
use lib.Seq.{length-take-le, set_split, take_at, drop_at, drop-drop}
use Rattle.base.specs.LentBuffer.{stored}

-- nothing stored
pub stored_none : (at : ℕ) (buffer : List ℕ) → stored at [] buffer ≡ buffer
unfolding stored
stored_none at buffer = rw (add-zero at) (take-append-drop at buffer)

-- the length stays
pub stored_length : (at : ℕ) (bytes buffer : List ℕ) → at + length bytes ≤ length buffer → length (stored at bytes buffer) ≡ length buffer
unfolding stored
stored_length at bytes buffer h =
    let front : length (take at buffer) ≡ at = length-take-le at buffer (omega arith) in
    omega (
      arith,
      length-append (take at buffer) (bytes ++ drop (at + length bytes) buffer),
      length-append bytes (drop (at + length bytes) buffer),
      length-drop (at + length bytes) buffer,
    )

-- one byte stored
stored_one : (at x : ℕ) (buffer : List ℕ) → at < length buffer → set buffer at x ≡ stored at (x ∷ []) buffer
unfolding stored
stored_one at x buffer h = set_split buffer at x h ∙ ap (λ (c : ℕ). take at buffer ++ (x ∷ drop c buffer)) (sym (add-one at))

-- more bytes stored behind those
stored_more : (at : ℕ) (a b buffer : List ℕ) → at + length a + length b ≤ length buffer
    → stored (at + length a) b (stored at a buffer) ≡ stored at (a ++ b) buffer
unfolding stored
stored_more at a b buffer h =
    ap₂ (λ (x y : List ℕ). x ++ (b ++ y)) front behind ∙ append_assoc (take at buffer) a (b ++ drop (at + length (a ++ b)) buffer)
    ∙ ap (λ (l : List ℕ). take at buffer ++ l) (sym (append_assoc a b (drop (at + length (a ++ b)) buffer)))
  where
    whole : List ℕ
    whole = take at buffer ++ (a ++ drop (at + length a) buffer)

    head : length (take at buffer ++ a) ≡ at + length a
    head = length-append (take at buffer) a ∙ ap (λ (c : ℕ). c + length a) (length-take-le at buffer (omega arith))

    regroup : whole ≡ (take at buffer ++ a) ++ drop (at + length a) buffer
    regroup = sym (append_assoc (take at buffer) a (drop (at + length a) buffer))

    front : take (at + length a) whole ≡ take at buffer ++ a
    front = ap (take (at + length a)) regroup ∙ take_at (take at buffer ++ a) (drop (at + length a) buffer) (at + length a) head

    past : drop (at + length a) whole ≡ drop (at + length a) buffer
    past = ap (drop (at + length a)) regroup ∙ drop_at (take at buffer ++ a) (drop (at + length a) buffer) (at + length a) head

    behind : drop (at + length a + length b) whole ≡ drop (at + length (a ++ b)) buffer
    behind = sym (drop-drop (length b) (at + length a) whole) ∙ ap (drop (length b)) past ∙ drop-drop (length b) (at + length a) buffer
        ∙ ap (λ (c : ℕ). drop c buffer) (add_assoc at (length a) (length b) ∙ ap (λ (c : ℕ). at + c) (sym (length-append a b)))

-- some bytes are stored from a place on, and the next goes to `at`
pub record StoredSoFar (before : List ℕ) (from : ℕ) (bytes buffer : List ℕ) (at : ℕ) : Type 0 where
  pub same : buffer ≡ stored from bytes before
  pub place : at ≡ from + length bytes
  pub fits : at ≤ length before

pub stored_start : (before : List ℕ) (from : ℕ) → from ≤ length before → StoredSoFar before from [] before from
stored_start before from h = record { same = sym (stored_none from before); place = sym (add-zero from); fits = h }

module _ {before : List ℕ} {from : ℕ} {bytes buffer : List ℕ} {at : ℕ} (v : StoredSoFar before from bytes buffer at) where
  -- the buffer keeps its length
  pub stored_size : length buffer ≡ length before
  stored_size = ap length v.same ∙ stored_length from bytes before (omega (arith, v.place, v.fits))

  -- several bytes more
  pub stored_next : (more : List ℕ) → at + length more ≤ length before → StoredSoFar before from (bytes ++ more) (stored at more buffer) (at + length more)
  stored_next more h = record {
    same = ap₂ (λ (c : ℕ) (l : List ℕ). stored c more l) v.place v.same ∙ stored_more from bytes more before (omega (arith, v.place));
    place = omega (arith, v.place, length-append bytes more);
    fits = h;
  }

  -- one byte more
  pub stored_byte : (x : ℕ) → at < length before → StoredSoFar before from (bytes ++ (x ∷ [])) (set buffer at x) (at + 1)
  stored_byte x h = rw (stored_one at x buffer (omega (arith, stored_size))) (stored_next (x ∷ []) (omega arith))

-- Bytes that come in pieces: `up_to r` are those of the first r pieces.
pub record PiecesStored (up_to : ℕ → List ℕ) (count : ℕ) (before : List ℕ) (from : ℕ) (buffer : List ℕ) (at r : ℕ) : Type 0 where
  pub few : r ≤ count
  pub stores : StoredSoFar before from (up_to r) buffer at

module _ {up_to : ℕ → List ℕ} {count : ℕ} {before : List ℕ} {from : ℕ} where
  pub pieces_start : up_to 0 ≡ [] → from ≤ length before → PiecesStored up_to count before from before from 0
  pieces_start e h = record { few = omega arith; stores = rw e (stored_start before from h) }

  module _ {buffer : List ℕ} {at r : ℕ} (v : PiecesStored up_to count before from buffer at r) where
    -- the next piece
    pub pieces_next : r < count → (piece : List ℕ) → up_to (suc r) ≡ up_to r ++ piece → at + length piece ≤ length before
        → PiecesStored up_to count before from (stored at piece buffer) (at + length piece) (r + 1)
    pieces_next h piece e room = rw (add-one r) (record { few = h; stores = rw e (stored_next v.stores piece room) })

    -- the next piece is one byte
    pub pieces_byte : r < count → (x : ℕ) → up_to (suc r) ≡ up_to r ++ (x ∷ []) → at < length before
        → PiecesStored up_to count before from (set buffer at x) (at + 1) (r + 1)
    pieces_byte h x e room = rw (add-one r) (record { few = h; stores = rw e (stored_byte v.stores x room) })

    -- the next piece is empty
    pub pieces_skip : r < count → up_to (suc r) ≡ up_to r → PiecesStored up_to count before from buffer at (r + 1)
    pieces_skip h e = rw (add-one r) (record { few = h; stores = rw e v.stores })

    pub pieces_size : length buffer ≡ length before
    pieces_size = stored_size v.stores

    pub pieces_done : count ≤ r → (buffer ≡ stored from (up_to count) before) × (at ≡ from + length (up_to count))
    pieces_done h =
        let e : r ≡ count = omega (arith, v.few) in
        (v.stores.same ∙ ap (λ (c : ℕ). stored from (up_to c) before) e, v.stores.place ∙ ap (λ (c : ℕ). from + length (up_to c)) e)
