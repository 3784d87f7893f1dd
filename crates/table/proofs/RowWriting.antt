-- Bytes of a grid, one by one: which of them question 11 refuses, how many transitions they are, and the map byte and
-- the set bytes of a row.
use mathlib.Core.Path.{◌≡◌, refl, ◌∙◌, ap}
use mathlib.Core.Bool.{Bool, true, false, cond}
use mathlib.Core.List.{List, [], ◌∷◌, ◌++◌, flat_map}
use Prim.Native.Nat.{ℕ, suc, ◌+◌, ◌*◌, ◌^◌, ◌≤◌, ◌<◌}
use native.Mathlib.Omega.{arith}
use native.Mathlib.Nat.{pow-suc}
use native.Mathlib.Numerals.{add-one}
use borrow.Author.Tests.{eq-eqb, ne_eqb, lt-ltb, le-ltb}
use lib.Dec.{eqb}
use lib.ListN.{length, get_or, drop, drop_of_length-le}
use lib.Seq.{drop-cons}
use Rattle.base.specs.Outcome.{refused, accepted}
use Rattle.rule.specs.Limits.{no_transition}
use Rattle.rule.specs.WellFormed.{bytes_fit}
use Rattle.table.specs.Table.{map_byte, set_bytes}
use Rattle.table.specs.Inner.Writing.{transition_count}

-- COUNTING

-- the first i bytes fit and have `count` transitions
pub record CountedSoFar (k : ℕ) (bytes : List ℕ) (count i : ℕ) : Type 0 where
  pub few : i ≤ length bytes
  pub small : count ≤ i
  pub fits : bytes_fit k bytes ≡ bytes_fit k (drop i bytes)
  pub number : length (set_bytes bytes) ≡ count + length (set_bytes (drop i bytes))

pub count_start : (k : ℕ) (bytes : List ℕ) → CountedSoFar k bytes 0 0
count_start k bytes = record { few = omega arith; small = omega arith; fits = refl; number = omega arith }

module _ {k : ℕ} {bytes : List ℕ} {count i : ℕ} (v : CountedSoFar k bytes count i) where
  module _ (h : i < length bytes) where
    -- the next byte says "no transition"
    pub count_skip : get_or bytes i 0 ≡ no_transition → CountedSoFar k bytes count (i + 1)
    unfolding bytes_fit set_bytes
    count_skip e =
        let next = drop-cons bytes i 0 h in
        let none = eq-eqb (get_or bytes i 0) no_transition e in
        rw (add-one i) (record {
          few = h;
          small = omega (arith, v.small);
          fits = v.fits ∙ rw (next, none);
          number = v.number ∙ rw (next, none);
        })

    module _ (there : get_or bytes i 0 ≡ no_transition → ⊥) where
      -- the next byte is a transition
      pub count_one : get_or bytes i 0 < 2 ^ k → CountedSoFar k bytes (count + 1) (i + 1)
      unfolding bytes_fit set_bytes
      count_one l =
          let next = drop-cons bytes i 0 h in
          let one = ne_eqb (get_or bytes i 0) no_transition there in
          let few : length (set_bytes (drop i bytes)) ≡ suc (length (set_bytes (drop (suc i) bytes))) = rw (next, one) in
          rw (add-one i) (record {
            few = h;
            small = omega (arith, v.small);
            fits = v.fits ∙ rw (next, one, lt-ltb (get_or bytes i 0) (2 ^ k) l);
            number = omega (arith, v.number);
          })

      -- the next byte fails question 11
      pub count_misfit : 2 ^ k ≤ get_or bytes i 0 → refused 11 ≡ transition_count k bytes
      unfolding transition_count bytes_fit
      count_misfit l = rw (
        v.fits,
        drop-cons bytes i 0 h,
        ne_eqb (get_or bytes i 0) no_transition there,
        le-ltb (get_or bytes i 0) (2 ^ k) l,
      )

  pub count_done : length bytes ≤ i → accepted count ≡ transition_count k bytes
  unfolding transition_count bytes_fit set_bytes
  count_done h =
      let end = drop_of_length-le bytes h in
      let all : length (set_bytes bytes) ≡ count = v.number ∙ rw end (omega arith) in
      rw (v.fits, end, all)

-- THE MAP BYTE

-- `map` is the map of the first r states; the others' bits are to come
pub record MapSoFar (row : List ℕ) (map r : ℕ) : Type 0 where
  pub small : map < 2 ^ r
  pub same : map + 2 ^ r * map_byte (drop r row) ≡ map_byte row

pub map_start : (row : List ℕ) → MapSoFar row 0 0
map_start row = record { small = omega arith; same = omega arith }

module _ {row : List ℕ} {map r : ℕ} (v : MapSoFar row map r) where
  pub map_done : length row ≤ r → map ≡ map_byte row
  unfolding map_byte
  map_done h = let end = drop_of_length-le row h in omega (arith, v.same, ap (λ (l : List ℕ). 2 ^ r * map_byte l) end)

  module _ (h : r < length row) where
    next : drop r row ≡ get_or row r 0 ∷ drop (suc r) row
    next = drop-cons row r 0 h

    -- there is no transition to the next state
    pub map_skip : get_or row r 0 ≡ no_transition → MapSoFar row map (r + 1)
    unfolding map_byte
    map_skip e =
        let none = eq-eqb (get_or row r 0) no_transition e in
        rw (add-one r) (record {
          small = omega (arith, v.small, pow-suc 2 r);
          same = let e : map + 2 ^ r * (0 + 2 * map_byte (drop (suc r) row)) ≡ map_byte row = rw (next, none) at v.same in rw (pow-suc 2 r) (omega arith);
        })

    -- there is one: its bit stands
    pub map_one : (get_or row r 0 ≡ no_transition → ⊥) → MapSoFar row (map + 2 ^ r) (r + 1)
    unfolding map_byte
    map_one there =
        let one = ne_eqb (get_or row r 0) no_transition there in
        rw (add-one r) (record {
          small = omega (arith, v.small, pow-suc 2 r);
          same = let e : map + 2 ^ r * (1 + 2 * map_byte (drop (suc r) row)) ≡ map_byte row = rw (next, one) at v.same in rw (pow-suc 2 r) (omega arith);
        })

-- THE SET BYTES

-- a byte of the grid gives itself as a set byte, or nothing
unfoldable pub set_byte : ℕ → List ℕ
set_byte x = set_bytes (x ∷ [])

pub set_bytes_each : (row : List ℕ) → set_bytes row ≡ flat_map set_byte row
unfolding set_bytes set_byte flat_map
set_bytes_each [] = refl
set_bytes_each (x ∷ row) = go (eqb x no_transition) (set_bytes_each row)
  where
    go : (t : Bool) → set_bytes row ≡ flat_map set_byte row
        → cond t (set_bytes row) (x ∷ set_bytes row) ≡ cond t [] (x ∷ []) ++ flat_map set_byte row
    go true e = e
    go false e = ap (x ∷◌) e

pub set_byte_none : (x : ℕ) → x ≡ no_transition → set_byte x ≡ []
unfolding set_byte set_bytes
set_byte_none x e = rw (eq-eqb x no_transition e)

pub set_byte_one : (x : ℕ) → (x ≡ no_transition → ⊥) → set_byte x ≡ x ∷ []
unfolding set_byte set_bytes
set_byte_one x there = rw (ne_eqb x no_transition there)
