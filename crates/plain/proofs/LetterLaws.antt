-- Letters read by their look-ups (specs/Inner/Letters.antt), as the code's loops read them.
use mathlib.Core.Path.{◌≡◌, refl, sym, ◌∙◌, ap, ap₂}
use mathlib.Core.Bool.{Bool, true, false, cond}
use mathlib.Core.List.{List}
use Prim.Native.Nat.{ℕ, suc, ◌+◌, ◌^◌, ◌≤◌, ◌<◌}
use native.Mathlib.Decide.{ℕ_discrete}
use native.Mathlib.Omega.{arith}
use borrow.Author.Tests.{ne_eqb}
use lib.Bits.{bit_or, or_zero_r}
use lib.ListN.{length, get_or}
use Rattle.base.specs.BitSet.{member}
use Rattle.base.specs.Lists.{Every}
use Rattle.base.proofs.BitSet.{member_none, union_assoc}
use Rattle.base.proofs.Every.{every_at}
use Rattle.base.proofs.Logic.{clash}
use Rattle.rule.specs.Limits.{max_letters, max_sets}
use Rattle.rule.specs.Inner.Lanes.{lane_width, map_of, word_of, each_lane, lanes_with, in_lane, in_lanes}
use Rattle.rule.specs.Inner.Lookup.{Lookup, images_by, look_up}
use Rattle.rule.proofs.LaneLaws.{map_lt, map_union, lane_zero, word_of_ext, word_of_one, word_of_at, word_of_more, stands, stands_none, lanes_with_lem, in_lanes_lem, in_lanes_none, in_lanes_at}
use Rattle.plain.specs.Inner.Letters.{onward, extended}

-- a letter of a word whose letters are within the limit
pub letter_small : (w : List ℕ) (i : ℕ) → Every (λ a. a < max_letters) w → i < length w → get_or w i 0 < max_letters
letter_small w i small inside = every_at (λ a. a < max_letters) w i 0 small inside

-- A LETTER BEHIND A ROW

-- from no state nowhere, and from others where a look-up says
pub onward_none : (lookup : Lookup) → onward lookup 0 ≡ 0
unfolding onward
onward_none lookup = refl

pub onward_some : (lookup : Lookup) (s : ℕ) → (s ≡ 0 → ⊥) → onward lookup s ≡ look_up lookup 0 s
unfolding onward
onward_some lookup s some = simp (ne_eqb s 0 some)

-- its members are those of the look-up
pub onward_out : (lookup : Lookup) (s r : ℕ) → member (onward lookup s) r ≡ true → member (look_up lookup 0 s) r ≡ true
onward_out lookup s r m = go (ℕ_discrete s 0)
  where
    go : Dec (s ≡ 0) → member (look_up lookup 0 s) r ≡ true
    go (yes none) = clash (member_none r) (rw (none, onward_none lookup) at m)
    go (no some) = rw (onward_some lookup s some) at m

pub onward_in : (lookup : Lookup) (s q r : ℕ) → member s q ≡ true → member (look_up lookup 0 s) r ≡ true → member (onward lookup s) r ≡ true
onward_in lookup s q r inside m = rw (onward_some lookup s (λ none. clash (member_none q) (rw none at inside))) m

-- it is a map of states
pub onward_lt : (lookup : Lookup) (s : ℕ) → onward lookup s < 2 ^ lane_width
unfolding look_up
onward_lt lookup s = go (ℕ_discrete s 0)
  where
    go : Dec (s ≡ 0) → onward lookup s < 2 ^ lane_width
    go (yes none) = rw (none, onward_none lookup) (omega arith)
    go (no some) = rw (onward_some lookup s some) (map_lt _ 0)

module _ (lookup : Lookup) (row : ℕ) where
  -- the images of its states, by all relations at once
  abbrev own : ℕ
  own = images_by lookup (map_of row 0)

  -- where its ways lead on, by relation
  abbrev further : ℕ → ℕ
  further i = onward lookup (map_of row i)

  pub extended_at : (i : ℕ) → i ≤ max_sets → map_of (extended lookup row) i ≡ bit_or (look_up lookup i (map_of row 0)) (onward lookup (map_of row i))
  unfolding extended look_up
  extended_at i h = map_union own (word_of (suc max_sets) further) i
      ∙ ap (bit_or (map_of own i)) (word_of_at (suc max_sets) further i (λ j. onward_lt lookup (map_of row j)) (omega arith))

  -- as the code joins it: the map for relation 0 is there already
  pub extended_first : own ≡ bit_or own (word_of 1 further)
  unfolding look_up
  extended_first = go (ℕ_discrete (map_of row 0) 0)
    where
      go : Dec (map_of row 0 ≡ 0) → own ≡ bit_or own (word_of 1 further)
      go (yes none) =
          let e = word_of_one further ∙ ap (onward lookup) none ∙ onward_none lookup in
          sym (ap (bit_or own) e ∙ or_zero_r own)
      go (no some) =
          let e = word_of_one further ∙ onward_some lookup (map_of row 0) some in
          sym (ap (bit_or own) e ∙ lane_zero own)

  -- one map more
  pub extended_more : (i all more : ℕ) → all ≡ bit_or own (word_of i further) → more ≡ in_lane (further i) i
      → bit_or all more ≡ bit_or own (word_of (i + 1) further)
  extended_more i all more sofar e = ap₂ bit_or sofar e ∙ sym (union_assoc own (word_of i further) (in_lane (further i) i))
      ∙ ap (bit_or own) (word_of_more i further (λ j. onward_lt lookup (map_of row j)) ∙ ap (λ (k : ℕ). word_of k further) (omega arith))

  -- all maps at once, where each has all of the row's states or none
  module _ (b : ℕ) (full : row ≡ in_lanes (map_of row 0) (lanes_with row b (each_lane (suc max_sets)))) where
    -- such a map
    map_bit : (i : ℕ) → i < suc max_sets → map_of row i ≡ cond (stands row b i) (map_of row 0) 0
    map_bit i small = ap (λ (x : ℕ). map_of x i) (full ∙ ap (in_lanes (map_of row 0)) (lanes_with_lem row b (suc max_sets)))
        ∙ in_lanes_at (map_of row 0) (suc max_sets) (stands row b) i (map_lt row 0) small

    -- without states the row is empty
    empty : map_of row 0 ≡ 0 → row ≡ 0
    empty none = full ∙ ap (λ (x : ℕ). in_lanes x (lanes_with row b (each_lane (suc max_sets)))) none ∙ in_lanes_none _

    -- where it leads on
    leads_on : (i : ℕ) → i < suc max_sets → cond (stands row b i) (map_of own 0) 0 ≡ further i
    unfolding look_up
    leads_on i small = go (stands row b i) refl (ℕ_discrete (map_of row 0) 0)
      where
        go : (s : Bool) → stands row b i ≡ s → Dec (map_of row 0 ≡ 0) → cond s (map_of own 0) 0 ≡ further i
        go false e _ =
            let none : map_of row i ≡ 0 = map_bit i small ∙ rw e in
            sym (ap (onward lookup) none ∙ onward_none lookup)
        go true e (yes none) = clash (ap (λ (x : ℕ). stands x b i) (empty none) ∙ stands_none b i) e
        go true e (no states) =
            let all : map_of row i ≡ map_of row 0 = map_bit i small ∙ rw e in
            sym (ap (onward lookup) all ∙ onward_some lookup (map_of row 0) states)

    pub extended_full : bit_or own (in_lanes (map_of own 0) (lanes_with row b (each_lane (suc max_sets)))) ≡ extended lookup row
    unfolding extended
    extended_full = ap (bit_or own) (ap (in_lanes (map_of own 0)) (lanes_with_lem row b (suc max_sets))
        ∙ in_lanes_lem (map_of own 0) (suc max_sets) (stands row b) ∙ word_of_ext (suc max_sets) _ _ leads_on)
