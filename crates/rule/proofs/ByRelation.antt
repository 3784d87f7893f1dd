-- The laws of one map of states for each relation, in one number (specs/Inner/Lanes.antt): unions, the map for one relation, and maps put into
-- lanes.
use mathlib.Core.Path.{◌≡◌, refl, sym, ◌∙◌}
use mathlib.Core.Bool.{Bool, true, false, ◌&&◌, ◌||◌, cond}
use Prim.Native.Nat.{ℕ, ◌^◌, ◌<◌}
use lib.Bits.{bit_or}
use lib.Dec.{eqb}
use Rattle.base.specs.BitSet.{member, collect}
use Rattle.base.proofs.BitSet.{collect_lt, collect_ext, collect_union, collect_members}
use Rattle.rule.specs.Inner.Lanes.{lane_width, lanes, map_of, word_of, by_relation, chosen_lanes, in_lane, in_lanes}
use Rattle.rule.proofs.LaneLaws.{word_of_ext, word_of_at, word_of_union, in_lanes_lem, in_lane_lem}

-- the same maps, the same number
pub relations_ext : (f g : ℕ → ℕ → Bool) → ((i r : ℕ) → i < lanes → r < lane_width → f i r ≡ g i r) → by_relation f ≡ by_relation g
unfolding by_relation
relations_ext f g h = word_of_ext lanes _ _ (λ i l. collect_ext lane_width (f i) (g i) (λ r k. h i r l k))

-- no states
pub relations_none : by_relation (λ i r. false) ≡ 0
unfolding by_relation word_of collect
relations_none = refl

-- the unions of two maps for each relation
pub relations_union : (f g : ℕ → ℕ → Bool) → bit_or (by_relation f) (by_relation g) ≡ by_relation (λ i r. f i r || g i r)
unfolding by_relation
relations_union f g = word_of_union lanes _ _ (λ i. collect_lt lane_width (f i)) (λ i. collect_lt lane_width (g i))
    ∙ word_of_ext lanes _ _ (λ i l. collect_union lane_width (f i) (g i))

-- the map for relation i
pub relations_at : (f : ℕ → ℕ → Bool) (i : ℕ) → i < lanes → map_of (by_relation f) i ≡ collect lane_width (f i)
unfolding by_relation
relations_at f i h = word_of_at lanes (λ i. collect lane_width (f i)) i (λ j. collect_lt lane_width (f j)) h

-- a map in some lanes, and in one
pub relations_in : (map : ℕ) (f : ℕ → Bool) → map < 2 ^ lane_width → in_lanes map (chosen_lanes lanes f) ≡ by_relation (λ i r. f i && member map r)
unfolding by_relation collect
relations_in map f fits = in_lanes_lem map lanes f ∙ word_of_ext lanes _ _ (λ i l. go (f i))
  where
    go : (b : Bool) → cond b map 0 ≡ collect lane_width (λ r. b && member map r)
    go true = sym (collect_members lane_width map fits)
    go false = refl

pub relations_in_one : (map i : ℕ) → map < 2 ^ lane_width → i < lanes → in_lane map i ≡ by_relation (λ j r. eqb j i && member map r)
relations_in_one map i fits small = in_lane_lem map lanes i small ∙ relations_in map (λ j. eqb j i) fits
