-- The rows of one or more tails (specs/Inner/Rounds.antt), as the code makes them: products keep maps or drop them, and the rows have
-- the ways that may pass one state after the other.
use mathlib.Core.Path.{◌≡◌, ◌∙◌, ap, ap₂}
use mathlib.Core.Bool.{Bool, ◌&&◌, ◌||◌}
use mathlib.Core.List.{List}
use Prim.Native.Nat.{ℕ, suc, ◌+◌, ◌*◌, ◌≤◌, ◌<◌}
use native.Mathlib.Numerals.{add-one}
use native.Mathlib.Omega.{arith}
use lib.ListN.{get_or}
use Rattle.base.specs.BitSet.{member}
use Rattle.base.proofs.BitSet.{member_none, member_union}
use Rattle.rule.specs.Inner.Lanes.{lane_width, map_of, chosen_lanes, each_lane, lanes_with, in_lanes}
use Rattle.rule.specs.Limits.{max_sets}
use Rattle.rule.proofs.LaneLaws.{map_lt, map_none, map_union, kept_in, chosen_kept, lanes_with_state, in_lanes_member}
use Rattle.plain.specs.Inner.Ways.{Ways, joined, ways, AreWays, Changed}
use Rattle.plain.specs.Inner.Rounds.{through, closure, continued}

-- ONE ROW

-- what stands in a continued row: what the row has, and what the two rows have one behind the other
continued_at : (row m behind i t : ℕ) → m < lane_width → i ≤ max_sets
    → member (map_of (continued row m behind) i) t
    ≡ (member (map_of row i) t || joined (λ i. member (map_of row i) m) (λ i. member (map_of behind i) t) i)
unfolding continued joined
continued_at row m behind i t m-lt h = ap (λ (x : ℕ). member x t) (map_union row _ i) ∙ member_union (map_of row i) _ t
    ∙ ap (λ (b : Bool). member (map_of row i) t || b)
    (ap (λ (x : ℕ). member x t) (map_union _ _ i) ∙ member_union _ _ t ∙ ap₂ (λ (a b : Bool). a || b) first second)
  where
    way : ℕ
    way = lanes_with row m (each_lane (suc max_sets))

    to : ℕ → Bool
    to i = member (map_of row i) m

    are : way ≡ chosen_lanes (suc max_sets) to
    are = lanes_with_state row m (suc max_sets) m-lt

    first : member (map_of (behind * map_of way 0) i) t ≡ (member (map_of row 0) m && member (map_of behind i) t)
    first = ap (λ (x : ℕ). member (map_of x i) t) (ap (λ (x : ℕ). behind * map_of x 0) are ∙ chosen_kept behind (suc max_sets) to 0 (omega arith))
        ∙ kept_in (λ x. member (map_of x i) t) (ap (λ (x : ℕ). member x t) (map_none i) ∙ member_none t) behind (to 0)

    second : member (map_of (in_lanes (map_of behind 0) way) i) t ≡ (member (map_of row i) m && member (map_of behind 0) t)
    second = ap (λ (x : ℕ). member (map_of (in_lanes (map_of behind 0) x) i) t) are
        ∙ in_lanes_member (map_of behind 0) (suc max_sets) to i t (map_lt behind 0) (omega arith)

-- ALL ROWS

-- one state more that may be passed
pub through_ways : (m n behind : ℕ) (before after : List ℕ) → m < lane_width → behind ≡ continued (get_or before m 0) m (get_or before m 0)
    → Changed (λ row. continued row m behind) n before after → AreWays n (through m (ways before)) after
unfolding through ways joined
through_ways m n behind before after m-lt own changed s t i s-lt h =
    ap (λ (row : ℕ). member (map_of row i) t) (changed.first s s-lt) ∙ continued_at (get_or before s 0) m behind i t m-lt h
    ∙ rw (back i h, back 0 (omega arith))
  where
    back : (i : ℕ) → i ≤ max_sets → member (map_of behind i) t
        ≡ (ways before m t i || joined (ways before m m) (ways before m t) i)
    back i h = ap (λ (row : ℕ). member (map_of row i) t) own ∙ continued_at (get_or before m 0) m (get_or before m 0) i t m-lt h

-- and one state after the other
pub closure_more : (W : Ways) (n m : ℕ) (rows more : List ℕ) → m < n → AreWays n (closure m W) rows
    → AreWays n (through m (ways rows)) more → AreWays n (closure (m + 1) W) more
unfolding closure through joined
closure_more W n m rows more m-lt are new s t i s-lt h = new s t i s-lt h ∙ rw (
  add-one,
  are s t i s-lt h,
  are s m 0 s-lt (omega arith),
  are s m i s-lt h,
  are m t 0 m-lt (omega arith),
  are m t i m-lt h,
  are m m 0 m-lt (omega arith),
  are m m i m-lt h,
)
