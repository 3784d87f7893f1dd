-- `in_lanes` meets its contract: the product is no greater than the word with all states in each lane, which fits.
use borrow.Author.Rules.{rules}
use native.Mathlib.Nat.{mul-le-mul}
use native.Mathlib.Omega.{arith}
use Prim.Native.Nat.{◌-◌, ◌^◌}
use Rattle.rule.specs.Inner.Lanes.{lane_width, word_of, chosen_lanes, each_lane, in_lanes}
use Rattle.rule.proofs.lanes.in_lanes.Goals as goal

pub overflow_mul-result : goal.overflow_mul-result
unfolding each_lane chosen_lanes word_of
overflow_mul-result c =
    rw c.from.ensures (omega (arith, mul-le-mul {n₁ = c.args.map} {n₂ = 2 ^ lane_width - 1} (omega arith) c.requires.1))

pub returns : goal.returns
unfolding in_lanes
returns c =
    search rules
