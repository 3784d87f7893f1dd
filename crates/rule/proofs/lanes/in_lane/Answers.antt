-- `in_lane` meets its contract: the map fits into its lane.
use native.Mathlib.Omega.{arith}
use Prim.Native.Nat.{◌*◌}
use lib.Pow.{shl_exact}
use Rattle.rule.specs.Inner.Lanes.{lane_width, in_lane}
use Rattle.rule.proofs.lanes.in_lane.Goals as goal

pub returns : goal.returns
unfolding in_lane
returns c =
    rw c.from.ensures (shl_exact lane_width (lane_width * c.args.lane) 64 c.requires.0 (omega arith))
