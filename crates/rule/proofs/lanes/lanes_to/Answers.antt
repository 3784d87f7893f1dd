-- `lanes_to` meets its contract: of all lanes those above the last one are dropped.
use native.Mathlib.Omega.{arith}
use Prim.Native.Nat.{suc, ◌-◌}
use Rattle.rule.specs.Inner.Lanes.{lanes, word_of, chosen_lanes, each_lane}
use Rattle.rule.proofs.LaneLaws.{each_fewer}
use Rattle.rule.proofs.lanes.lanes_to.Goals as goal

pub returns : goal.returns
unfolding each_lane chosen_lanes word_of
returns c =
    each_fewer (lanes - 1 - c.args.last) lanes (suc c.args.last) (omega arith)
