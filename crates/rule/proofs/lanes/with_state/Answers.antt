-- `with_state` meets its contract: no chosen bit leaves the word.
use mathlib.Core.Path.{◌∙◌, ap}
use native.Mathlib.Nat.{mul_comm}
use native.Mathlib.Omega.{arith}
use Prim.Native.Nat.{◌+◌, ◌*◌, ◌-◌, ◌^◌}
use lib.Bits.{bit_or}
use lib.Pow.{shl_exact}
use Rattle.rule.specs.Inner.Lanes.{lane_width, lanes, word_of, chosen_lanes, each_lane, in_lanes, with_state}
use Rattle.rule.proofs.lanes.with_state.Goals as goal

pub returns : goal.returns
unfolding with_state in_lanes each_lane chosen_lanes word_of
returns c =
    let s = c.args.state in
    let chosen = c.args.chosen in
    let exact = shl_exact {a = chosen} (lane_width * (lanes - 1) + 1) s 64 (omega (arith, c.requires.1)) (omega arith) in
    ap (bit_or c.args.word) (exact ∙ mul_comm chosen (2 ^ s))
