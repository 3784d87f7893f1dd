-- `spread` meets its contract: a test of all maps of relations.
use mathlib.Core.Path.{refl}
use Prim.Native.Nat.{suc, ◌*◌, ◌^◌}
use lib.Bits.{bit_and}
use Rattle.base.specs.BitSet.{member, some}
use Rattle.base.proofs.Tests.{same_below}
use Rattle.rule.specs.Inner.Lanes.{set_lanes, word_of, chosen_lanes, spread}
use Rattle.rule.proofs.lanes.spread.Goals as goal

pub returns : goal.returns
unfolding spread chosen_lanes word_of member some
returns c =
    rw c.from.ensures (same_below (2 ^ suc set_lanes) (λ x. bit_and (x * 0x40810204081) 0x1010101010101) spread refl _ c.requires)
