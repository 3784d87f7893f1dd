-- `fill_half` meets its contract. With each state the images of twice as many sets are in the half.
use mathlib.Core.Path.{◌≡◌}
use native.Mathlib.Numerals.{add-one}
use native.Mathlib.Omega.{arith}
use Rattle.rule.proofs.LookupSteps.{filled_none, filled_more, filled_all}
use Rattle.rule.proofs.lookup.fill_half.Goals as goal

pub loop-q-init : goal.loop-q-init
loop-q-init c =
    filled_none _ _ c.requires.1

pub loop-q-preserved : goal.loop-q-preserved
loop-q-preserved c =
    rw add-one (filled_more _ _ _ _ c.loop-q.invariant c.add_state.ensures)

pub returns : goal.returns
returns c =
    let all : c.loop-q.q ≡ 4 = omega (arith, c.requires.0) in
    filled_all _ _ (rw all at c.loop-q.invariant)
