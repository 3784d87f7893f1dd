-- `fill_half` meets its contract. With each state the images of twice as many sets are in the half.
use Prim.Native.Nat.{◌^◌}
use Rattle.rule.proofs.LookupSteps.{Filled}
use Rattle.rule.proofs.lookup.fill_half.Given as goal

abbrev pub invariant-loop-q : goal.invariant-loop-q
invariant-loop-q l = Filled l.words (2 ^ l.q) l.half
