-- `add_state` meets its contract. The loop stores the entries of the sets with the highest state q, in order.
use mathlib.Core.Path.{◌≡◌}
use Prim.Native.Nat.{◌^◌, ◌≤◌}
use Rattle.rule.specs.Inner.LookupSteps.{StateAdded}
use Rattle.rule.proofs.lookup.add_state.Given as goal

abbrev pub invariant-loop-j : goal.invariant-loop-j
invariant-loop-j l = (l.made ≡ 2 ^ l.q) × (l.made ≤ 8) × StateAdded l.images l.q l.j l.initial.half l.half
