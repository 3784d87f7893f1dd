-- `find_cycle` meets its contract, by the laws of CycleSearch. The loop ends, since power + lam grows.
use mathlib.Core.List.{List}
use Prim.Native.Nat.{ℕ, ◌+◌, ◌-◌, ◌^◌}
use Rattle.rule.specs.Rule.{Rule}
use Rattle.tree.specs.Inner.Sides.{tree_in}
use Rattle.treejudge.specs.Inner.Cycles.{AtRound}
use Rattle.treejudge.proofs.CycleSearch.{Searching}
use Rattle.treejudge.proofs.cycle.find_cycle.Given as goal

abbrev pub invariant-loop-buffer : goal.invariant-loop-buffer
invariant-loop-buffer l = (R : Rule) (u : List ℕ) → AtRound R u l.v l.lookups l.k 0 l.fn.first
    → Searching R u l.v l.lookups l.k l.saved l.before l.half l.power l.lam (tree_in l.buffer) l.maps

abbrev pub decreases-loop-buffer : goal.decreases-loop-buffer
decreases-loop-buffer l = 2 ^ 65 - (l.power + l.lam)
