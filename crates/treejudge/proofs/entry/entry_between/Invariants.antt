-- `entry_between` meets its contract. The entry is from `place` to `high`; where the trees at `place` and a period further are
-- the same, it is `place`.
use mathlib.Core.List.{List}
use Prim.Native.Nat.{ℕ}
use Rattle.rule.specs.Rule.{Rule}
use Rattle.tree.specs.Inner.Sides.{tree_in}
use Rattle.treejudge.specs.Inner.Cycles.{Bracket}
use Rattle.treejudge.proofs.entry.entry_between.Given as goal

abbrev pub invariant-loop-place : goal.invariant-loop-place
invariant-loop-place l = (R : Rule) (u : List ℕ) (entry period : ℕ)
    → Bracket R u l.v l.lookups l.k entry period l.low l.high l.fn.first l.fn.later
    → Bracket R u l.v l.lookups l.k entry period l.place l.high (tree_in l.here) (tree_in l.there)
