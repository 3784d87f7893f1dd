-- `read_rounds` meets its contract. From t(r) on, the tree at hand is t(r + round).
use mathlib.Core.List.{List}
use Prim.Native.Nat.{ℕ, ◌+◌}
use Rattle.rule.specs.Rule.{Rule}
use Rattle.tree.specs.Inner.Sides.{tree_in}
use Rattle.treejudge.specs.Inner.Cycles.{AtRound}
use Rattle.treejudge.proofs.entry.read_rounds.Given as goal

abbrev pub invariant-loop-round : goal.invariant-loop-round
invariant-loop-round l = (R : Rule) (u : List ℕ) (r : ℕ) → AtRound R u l.v l.lookups l.k r l.fn.tree
    → AtRound R u l.v l.lookups l.k (r + l._round) (tree_in l.buffer)
