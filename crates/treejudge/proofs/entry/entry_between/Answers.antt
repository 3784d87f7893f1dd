-- `entry_between` meets its contract. The entry is from `place` to `high`; where the trees at `place` and a period further are
-- the same, it is `place`.
use native.Mathlib.Omega.{arith}
use mathlib.Core.Path.{◌≡◌}
use mathlib.Core.Bool.{Bool}
use mathlib.Core.List.{List}
use Prim.Native.Nat.{ℕ}
use Rattle.rule.specs.Rule.{Rule}
use Rattle.tree.specs.Inner.Sides.{tree_in}
use Rattle.letters.specs.Inner.Reading.{Readable}
use Rattle.treejudge.specs.Inner.Cycles.{Bracket, Bracketed, EntryBetween}
use Rattle.treejudge.specs.Inner.SameNodes.{same_trees}
use Rattle.treejudge.proofs.SameTrees.{compared}
use Rattle.treejudge.proofs.RoundsRead.{round_reads}
use Rattle.treejudge.proofs.EntrySearch.{entry_here, entry_later, bracket_more}
use Rattle.treejudge.proofs.entry.entry_between.Goals as goal
use Rattle.treejudge.proofs.entry.entry_between.Goals.{At-loop-place, After-same_nodes}

-- the two trees at hand, over the walk that is known
known : (c : At-loop-place) → let args = c.args in
    (R : Rule) × (u : List ℕ) × (entry : ℕ) × (period : ℕ)
    × Bracket R u args.v.now args.lookups.now args.k entry period c.loop-place.place args.high
    (tree_in c.loop-place.here) (tree_in c.loop-place.there)
unfolding Bracketed
known c =
    let (R, u, entry, period, B) = c.requires in
    (R, u, entry, period, c.loop-place.invariant R u entry period B)

-- what the comparison says of them
same : (c : After-same_nodes) → {answer : Bool} → c.same_nodes.result ≡ answer
    → same_trees (tree_in c.loop-place.here) (tree_in c.loop-place.there) ≡ answer
same c = compared (tree_in c.loop-place.here) (tree_in c.loop-place.there) c.nodes.ensures c.nodes-in-loop-place.ensures c.same_nodes.ensures

pub returns-then-same_nodes : goal.returns-then-same_nodes
unfolding EntryBetween
returns-then-same_nodes c R u entry period B =
    entry_here (c.loop-place.invariant R u entry period B)
    (same (goal.at.returns-then-same_nodes c).After-same_nodes c.if-same_nodes.true)

pub returns-then-place-high : goal.returns-then-place-high
unfolding EntryBetween
returns-then-place-high c R u entry period B =
    omega (
      arith,
      entry_later (c.loop-place.invariant R u entry period B)
          (same (goal.at.returns-then-place-high c).After-same_nodes c.if-same_nodes.false),
      B.upto,
    )

pub read_letters-requires : goal.read_letters-requires
unfolding Readable
read_letters-requires c =
    let (R, u, entry, period, N) = known (goal.at.read_letters-requires c).At-loop-place in (R, _, round_reads N.place)

pub read_letters-requires-in-loop-place : goal.read_letters-requires-in-loop-place
unfolding Readable
read_letters-requires-in-loop-place c =
    let (R, u, entry, period, N) = known (goal.at.read_letters-requires-in-loop-place c).At-loop-place in (R, _, round_reads N.ahead)

pub loop-place-preserved : goal.loop-place-preserved
loop-place-preserved c R u entry period B =
    bracket_more (c.loop-place.invariant R u entry period B)
    (same (goal.at.loop-place-preserved c).After-same_nodes c.if-same_nodes.false)
    c.read_letters.ensures c.read_letters-in-loop-place.ensures

pub returns : goal.returns
unfolding EntryBetween
returns c R u entry period B =
    let N = c.loop-place.invariant R u entry period B in
    omega (arith, c.loop-place-test.false, N.from, N.upto)
