-- `find_cycle` meets its contract, by the laws of CycleSearch. The loop ends, since power + lam grows.
use native.Mathlib.Omega.{arith}
use mathlib.Core.Path.{◌≡◌, ap}
use mathlib.Core.Bool.{Bool}
use mathlib.Core.List.{List}
use Prim.Native.Nat.{ℕ}
use Rattle.rule.specs.Rule.{Rule}
use Rattle.tree.specs.Inner.Sides.{tree_in}
use Rattle.tree.specs.declared.nodes.Tree.{Tree as CodeTree}
use Rattle.letters.specs.Inner.Names.{Followable}
use Rattle.treejudge.specs.Inner.Cycles.{FirstRound, CycleFound}
use Rattle.treejudge.specs.Inner.SameNodes.{same_trees}
use Rattle.treejudge.proofs.SameTrees.{compared}
use Rattle.treejudge.proofs.RoundsRead.{round_small}
use Rattle.treejudge.proofs.CycleSearch.{Searching, search_start, search_follows, lam_fits, search_measure, search_next, search_found, search_more, power_fits, search_reset}
use Rattle.treejudge.proofs.cycle.find_cycle.Goals as goal
use Rattle.treejudge.proofs.cycle.find_cycle.Goals.{At-loop-buffer, After-same_nodes}

-- the search over the rule and the lead-in that are known
search-known : (c : At-loop-buffer) → let args = c.args in (R : Rule) × (u : List ℕ)
    × Searching R u args.v.now args.lookups.now args.k c.loop-buffer.saved c.loop-buffer.before c.loop-buffer.half c.loop-buffer.power
    c.loop-buffer.lam (tree_in c.loop-buffer.buffer) c.loop-buffer.maps
unfolding FirstRound
search-known c = let (R, u, A) = c.requires in (R, u, c.loop-buffer.invariant R u A)

-- what the comparison says of the saved tree and the one reached
same : (c : After-same_nodes) → {answer : Bool} → c.same_nodes.result ≡ answer
    → same_trees c.loop-buffer.saved (tree_in c.follow_letters-maps.new.buffer) ≡ answer
same c = compared c.loop-buffer.saved (tree_in c.follow_letters-maps.new.buffer) c.nodes.ensures c.nodes-in-loop-buffer.ensures c.same_nodes.ensures

pub begin-maps-requires : goal.begin-maps-requires
unfolding FirstRound
begin-maps-requires c =
    let (R, u, A) = c.requires in
    omega (arith, ap (λ (x : CodeTree). x.count) c.laid-buffer.ensures.tree, round_small A)

pub loop-buffer-init : goal.loop-buffer-init
loop-buffer-init c R u A =
    rw c.begin-maps.ensures (search_start A (tree_in c.laid-buffer.result) c.laid-buffer.ensures.tree)

pub follow_letters-maps-requires : goal.follow_letters-maps-requires
unfolding Followable
follow_letters-maps-requires c =
    let (R, u, S) = search-known (goal.at.follow_letters-maps-requires c).At-loop-buffer in (R, _, _, search_follows S)

pub overflow_add-lam : goal.overflow_add-lam
overflow_add-lam c =
    let (R, u, S) = search-known (goal.at.overflow_add-lam c).At-loop-buffer in omega (arith, lam_fits S)

pub returns-then-same_nodes : goal.returns-then-same_nodes
unfolding CycleFound
returns-then-same_nodes c R u entry period A F =
    search_found (c.loop-buffer.invariant R u A) _ _ c.follow_letters-maps.ensures
    (same (goal.at.returns-then-same_nodes c).After-same_nodes c.if-same_nodes.true) entry period F

pub taken-saved-requires : goal.taken-saved-requires
taken-saved-requires c =
    let (R, u, S) = search-known (goal.at.taken-saved-requires c).At-loop-buffer in
    record { rule = R; tree = _; holds = (search_next S _ _ c.follow_letters-maps.ensures).tree }

pub overflow_add-power : goal.overflow_add-power
overflow_add-power c =
    let (R, u, S) = search-known (goal.at.overflow_add-power c).At-loop-buffer in
    omega (
      arith,
      power_fits S _ _ c.follow_letters-maps.ensures (same (goal.at.overflow_add-power c).After-same_nodes c.if-same_nodes.false) c.if-lam-power.true,
    )

pub begin-maps-requires-then-lam-power : goal.begin-maps-requires-then-lam-power
begin-maps-requires-then-lam-power c =
    let (R, u, S) = search-known (goal.at.begin-maps-requires-then-lam-power c).At-loop-buffer in
    round_small (search_next S _ _ c.follow_letters-maps.ensures)

pub loop-buffer-smaller-then-lam-power : goal.loop-buffer-smaller-then-lam-power
loop-buffer-smaller-then-lam-power c =
    let (R, u, S) = search-known (goal.at.loop-buffer-smaller-then-lam-power c).At-loop-buffer in omega (arith, search_measure S)

pub loop-buffer-preserved-then-lam-power : goal.loop-buffer-preserved-then-lam-power
loop-buffer-preserved-then-lam-power c R u A =
    rw (c.begin-maps-then-lam-power.ensures, c.taken-saved.ensures)
    (search_reset (c.loop-buffer.invariant R u A) _ _ c.follow_letters-maps.ensures
    (same (goal.at.loop-buffer-preserved-then-lam-power c).After-same_nodes c.if-same_nodes.false) c.if-lam-power.true)

pub loop-buffer-smaller : goal.loop-buffer-smaller
loop-buffer-smaller c =
    let (R, u, S) = search-known (goal.at.loop-buffer-smaller c).At-loop-buffer in omega (arith, search_measure S)

pub loop-buffer-preserved : goal.loop-buffer-preserved
loop-buffer-preserved c R u A =
    search_more (c.loop-buffer.invariant R u A) _ _ c.follow_letters-maps.ensures
    (same (goal.at.loop-buffer-preserved c).After-same_nodes c.if-same_nodes.false) c.if-lam-power.false
