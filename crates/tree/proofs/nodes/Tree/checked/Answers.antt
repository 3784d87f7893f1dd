-- Question 9 and the tree's nodes, by the laws of NodesOfRecord.
use mathlib.Core.Path.{◌≡◌, refl, sym, ◌∙◌}
use mathlib.Core.List.{List, []}
use mathlib.Core.Bool.{true, ◌&&◌}
use Prim.Native.Nat.{ℕ, ◌+◌, ◌-◌, ◌^◌, ◌≤◌, ◌<◌}
use native.Mathlib.Omega.{arith}
use lib.Count.{ones}
use lib.Dec.{leb}
use lib.ListN.{length, take, drop, length-drop, length-take}
use Rattle.base.proofs.Flattening.{to_end}
use Rattle.history.specs.Inner.RecordChecks.{record_checks}
use Rattle.rule.specs.Limits.{max_sets, max_states}
use Rattle.tree.specs.Inner.Places.{places}
use Rattle.tree.proofs.NodesOfRecord.{passed_long, passed_parts, checked_yes, checked_no, behind_first, limits_no, limits_fit, limits_yes}
use Rattle.tree.proofs.nodes.Tree.checked.Goals as goal
use Rattle.tree.proofs.nodes.Tree.checked.Goals.{After-from-map, then-not-within_limits-via-then-not-within_limits, then-not-within_limits-via-else-not-within_limits+then-not-record_fits}

-- n and k are within the limits
fit : (n k : ℕ) → (leb n max_states && leb k max_sets) ≡ true → (n ≤ max_states) × (k < 16)
fit n k within = limits_fit n k [] within

pub returns-then-not-within_limits : goal.returns-then-not-within_limits
returns-then-not-within_limits c =
    let args = c.args in
    let bytes = args.bytes.now in
    elim c.then-not-within_limits.branch [
      | then-not-within_limits-via-then-not-within_limits w ↦
          rw (limits_no args.n args.k bytes (sym c.within_limits.ensures ∙ w.if-not-within_limits.true)) c.no_record.ensures
      | then-not-within_limits-via-else-not-within_limits+then-not-record_fits w ↦
          let within = sym c.within_limits.ensures ∙ w.if-not-within_limits.false in
          rw (limits_yes args.n args.k bytes within, checked_no args.n args.k bytes (fit args.n args.k within).1 (sym w.record_fits.ensures ∙ w.if-not-record_fits.true))
          c.no_record.ensures
    ]

-- once the bytes have passed
module _ (c : After-from-map) where
  abbrev bytes : List ℕ
  bytes = c.args.bytes.now

  abbrev map : ℕ
  map = c.from-map.result

  abbrev hosts : List ℕ
  hosts = take (1 + ones map - 1) (drop 1 bytes)

  abbrev tags : List ℕ
  tags = take (length bytes - (1 + ones map)) (drop (1 + ones map) bytes)

  within : (leb c.args.n max_states && leb c.args.k max_sets) ≡ true
  within = sym c.within_limits.ensures ∙ c.if-not-within_limits.false

  passed : record_checks c.args.n c.args.k bytes ≡ true
  passed = sym c.record_fits.ensures ∙ c.if-not-record_fits.false

  -- they have a map and a host for each of its states
  long : 1 + ones map ≤ length bytes
  long = passed_long _ _ bytes (fit c.args.n c.args.k within).1 map c.from-map.ensures passed

  parts : (map < 2 ^ c.args.n) × ((ones map ≤ length hosts) × (length tags ≤ c.args.n))
  parts = passed_parts _ _ bytes (fit c.args.n c.args.k within).1 map c.from-map.ensures passed hosts tags (behind_first (ones map) bytes) (to_end (1 + ones map) bytes)

  -- and no more tags than there are states
  few : length bytes - (1 + ones map) ≤ places
  few = omega (arith, parts.1.1, (fit c.args.n c.args.k within).0, length-take (length bytes - (1 + ones map)) (drop (1 + ones map) bytes), length-drop (1 + ones map) bytes)

pub bounds-bytes-0 : goal.bounds-bytes-0
bounds-bytes-0 c =
    omega (
      arith,
      passed_long c.args.n c.args.k c.args.bytes.now (fit c.args.n c.args.k (sym c.within_limits.ensures ∙ c.if-not-within_limits.false)).1 _ refl
          (sym c.record_fits.ensures ∙ c.if-not-record_fits.false),
    )

pub overflow_sub-count : goal.overflow_sub-count
overflow_sub-count c =
    long (goal.at.overflow_sub-count c).After-from-map

pub slice_bounds-record_nodes-end : goal.slice_bounds-record_nodes-end
slice_bounds-record_nodes-end c =
    omega (arith, long (goal.at.slice_bounds-record_nodes-end c).After-from-map)

pub slice_bounds-record_nodes-start-2 : goal.slice_bounds-record_nodes-start-2
slice_bounds-record_nodes-start-2 c =
    omega (arith, long (goal.at.slice_bounds-record_nodes-start-2 c).After-from-map)

pub slice_bounds-record_nodes-count-2 : goal.slice_bounds-record_nodes-count-2
slice_bounds-record_nodes-count-2 c =
    long (goal.at.slice_bounds-record_nodes-count-2 c).After-from-map

pub record_nodes-nodes-requires : goal.record_nodes-nodes-requires
record_nodes-nodes-requires c =
    let q = (goal.at.record_nodes-nodes-requires c).After-from-map in
    let (small, (many, few)) = parts q in
    let most = (fit c.args.n c.args.k (within q)).0 in
    ((omega arith, (small, many)), omega arith)

pub invariant_of-result : goal.invariant_of-result
invariant_of-result c =
    record { within = few (goal.at.invariant_of-result c).After-from-map }

pub returns : goal.returns
returns c =
    let q = (goal.at.returns c).After-from-map in
    rw (limits_yes _ _ (bytes q) (within q))
    (checked_yes _ _ (bytes q) (fit c.args.n c.args.k (within q)).1 _ c.from-map.ensures (passed q)
    (hosts q) (tags q) _ (behind_first _ (bytes q)) (to_end _ (bytes q)) c.record_nodes-nodes.ensures _)
