-- From a loop to a witness: follow the lead and the loop until the trees repeat, and then tree and state return
-- together, after p turns of the loop. The root holds the run's state at every letter; below it there is a name that is
-- kept at every letter and accepts at one, and by periodicity so it is in rounds e+1 to e+p.
use mathlib.Core.Path.{◌≡◌, refl, ◌∙◌}
use mathlib.Core.Bool.{true}
use mathlib.Core.List.{List}
use Prim.Native.Nat.{ℕ, zero, suc, ◌+◌, ◌*◌, ◌-◌, ◌≤◌}
use native.Mathlib.Omega.{arith}
use native.Mathlib.Nat.{add-suc, add-zero, mul-le-mul_left, mul-le-mul_right}
use lib.Bits.{bit_or, or_zero_r}
use lib.ListN.{length}
use Rattle.base.specs.BitSet.{member}
use Rattle.rule.specs.Rule.{Rule, edge_in}
use Rattle.rule.specs.WellFormed.{WellFormed}
use Rattle.word.specs.Walk.{letter_at}
use Rattle.word.specs.Lasso.{Lasso}
use Rattle.history.specs.Forest.{nil, node}
use Rattle.history.specs.Tree.{Tree, labels}
use Rattle.history.specs.Rounds.{round_tree, FirstRepeat}
use Rattle.history.specs.Verdict.{Witness}
use Rattle.history.proofs.Tree.Conditions.{OneRoot}
use Rattle.history.proofs.Names.StableNames.{stable_local}
use Rattle.history.proofs.Names.AcceptingNames.{accepting_local}
use Rattle.history.proofs.Step.OneNode.{place_of}
use Rattle.history.proofs.Theorem.Siblings.{LocalWitness, run_named}
use Rattle.history.proofs.Walk.Stretches.{stretch_lead}
use Rattle.history.proofs.Walk.TreesOfWalk.{tree_at}
use Rattle.history.proofs.Walk.WitnessByPosition.{stable_at, lasts_witness}
use Rattle.history.proofs.Walk.AroundLoop.{leads_into, Around, around}
use Rattle.history.proofs.Walk.StatesOfTrees.{is_tree_at, tree_next, state_held}

-- what a tree holds its root holds
place_root : (q : ℕ) (T : Tree) → OneRoot T → member (labels T) q ≡ true → place_of q T ≡ 0
unfolding place_of labels
place_root q nil one h = refl
place_root q (node x below nil) one h = let m : member x.label q ≡ true = rw or_zero_r at h in rw m
place_root q (node x below (node y other younger)) one h = absurd one

module _ (R : Rule) (well : WellFormed R) (sets : 1 ≤ R.sets) (u v : List ℕ) (filled : 1 ≤ length v)
    (entry period : ℕ) (F : FirstRepeat (round_tree R u v) entry period) (L : Lasso R u v) where
  -- the rounds until the trees repeat, in full turns of the loop
  before : ℕ
  before = L.lead + suc entry * L.turns

  begin : ℕ
  begin = length u + before * length v

  late : entry ≤ before
  unfolding before
  late = omega (arith, mul-le-mul_left (suc entry) L.positive)

  -- the run on the loop
  run : Around R R u v before L.state L.loop_sets
  run = around u v filled L.turns L.positive before R R entry period F late L.state L.loop_sets L.loops

  takes : (i : ℕ) → 1 ≤ i → i ≤ R.sets
      → (d : ℕ) × (edge_in R.grid i (letter_at u v (begin + d)) (run.state d) (run.state (suc d)) ≡ true)
  unfolding begin
  takes zero low high = absurd (omega arith)
  takes (suc i) low high = run.takes i (L.every i high)

  -- it is in the tree
  begins : member (labels (tree_at R u v (begin + 0))) (run.state 0) ≡ true
  unfolding begin before
  begins = rw (run.begins, add-zero)
      (state_held R well sets u v (length u + before * length v) L.origin (bit_or L.lead_sets L.loop_sets) L.state L.starts
      (rw (stretch_lead u v filled before) (leads_into R u v L.lead L.turns L.origin L.lead_sets L.state L.loop_sets
      L.leads L.loops (suc entry) (omega arith))))

  -- so some name is kept and accepts
  named : (w : List ℕ) × LocalWitness R (λ d. letter_at u v (begin + d)) (λ d. tree_at R u v (begin + d)) 0 w
  unfolding begin
  named = let tree = is_tree_at R well sets u v (begin + 0) in
      rw (place_root (run.state 0) (tree_at R u v (begin + 0)) tree.one_root begins) at
      (run_named R (λ d. letter_at u v (begin + d)) (λ d. 0) (λ d. tree_at R u v (begin + d))
      (λ d. rw add-suc (tree_next R well sets u v (begin + d))) well tree.fits run.period run.positive run.letter_back
      run.tree_back run.state run.moves run.state_back takes begins)

  pub lasso_witness : (w : List ℕ) × Witness R u v entry period w
  unfolding begin
  lasso_witness = let (w, N) = named in (w, witness w N)
    where
      witness : (w : List ℕ) → LocalWitness R (λ d. letter_at u v (begin + d)) (λ d. tree_at R u v (begin + d)) 0 w → Witness R u v entry period w
      witness w N =
          let p : ℕ = begin + N.place in
          lasts_witness R u v filled entry period F entry (omega arith) w begin stays p (omega (arith, mul-le-mul_right (length v) late))
          (accepting_local R (letter_at u v p) (tree_at R u v p) (is_tree_at R well sets u v p).one_root w (stays p (omega arith)) ∙ N.accepts)
        where
          -- kept at each position from there on
          stays : (p : ℕ) → begin ≤ p → stable_at R u v w p ≡ true
          stays p h =
              let e : begin + (p - begin) ≡ p = omega arith in
              stable_local R (letter_at u v p) (tree_at R u v p) (is_tree_at R well sets u v p).one_root w ∙ (rw e at (N.stays (p - begin)))
