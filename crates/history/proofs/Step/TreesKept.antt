-- Trees stay trees: the starting tree is one, and so is what the local step makes of one, the dead tree included.
-- A tree has at most as many nodes as there are states.
use mathlib.Core.Path.{◌≡◌, refl, sym, ◌∙◌}
use mathlib.Core.Logic.{⊎_elim}
use mathlib.Core.Bool.{Bool, true, false, not, ◌||◌, cond}
use Prim.Native.Nat.{ℕ, suc, ◌≤◌, ◌<◌, ◌^◌}
use native.Mathlib.Omega.{arith}
use borrow.Author.Tests.{eqb-false, ltb-true}
use lib.Bits.{bit_or, or_zero_r}
use lib.Count.{ones-le}
use lib.Dec.{eqb, ltb}
use Rattle.base.specs.BitSet.{member, minus, Subset, collect}
use Rattle.base.proofs.Logic.{clash, never, and_both, and_in, not_in, or_in, or_r}
use Rattle.base.proofs.BitSet.{member_none, member_union, member_minus}
use Rattle.rule.specs.Rule.{Rule, successors, successors_in}
use Rattle.rule.specs.WellFormed.{WellFormed, start_fits}
use Rattle.history.specs.Forest.{nil, node, size}
use Rattle.history.specs.Tree.{Node, Tree, labels, is_tree, start_tree}
use Rattle.history.specs.Letter.{next_set, next_tree, by_number, accepting_map, stable_map}
use Rattle.history.proofs.Step.LocalStep.{settled, settle, new_label, sprout_of, step}
use Rattle.history.proofs.Tree.SetFacts.{nothing_minus, subset_proper, none_proper}
use Rattle.history.proofs.Tree.Hosts.{size_labels}
use Rattle.history.proofs.Tree.Conditions.{Fits, OneRoot, IsTree, tree_out}
use Rattle.history.proofs.Step.LabelsOfStep.{successors_subset, successors_in_subset, successors_lt, labels_step, labels_next}
use Rattle.history.proofs.Step.StepsJoined.{next_tree_step}

-- ONE LETTER

-- active sets stay 1 to k
next_set_lem : (k i : ℕ) → 1 ≤ k → (1 ≤ next_set k i) × (next_set k i ≤ k)
unfolding next_set
next_set_lem k i pos = go (ltb i k) refl
  where
    go : (b : Bool) → ltb i k ≡ b → (1 ≤ cond b (suc i) 1) × (cond b (suc i) 1 ≤ k)
    go true e = let small = ltb-true i k e in (omega arith, omega arith)
    go false e = (omega arith, pos)

-- step 4 at a node whose children are inside it leaves what fits
fits_settle : (k : ℕ) (x : Node) (below younger : Tree) → 1 ≤ k → (1 ≤ x.active) × (x.active ≤ k)
    → Subset (labels below) x.label → ((q : ℕ) → member x.label q ≡ true → member (labels younger) q ≡ false)
    → Fits k below → Fits k younger → Fits k (settle k x below younger)
unfolding settle settled labels
fits_settle k x below younger pos set sub apart down on = go (eqb x.label 0) (eqb x.label (labels below)) refl refl
  where
    go : (gone full : Bool) → eqb x.label 0 ≡ gone → eqb x.label (labels below) ≡ full → Fits k (settled k gone full x below younger)
    go true full e f = on
    go false true e f = let some = eqb-false x.label 0 e in let (low, high) = next_set_lem k x.active pos in
        (record { nonempty = some; from_one = low; up_to = high; apart = apart; inside = none_proper x.label some }, tt, on)
    go false false e f = (
      record {
        nonempty = eqb-false x.label 0 e;
        from_one = set.0;
        up_to = set.1;
        apart = apart;
        inside = subset_proper (labels below) x.label sub (λ same. eqb-false x.label (labels below) f (sym same));
      },
      down,
      on,
    )

module _ (R : Rule) (a : ℕ) where
  -- the new children are inside the new label, and the younger siblings outside it
  children_inside : (older : ℕ) (x : Node) (below : Tree) → Subset (labels below) x.label
      → Subset (labels (step R a older (sprout_of R a x) below)) (new_label R a older x)
  unfolding new_label sprout_of
  children_inside older x below sub q m =
      let (from, free) = and_in (member (successors R a (labels below)) q || member (successors_in R x.active a x.label) q) _
      (sym (labels_step R a older (sprout_of R a x) below q) ∙ m) in
      let reached = ⊎_elim (successors_subset R a (labels below) x.label sub q) (successors_in_subset R x.active a x.label q)
      (or_in (member (successors R a (labels below)) q) _ from) in
      member_minus (successors R a x.label) older q ∙ and_both (member (successors R a x.label) q) (not (member older q)) reached free

  siblings_outside : (older sprout new : ℕ) (younger : Tree) (q : ℕ) → member new q ≡ true
      → member (labels (step R a (bit_or older new) sprout younger)) q ≡ false
  siblings_outside older sprout new younger q m = never _ (λ h.
      let (from, free) = and_in (member (successors R a (labels younger)) q || member sprout q) _
      (sym (labels_step R a (bit_or older new) sprout younger q) ∙ h) in
      clash (not_in (member (bit_or older new) q) free) (member_union older new q ∙ or_r (member older q) (member new q) m))

  -- siblings that fit still do after a letter
  pub fits_step : 1 ≤ R.sets → (older sprout : ℕ) (T : Tree) → Fits R.sets T → Fits R.sets (step R a older sprout T)
  unfolding step labels
  fits_step pos older sprout nil h =
      fits_settle R.sets _ nil nil pos (omega arith, pos) (λ q m. clash (member_none q) m) (λ q m. member_none q) tt tt
  fits_step pos older sprout (node x below younger) (own, down, on) =
      fits_settle R.sets _ _ _ pos (own.from_one, own.up_to) (children_inside older x below own.inside.0)
      (siblings_outside older sprout (new_label R a older x) younger)
      (fits_step pos older (sprout_of R a x) below down) (fits_step pos (bit_or older (new_label R a older x)) sprout younger on)

  -- nothing comes of nothing: an empty sprout leaves no node, so one root stays one root
  step_none : (older : ℕ) → step R a older 0 nil ≡ nil
  unfolding step settle settled
  step_none older = rw nothing_minus

  one_root_step : (T : Tree) → OneRoot T → OneRoot (step R a 0 0 T)
  unfolding step settle settled minus
  one_root_step nil one = tt
  one_root_step (node x below nil) one = rw (step_none (bit_or 0 (new_label R a 0 x))) (
      root (eqb (new_label R a 0 x) 0) (eqb (new_label R a 0 x) (labels B)))
    where
      B : Tree
      B = step R a 0 (sprout_of R a x) below

      root : (gone full : Bool) → OneRoot (settled R.sets gone full (record { label = new_label R a 0 x; active = x.active }) B nil)
      root true full = tt
      root false true = tt
      root false false = tt
  one_root_step (node x below (node y other younger)) one = absurd one

  -- the states after a letter are states of the rule
  labels_lt : (T : Tree) → labels (step R a 0 0 T) < 2 ^ R.states
  labels_lt T = rw (labels_next R a T) (successors_lt R a (labels T))

-- THE TREES

-- the local step of a tree is a tree
pub step_fits : (R : Rule) (a : ℕ) → 1 ≤ R.sets → (T : Tree) → IsTree R.states R.sets T
    → IsTree R.states R.sets (step R a 0 0 T)
step_fits R a pos T tree = record {
  one_root = one_root_step R a T tree.one_root;
  states = labels_lt R a T;
  fits = fits_step R a pos 0 0 T tree.fits;
}

-- the starting tree is a tree
pub start_fits_lem : (R : Rule) → WellFormed R → 1 ≤ R.sets → IsTree R.states R.sets (start_tree R)
unfolding start_tree start_fits labels
start_fits_lem R well pos =
    let (full, small) = and_in (not (eqb R.start 0)) _ well.starts in
    let some = eqb-false R.start 0 (not_in _ full) in
    record {
      one_root = tt;
      states = rw or_zero_r (ltb-true R.start (2 ^ R.states) small);
      fits = (
        record { nonempty = some; from_one = omega arith; up_to = pos; apart = λ q h. member_none q; inside = none_proper R.start some },
        tt,
        tt,
      );
    }

-- "The dead tree steps to itself, both maps 0."
pub dead_next : (R : Rule) (a : ℕ) → next_tree R a nil ≡ nil
dead_next R a = next_tree_step R a nil tt ∙ step_none R a 0

pub dead_accepting : (R : Rule) (a : ℕ) → accepting_map R a nil ≡ 0
unfolding accepting_map by_number size collect
dead_accepting R a = refl

pub dead_stable : (R : Rule) (a : ℕ) → stable_map R a nil ≡ 0
unfolding stable_map by_number size collect
dead_stable R a = refl

-- THE NUMBER OF NODES

-- a tree over n states has at most n nodes
pub few_nodes : (n k : ℕ) (T : Tree) → is_tree n k T ≡ true → size T ≤ n
few_nodes n k T h = let tree = tree_out n k T h in
    omega (arith, size_labels k T tree.fits, ones-le n (labels T) tree.states)
