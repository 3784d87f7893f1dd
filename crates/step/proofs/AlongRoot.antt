-- The running set along the siblings of a whole tree: one root with all below it.
use mathlib.Core.Path.{◌≡◌, refl, sym, ◌∙◌, ap}
use mathlib.Core.Bool.{true}
use mathlib.Core.List.{List, []}
use Prim.Native.Nat.{ℕ, suc, ◌≤◌}
use native.Mathlib.Omega.{arith}
use lib.ListN.{length, get_or, take}
use Rattle.rule.specs.Rule.{Rule, successors, successors_in}
use Rattle.history.specs.Forest.{nil, node}
use Rattle.history.specs.Tree.{Node, Tree}
use Rattle.history.specs.Letter.{Origin, sprouted, two_steps, three_steps}
use Rattle.history.specs.Inner.OldNumbers.{no_node}
use Rattle.history.proofs.Step.OlderSiblingLaws.{older_labels_same}
use Rattle.history.proofs.Tree.Conditions.{Fits}
use Rattle.tree.specs.Inner.Nodes.{nodes_of}
use Rattle.step.specs.RunningSet.{RunningSet}
use Rattle.step.specs.Inner.Pass.{deepest, closed_to, read_nodes, at_start}
use Rattle.step.proofs.PassTree.{Numbered}
use Rattle.step.proofs.SiblingsInTurn.{siblings_of, siblings_many, sibling_behind, sibling_depth, sibling_set}
use Rattle.step.proofs.AlongSiblings.{CarriesInTurn, along_at, at_level, along_below, along_siblings}

module _ (R : Rule) (a : ℕ) (E : ℕ → ℕ → ℕ) (number : Origin → ℕ) (none : number sprouted ≡ no_node)
    (all : (s : ℕ) → E 0 s ≡ successors R a s)
    (of : (i s : ℕ) → 1 ≤ i → i ≤ R.sets → E i s ≡ successors_in R i a s) where
  -- one root with all below it: at each node after steps 1 and 2
  along_root : (x : Node) (below : Tree) → Fits R.sets (node x below nil) → Numbered number [] 0 1 below
      → CarriesInTurn E R.sets 0 at_start (siblings_of R a (node x below nil))
  unfolding siblings_of
  along_root x below (own, down, on) inner = (
    at_level 0 0 0 0 true [] [] 0 0 refl,
    along_below R a E number none all of [] x below own.from_one own.up_to 0 0 0 refl 0 0 0 true [] [] 0 0 refl
        (λ inside nodes accepting stable deeper. along_siblings R a E number none all of below [] 0 1 0 0 0 0 refl _ true inside nodes accepting stable down inner deeper),
  )

  -- so the running set is the union of the older siblings' labels after step 3, and before these lose states to one another
  pub running_set_root : (x : Node) (below : Tree) → Fits R.sets (node x below nil) → Numbered number [] 0 1 below → (i d : ℕ)
      → length (closed_to d (read_nodes E R.sets 0 at_start (take i (nodes_of (node x below nil))))).levels ≡ suc d
      → RunningSet R a (node x below nil) i d
      (deepest (closed_to d (read_nodes E R.sets 0 at_start (take i (nodes_of (node x below nil))))).levels).running
  unfolding three_steps
  running_set_root x below fits inner i d deep n r =
      let T : Tree = node x below nil in
      let here = along_at E R.sets 0 at_start (siblings_of R a T) (along_root x below fits inner) n
      (omega (arith, r.there, siblings_many R a x below)) in
      let after = (rw (sibling_behind R a x below n, r.behind, sibling_depth R a x below n, r.deep) at here) deep ∙ sibling_set R a x below n in
      record { before = after ∙ ap (λ (l : List ℕ). get_or l n 0) (sym (older_labels_same (two_steps R a T))); after = after }
