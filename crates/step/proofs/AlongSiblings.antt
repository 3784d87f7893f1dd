-- The pass along the siblings of a tree, in the order in which it reaches them: at each of them that it reaches, the running set is the union
-- of the older siblings' labels.
use mathlib.Core.Path.{◌≡◌, refl, ◌∙◌, ap}
use mathlib.Core.Bool.{Bool, true, false}
use mathlib.Core.List.{List, [], ◌∷◌, ◌++◌}
use Prim.Native.Nat.{ℕ, zero, suc, ◌+◌, ◌≤◌, ◌<◌}
use native.Mathlib.Omega.{arith}
use lib.Bits.{bit_or, or_zero_r}
use lib.ListN.{length, get_or, take}
use Rattle.base.proofs.BitSet.{union_assoc}
use Rattle.rule.specs.Rule.{Rule, successors, successors_in}
use Rattle.history.specs.Forest.{nil, node, size}
use Rattle.history.specs.Tree.{Node, Tree}
use Rattle.history.specs.Letter.{Origin, sprouted}
use Rattle.history.specs.Inner.OldNumbers.{no_node}
use Rattle.history.proofs.Step.LocalStep.{new_label}
use Rattle.history.proofs.Step.StepsJoined.{old_node}
use Rattle.history.proofs.Tree.Conditions.{Fits}
use Rattle.tree.specs.Inner.Nodes.{nodes_from}
use Rattle.tree.specs.declared.nodes.Node.{Node as CodeNode}
use Rattle.tree.proofs.TreeNodes.{size_from}
use Rattle.step.specs.declared.pass.NewLabels.{NewLabels}
use Rattle.step.specs.Inner.Pass.{Level, deepest, Pass, closed_to, passed_node, read_node, read_nodes}
use Rattle.step.proofs.PassSteps.{level, pass, none_closed, closed_again, read_skips, read_cons_lem, passed_removed, passed_accepting, passed_kept}
use Rattle.step.proofs.PassNode.{node_at, reads_none, gone, full, made, node_read, pass_branch}
use Rattle.step.proofs.PassTree.{Numbered, pass_siblings}
use Rattle.step.proofs.SiblingsInTurn.{Sibling, old, new, depth_of, set_of, old_nodes, siblings_from, old_from}

-- SIBLINGS IN TURN

-- where the level at depth d is open, its running set is `set`
abbrev pub Carries : Pass → ℕ → ℕ → Type 0
Carries p d set = length (closed_to d p).levels ≡ suc d → (deepest (closed_to d p).levels).running ≡ set

unreached : (p : Pass) (d set : ℕ) → length p.levels ≤ d → Carries p d set
unreached p d set h deep = let same = ap (λ (q : Pass). length q.levels) (none_closed d p (omega arith)) in absurd (omega arith)

module _ (E : ℕ → ℕ → ℕ) (k : ℕ) where
  -- it is so at each of some siblings in turn; old nodes are read on the way
  abbrev pub CarriesInTurn : ℕ → Pass → List Sibling → Type 0
  CarriesInTurn i p [] = Unit {0}
  CarriesInTurn i p (old x set ∷ siblings) = Carries p x.depth set × CarriesInTurn (suc i) (read_node E k i x (closed_to x.depth p)) siblings
  CarriesInTurn i p (new d set ∷ siblings) = Carries p d set × CarriesInTurn i p siblings

  -- some siblings, then some more
  along_append : (i : ℕ) (p : Pass) (l r : List Sibling) → CarriesInTurn i p l
      → CarriesInTurn (i + length (old_nodes l)) (read_nodes E k i p (old_nodes l)) r → CarriesInTurn i p (l ++ r)
  unfolding old_nodes read_nodes
  along_append i p [] r h more = let e : i + 0 ≡ i = omega arith in rw e at more
  along_append i p (old x set ∷ l) r (here, h) more =
      let e : i + suc (length (old_nodes l)) ≡ suc i + length (old_nodes l) = omega arith in
      (here, along_append (suc i) (read_node E k i x (closed_to x.depth p)) l r h (rw e at more))
  along_append i p (new d set ∷ l) r (here, h) more = (here, along_append i p l r h more)

  -- at the one numbered n, once the old nodes before it are read
  pub along_at : (i : ℕ) (p : Pass) (l : List Sibling) → CarriesInTurn i p l → (n : ℕ) → n < length l
      → Carries (read_nodes E k i p (old_nodes (take n l))) (depth_of (get_or l n (new 0 0))) (set_of (get_or l n (new 0 0)))
  unfolding old_nodes read_nodes depth_of set_of
  along_at i p [] h n less = absurd (omega arith)
  along_at i p (old x set ∷ l) (here, h) zero less = here
  along_at i p (new d set ∷ l) (here, h) zero less = here
  along_at i p (old x set ∷ l) (here, h) (suc n) less = along_at (suc i) (read_node E k i x (closed_to x.depth p)) l h n (omega arith)
  along_at i p (new d set ∷ l) (here, h) (suc n) less = along_at i p l h n (omega arith)

  module _ (R : Rule) (a : ℕ) where
    -- deeper levels are closed before the first of some siblings, or have been
    along_closed : (i d held set : ℕ) (p : Pass) (F : Tree) → CarriesInTurn i (closed_to d p) (siblings_from R a d held set F)
        → CarriesInTurn i p (siblings_from R a d held set F)
    unfolding siblings_from
    along_closed i d held set p nil (here, _) = (rw (closed_again d d p (omega arith)) at here, tt)
    along_closed i d held set p (node x below younger) (here, h) =
        let same = closed_again d d p (omega arith) in (rw same at here, rw same at h)

    -- none deeper than the deepest level is reached
    along_none : (i d held set : ℕ) (p : Pass) (F : Tree) → length p.levels ≤ d → CarriesInTurn i p (siblings_from R a d held set F)
    unfolding siblings_from
    along_none i d held set p nil h = (unreached p d set h, tt)
    along_none i d held set p (node x below younger) h =
        let skipped : read_node E k i (node_at d x below) (closed_to d p) ≡ p =
        ap (read_node E k i (node_at d x below)) (none_closed d p (omega arith)) ∙ read_skips E k i p (node_at d x below) h in
        let rest = along_none (suc i + length (old_nodes (siblings_from R a (suc d) held 0 below))) d (bit_or held (new_label R a held x))
        (bit_or set (new_label R a held x)) p younger h in (
          unreached p d set h,
          rw skipped (along_append (suc i) p (siblings_from R a (suc d) held 0 below) _
              (along_none (suc i) (suc d) held 0 p below (omega arith))
              (rw (old_from R a (suc d) held 0 below, reads_none E k (suc i) p (suc d) below (omega arith)) (rw (old_from R a (suc d) held 0 below) at rest))),
        )

-- THE SIBLINGS OF A TREE

-- where the pass stands at siblings, the running set is that of their level
pub at_level : (d above running sprout : ℕ) (b : Bool) (levels : List Level) (nodes : List CodeNode) (accepting stable : ℕ)
    → length levels ≡ d → Carries (pass (level above running sprout b ∷ levels) nodes accepting stable) d running
unfolding deepest
at_level d above running sprout b levels nodes accepting stable deep _ =
    ap (λ (q : Pass). (deepest q.levels).running) (none_closed d (pass (level above running sprout b ∷ levels) nodes accepting stable) (omega arith))

module _ (R : Rule) (a : ℕ) (E : ℕ → ℕ → ℕ) (number : Origin → ℕ) (none : number sprouted ≡ no_node)
    (all : (s : ℕ) → E 0 s ≡ successors R a s)
    (of : (i s : ℕ) → 1 ≤ i → i ≤ R.sets → E i s ≡ successors_in R i a s) where
  -- below a node, given its children
  pub along_below : (v : List ℕ) (x : Node) (below : Tree) → 1 ≤ x.active → x.active ≤ R.sets
      → (held above running : ℕ) → bit_or above running ≡ held → (i d sprout : ℕ) (b : Bool) (levels : List Level) (nodes : List CodeNode)
      (accepting stable : ℕ) → length levels ≡ d
      → ((inner : List Level) (nodes : List CodeNode) (accepting stable : ℕ) → length inner ≡ suc d
      → CarriesInTurn E R.sets (suc i)
      (pass (level (bit_or above running) 0 (successors_in R x.active a x.label) b ∷ inner) nodes accepting stable) (siblings_from R a (suc d) held 0 below))
      → CarriesInTurn E R.sets (suc i)
      (read_node E R.sets i (node_at d x below) (closed_to d (pass (level above running sprout b ∷ levels) nodes accepting stable)))
      (siblings_from R a (suc d) held 0 below)
  along_below v x below low high held above running sum i d sprout b levels nodes accepting stable deep ih =
      rw (node_read R a E number all of v x below low high held above running sum i d sprout b levels nodes accepting stable deep)
      (go (gone R a held v x below) (full R a held v x below) refl refl)
    where
      m : NewLabels
      m = made R a E number all of v x below low high held

      l : Level
      l = level above running sprout b

      go : (g f : Bool) → gone R a held v x below ≡ g → full R a held v x below ≡ f
          → CarriesInTurn E R.sets (suc i) (passed_node R.sets i (node_at d x below) m (pass (l ∷ levels) nodes accepting stable))
          (siblings_from R a (suc d) held 0 below)
      go true f e _ = rw (passed_removed R.sets i (node_at d x below) m l levels nodes accepting stable e)
          (along_none E R.sets R a (suc i) (suc d) held 0 _ below (omega arith))
      go false true e e' = rw (passed_accepting R.sets i (node_at d x below) m l levels nodes accepting stable e e')
          (along_none E R.sets R a (suc i) (suc d) held 0 _ below (omega arith))
      go false false e e' = rw (passed_kept R.sets i (node_at d x below) m l levels nodes accepting stable e e')
          (ih _ _ accepting _ (ap suc deep))

  pub along_siblings : (F : Tree) (p : List ℕ) (c i d held above running : ℕ) → bit_or above running ≡ held → (sprout : ℕ) (b : Bool)
      (levels : List Level) (nodes : List CodeNode) (accepting stable : ℕ)
      → Fits R.sets F → Numbered number p c i F → length levels ≡ suc d
      → CarriesInTurn E R.sets i (pass (level above running sprout b ∷ levels) nodes accepting stable) (siblings_from R a (suc d) held running F)
  unfolding siblings_from
  along_siblings nil p c i d held above running sum sprout b levels nodes accepting stable fits numbered deep =
      (at_level (suc d) above running sprout b levels nodes accepting stable deep, tt)
  along_siblings (node x below younger) p c i d held above running sum sprout b levels nodes accepting stable (own, down, on) (is, inner, after) deep =
      let v : List ℕ = p ++ (c ∷ []) in
      let now : Pass = pass (level above running sprout b ∷ levels) nodes accepting stable in
      let both : bit_or above (bit_or running (new_label R a held x)) ≡ bit_or held (new_label R a held x) =
      union_assoc above running (new_label R a held x) ∙ ap (λ (s : ℕ). bit_or s (new_label R a held x)) sum in (
        at_level (suc d) above running sprout b levels nodes accepting stable deep,
        along_append E R.sets (suc i) _ (siblings_from R a (suc (suc d)) held 0 below) _
            (along_below (p ++ (c ∷ [])) x below own.from_one own.up_to held above running sum i (suc d) sprout b levels nodes accepting stable deep
            (λ inside nodes accepting stable deeper. along_siblings below (p ++ (c ∷ [])) 0 (suc i) (suc d) held (bit_or above running) 0
            (or_zero_r (bit_or above running) ∙ sum) _ b inside nodes accepting stable down inner deeper))
            (rw (old_from R a (suc (suc d)) held 0 below, size_from (suc (suc d)) below)
            (along_closed E R.sets R a (suc i + size below) (suc d) _ _ _ younger
            (rw (
              ← read_cons_lem E R.sets i now (node_at (suc d) x below) (nodes_from (suc (suc d)) below),
              pass_branch R a E number all of v x below own.from_one own.up_to held above running sum i (suc d) sprout b levels nodes
                  accepting stable deep is
                  (λ inside nodes accepting stable deeper. pass_siblings R a E number none all of below v 0 (suc i) (suc d) held (bit_or above running) 0
                  (or_zero_r (bit_or above running) ∙ sum) (old_node v x) b inside nodes accepting stable down inner deeper),
            )
            (along_siblings younger p (suc c) (suc i + size below) d _ above _ both sprout _ levels _ _ _ on after deep)))),
      )
