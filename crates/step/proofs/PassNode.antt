-- The pass over one node and all below it, given the pass over its children.
use mathlib.Core.Path.{◌≡◌, refl, sym, ◌∙◌, ap}
use mathlib.Core.Bool.{Bool, true, false, not, ◌&&◌, cond}
use mathlib.Core.List.{List, [], ◌∷◌, ◌++◌, append_assoc, append-nil}
use Prim.Native.Nat.{ℕ, suc, ◌+◌, ◌^◌, ◌≤◌}
use native.Mathlib.Omega.{arith}
use borrow.Author.Tests.{eqb-true}
use lib.Bits.{bit_or, or_zero_r}
use lib.Dec.{eqb}
use lib.ListN.{length}
use Rattle.base.specs.BitSet.{member, minus}
use Rattle.base.proofs.BitSet.{member_union, member_minus, set_ext, union_assoc}
use Rattle.rule.specs.Rule.{Rule, successors, successors_in}
use Rattle.history.specs.Forest.{Forest, nil, node}
use Rattle.history.specs.Tree.{Node, Tree, labels}
use Rattle.history.specs.Letter.{Origin, was, Grown, child}
use Rattle.history.proofs.Step.LocalStep.{new_label, sprout_of, new_below, accepts, step}
use Rattle.history.proofs.Step.LabelsOfStep.{labels_step}
use Rattle.history.proofs.Step.StepsJoined.{plain, earlier_node, grown, advanced, grown_step, old_node, begun_from, earlier_begun_from}
use Rattle.tree.specs.Inner.Nodes.{nodes_from}
use Rattle.tree.specs.declared.nodes.Node.{Node as CodeNode}
use Rattle.step.specs.Inner.Pass.{new_labels, Level, joined_if, deepest, Pass, closed_to, passed_node, read_node, read_nodes}
use Rattle.step.specs.declared.pass.NewLabels.{NewLabels}
use Rattle.step.proofs.PassSteps.{level, pass, none_closed, read_skips, read_deepest, read_nil, read_cons_lem, read_append, passed_removed, passed_accepting, passed_kept}
use Rattle.step.proofs.GrownNodes.{grown_nodes, accepting_of, stable_of, nodes_here, accepting_here, stable_here}

-- a node at depth d, as the code has it
abbrev pub node_at : ℕ → Node → Tree → CodeNode
node_at d x below = record { depth = d; label = x.label; kids = labels below; active = x.active; old = 0 }

-- the union of the new children's labels is known from the old ones
labels_below : (R : Rule) (a held sprout : ℕ) (F : Tree)
    → labels (step R a held sprout F) ≡ minus (bit_or (successors R a (labels F)) sprout) held
labels_below R a held sprout F = set_ext _ _ (λ q. labels_step R a held sprout F q
    ∙ sym (member_minus (bit_or (successors R a (labels F)) sprout) held q ∙ ap (λ (b : Bool). b && not (member held q))
    (member_union (successors R a (labels F)) sprout q)))

-- a pass goes over nodes that are deeper than its levels
pub reads_none : (E : ℕ → ℕ → ℕ) (k i : ℕ) (p : Pass) (d : ℕ) (F : Tree) → length p.levels ≤ d → read_nodes E k i p (nodes_from d F) ≡ p
unfolding nodes_from
reads_none E k i p d nil h = read_nil E k i p
reads_none E k i p d (node x below younger) h =
    let same : read_node E k i (node_at d x below) (closed_to d p) ≡ p =
    ap (read_node E k i (node_at d x below)) (none_closed d p (omega arith)) ∙ read_skips E k i p (node_at d x below) h in
    read_cons_lem E k i p (node_at d x below) (nodes_from (suc d) below ++ nodes_from d younger)
    ∙ rw (same, read_append E k (suc i) p (nodes_from (suc d) below) (nodes_from d younger), reads_none E k (suc i) p (suc d) below (omega arith))
    (reads_none E k (suc i + length (nodes_from (suc d) below)) p d younger h)

passes_none : (E : ℕ → ℕ → ℕ) (k i : ℕ) (p : Pass) (d : ℕ) (F : Tree) → length p.levels ≤ suc d
    → closed_to d (read_nodes E k i p (nodes_from (suc d) F)) ≡ p
passes_none E k i p d F h = ap (closed_to d) (reads_none E k i p (suc d) F h) ∙ none_closed d p h

-- what is joined to a map
joined_or : (map i : ℕ) (b : Bool) → joined_if map i b ≡ bit_or map (cond b (2 ^ i) 0)
unfolding joined_if
joined_or map i true = refl
joined_or map i false = sym (or_zero_r map)

joined_more : (map i more : ℕ) (b : Bool) → bit_or (joined_if map i b) (cond b more 0) ≡ bit_or map (cond b (bit_or (2 ^ i) more) 0)
unfolding joined_if
joined_more map i more true = sym (union_assoc map (2 ^ i) more)
joined_more map i more false = refl

pub cond_none : (b : Bool) → ◌≡◌ {A = ℕ} (cond b 0 0) 0
cond_none true = refl
cond_none false = refl

-- the old node named v after steps 1 to 3, where older nodes hold some states; its new children; and step 4's two tests of it
module _ (R : Rule) (a held : ℕ) (v : List ℕ) (x : Node) (below : Tree) where
  abbrev pub here : Grown
  here = advanced R a held (old_node v x)

  abbrev pub new_kids : Forest Grown
  new_kids = grown R a held (child R a (old_node v x)) (begun_from v 0 below)

  abbrev pub gone : Bool
  gone = eqb (new_label R a held x) 0

  abbrev pub full : Bool
  full = eqb (new_label R a held x) (labels (plain new_kids))

  pub full_is : accepts R a held (record { top = x; below = below }) ≡ full
  unfolding accepts new_below child old_node sprout_of
  full_is = rw (grown_step R a held (child R a (old_node v x)) (begun_from v 0 below) refl, earlier_begun_from v 0 below)

module _ (R : Rule) (a : ℕ) (E : ℕ → ℕ → ℕ) (number : Origin → ℕ) where
  -- the pass over siblings below depth d, and over all below them: then their level is closed
  abbrev pub Passes : Tree → List ℕ → ℕ → ℕ → ℕ → ℕ → ℕ → ℕ → Grown → Bool → List Level → List CodeNode → ℕ → ℕ → Type 0
  Passes F p c i d held above running y b levels nodes accepting stable =
      closed_to d (read_nodes E R.sets i (pass (level above running (child R a y).label b ∷ levels) nodes accepting stable) (nodes_from (suc d) F))
      ≡ pass levels (nodes ++ grown_nodes number (suc d) (grown R a held (child R a y) (begun_from p c F)))
      (bit_or accepting (accepting_of number (grown R a held (child R a y) (begun_from p c F))))
      (bit_or stable (cond b (stable_of number p c (grown R a held (child R a y) (begun_from p c F))) 0))

module _ (R : Rule) (a : ℕ) (E : ℕ → ℕ → ℕ) (number : Origin → ℕ)
    (all : (s : ℕ) → E 0 s ≡ successors R a s)
    (of : (i s : ℕ) → 1 ≤ i → i ≤ R.sets → E i s ≡ successors_in R i a s) where
  module _ (v : List ℕ) (x : Node) (below : Tree) (low : 1 ≤ x.active) (high : x.active ≤ R.sets) (held : ℕ) where
    abbrev pub N : Grown
    N = here R a held v x below

    abbrev pub B : Forest Grown
    B = new_kids R a held v x below

    abbrev pub made : NewLabels
    made = record { label = new_label R a held x; kids = labels (plain B); sprout = successors_in R x.active a x.label }

    -- steps 1 to 3 at it
    made_node : (d : ℕ) → new_labels E (node_at d x below) held ≡ made
    unfolding new_labels new_label child old_node
    made_node d = rw (
      all x.label,
      all (labels below),
      of x.active x.label low high,
      grown_step R a held (child R a (old_node v x)) (begun_from v 0 below) refl,
      earlier_begun_from v 0 below,
      labels_below R a held (successors_in R x.active a x.label) below,
    )

    abbrev pub g : Bool
    g = gone R a held v x below

    abbrev pub f : Bool
    f = full R a held v x below

    module _ (above running : ℕ) (sum : bit_or above running ≡ held) (i d sprout : ℕ) (b : Bool) (levels : List Level)
        (nodes : List CodeNode) (accepting stable : ℕ) (deep : length levels ≡ d) where
      abbrev now : Pass
      now = pass (level above running sprout b ∷ levels) nodes accepting stable

      -- it is read,
      pub node_read : read_node E R.sets i (node_at d x below) (closed_to d now) ≡ passed_node R.sets i (node_at d x below) made now
      unfolding deepest
      node_read = rw (none_closed d now (omega arith), read_deepest E R.sets i now (node_at d x below) (ap suc deep), sum, made_node d)

      -- and all below it, given the pass over its children
      pub pass_branch : number (was v) ≡ i
          → ((inner : List Level) (nodes : List CodeNode) (accepting stable : ℕ) → length inner ≡ suc d
          → Passes R a E number below v 0 (suc i) d held (bit_or above running) 0 (old_node v x) b inner nodes accepting stable)
          → closed_to d (read_nodes E R.sets i now (node_at d x below ∷ nodes_from (suc d) below))
          ≡ pass (level above (bit_or running (new_label R a held x)) sprout (cond g false b) ∷ levels)
          (nodes ++ nodes_here number R.sets d g f N B)
          (bit_or accepting (accepting_here number R.sets g f N B))
          (bit_or stable (cond b (stable_here number R.sets v g f N B) 0))
      unfolding nodes_here accepting_here stable_here advanced child old_node earlier_node
      pass_branch own ih = rw (read_cons_lem E R.sets i now (node_at d x below) (nodes_from (suc d) below), node_read) (go g f refl refl)
        where
          go : (g' f' : Bool) → g ≡ g' → f ≡ f'
              → closed_to d (read_nodes E R.sets (suc i) (passed_node R.sets i (node_at d x below) made now) (nodes_from (suc d) below))
              ≡ pass (level above (bit_or running (new_label R a held x)) sprout (cond g' false b) ∷ levels)
              (nodes ++ nodes_here number R.sets d g' f' N B)
              (bit_or accepting (accepting_here number R.sets g' f' N B))
              (bit_or stable (cond b (stable_here number R.sets v g' f' N B) 0))
          go true f' e _ =
              rw (
                passed_removed R.sets i (node_at d x below) made (level above running sprout b) levels nodes accepting stable e,
                eqb-true (new_label R a held x) 0 e,
                or_zero_r running,
                append-nil nodes,
                or_zero_r accepting,
                cond_none b,
                or_zero_r stable,
              )
              (passes_none E R.sets (suc i) _ d below (omega arith))
          go false true e e' =
              rw (
                passed_accepting R.sets i (node_at d x below) made (level above running sprout b) levels nodes accepting stable e e',
                own,
                joined_or stable i b,
              )
              (passes_none E R.sets (suc i) _ d below (omega arith))
          go false false e e' =
              rw (passed_kept R.sets i (node_at d x below) made (level above running sprout b) levels nodes accepting stable e e', own)
              (ih (level above (bit_or running (new_label R a held x)) sprout b ∷ levels) (nodes ++ (_ ∷ [])) accepting (joined_if stable i b)
              (ap suc deep)
              ∙ rw (append_assoc nodes, joined_more stable i (stable_of number v 0 B) b))
