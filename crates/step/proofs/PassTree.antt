-- The pass over siblings and all below them: it writes what the letter makes of them, and joins
-- to the maps those of them that accept and those that keep their names. So does the pass over a whole tree.
use mathlib.Core.Path.{◌≡◌, refl, sym, ◌∙◌, ap}
use mathlib.Core.Bool.{Bool, true, false, cond}
use mathlib.Core.List.{List, [], ◌∷◌, ◌++◌, append_assoc, append-nil}
use Prim.Native.Nat.{ℕ, suc, ◌+◌, ◌≤◌}
use native.Mathlib.Omega.{arith}
use lib.Bits.{bit_or, or_zero_l, or_zero_r}
use lib.Dec.{eqb}
use lib.ListN.{length}
use Rattle.base.specs.BitSet.{minus}
use Rattle.base.proofs.BitSet.{union_assoc}
use Rattle.rule.specs.Rule.{Rule, successors, successors_in}
use Rattle.history.specs.Forest.{Forest, nil, node, size, change, named_from, named}
use Rattle.history.specs.Tree.{Node, Tree, labels}
use Rattle.history.specs.Letter.{Origin, was, sprouted, Grown, child, kept, five_steps}
use Rattle.history.specs.Inner.OldNumbers.{no_node}
use Rattle.history.proofs.Step.LocalStep.{new_label}
use Rattle.history.proofs.Tree.Conditions.{Fits}
use Rattle.history.proofs.Step.StepsJoined.{grown, advanced, grown_new, old_node, begun_from}
use Rattle.history.proofs.Names.Origins.{grown_branch, grown_begun, steps_dead, steps_root}
use Rattle.tree.specs.Inner.Nodes.{nodes_from, nodes_of}
use Rattle.tree.specs.declared.nodes.Node.{Node as CodeNode}
use Rattle.tree.proofs.TreeNodes.{size_from}
use Rattle.step.specs.Inner.Pass.{Level, sprout_node, written, Pass, closed_to, levels_to, sprouts_to, read_node, read_nodes, at_start}
use Rattle.step.proofs.PassSteps.{level, pass, closed_level, none_closed, closed_again, read_nil, read_append}
use Rattle.step.proofs.GrownNodes.{marked, grown_nodes, accepting_of, stable_of, stable_in, Gives, nodes_here, accepting_here, stable_here, nodes_kept, accepting_kept, stable_kept, stable_root}
use Rattle.step.proofs.Renamed.{new_none, renamed}
use Rattle.step.proofs.PassNode.{node_at, cond_none, here, new_kids, gone, full, full_is, Passes, pass_branch}

-- siblings with child numbers from c on below the node named p, and all below them, are numbered from i on
abbrev pub Numbered : (Origin → ℕ) → List ℕ → ℕ → ℕ → Tree → Type 0
Numbered number p c i nil = Unit {0}
Numbered number p c i (node x below younger) =
    (number (was (p ++ (c ∷ []))) ≡ i) × Numbered number (p ++ (c ∷ [])) 0 (suc i) below
    × Numbered number p (suc c) (suc i + size below) younger

-- siblings at depth d close deeper levels, and so does their end
closes_first : (E : ℕ → ℕ → ℕ) (k i d : ℕ) (p : Pass) (F : Tree)
    → closed_to d (read_nodes E k i (closed_to (suc d) p) (nodes_from (suc d) F)) ≡ closed_to d (read_nodes E k i p (nodes_from (suc d) F))
unfolding nodes_from read_nodes
closes_first E k i d p nil = closed_again d (suc d) p (omega arith)
closes_first E k i d p (node x below younger) =
    ap (λ (q : Pass). closed_to d (read_nodes E k (suc i) (read_node E k i (node_at (suc d) x below) q)
    (nodes_from (suc (suc d)) below ++ nodes_from (suc d) younger))) (closed_again (suc d) (suc d) p (omega arith))

module _ (R : Rule) (a : ℕ) (E : ℕ → ℕ → ℕ) (number : Origin → ℕ) (none : number sprouted ≡ no_node)
    (all : (s : ℕ) → E 0 s ≡ successors R a s)
    (of : (i s : ℕ) → 1 ≤ i → i ≤ R.sets → E i s ≡ successors_in R i a s) where
  -- a node that the letter has sprouted, unless nothing is left for it
  new_nodes : (k d : ℕ) (x : Grown) → x.origin ≡ sprouted → x.active ≡ 1
      → grown_nodes number d (kept k (eqb x.label 0) (eqb x.label 0) x nil nil)
      ≡ written (record { depth = d; label = x.label; kids = 0; active = 1; old = no_node })
  unfolding kept grown_nodes written labels change
  new_nodes k d x e one = go (eqb x.label 0)
    where
      go : (b : Bool) → grown_nodes number d (kept k b b x nil nil)
          ≡ cond b [] (record { depth = d; label = x.label; kids = 0; active = 1; old = no_node } ∷ [])
      go true = refl
      go false = rw (e, none, one)

  new_accepting : (k : ℕ) (b : Bool) (x : Grown) → x.accepting ≡ false → accepting_of number (kept k b b x nil nil) ≡ 0
  unfolding kept accepting_of marked
  new_accepting k true x e = refl
  new_accepting k false x e = rw e

  -- behind all siblings comes the child that their parent sprouts, less what older nodes hold
  abbrev last_child : ℕ → Grown → Grown
  last_child held y = record { origin = sprouted; before = 0; label = minus (child R a y).label held; active = 1; accepting = false }

  pass_last : (p : List ℕ) (c i d held above running : ℕ) → bit_or above running ≡ held → (y : Grown) (b : Bool) (levels : List Level)
      (nodes : List CodeNode) (accepting stable : ℕ) → length levels ≡ suc d
      → Passes R a E number nil p c i d held above running y b levels nodes accepting stable
  unfolding nodes_from begun_from named_from change sprout_node child
  pass_last p c i d held above running sum y b levels nodes accepting stable deep =
      rw (
        grown_new R a held (child R a y),
        new_nodes R.sets (suc d) (last_child held y) refl refl,
        new_accepting R.sets (eqb (last_child held y).label 0) (last_child held y) refl,
        new_none number R.sets p c (eqb (last_child held y).label 0) (eqb (last_child held y).label 0) (last_child held y) refl,
        or_zero_r accepting,
        cond_none b,
        or_zero_r stable,
        read_nil E R.sets i (pass (level above running (child R a y).label b ∷ levels) nodes accepting stable),
      )
      (closed_level d (level above running (child R a y).label b) levels nodes accepting stable (omega arith)
      ∙ none_closed d _ (omega arith) ∙ rw (deep, sum))

  child_new : (y : Grown) → (child R a y).origin ≡ sprouted
  unfolding child
  child_new y = refl

  -- a map with what comes of a node and of its younger siblings; none of these keeps its name behind a removed node
  joined_both : (map here on lost : ℕ) (gone b : Bool) → lost ≡ 0
      → bit_or (bit_or map (cond b here 0)) (cond (cond gone false b) on 0) ≡ bit_or map (cond b (bit_or here (cond gone lost on)) 0)
  joined_both map here on lost true true e = rw (e, or_zero_r here, or_zero_r (bit_or map here))
  joined_both map here on lost true false e = or_zero_r (bit_or map 0)
  joined_both map here on lost false true e = sym (union_assoc map here on)
  joined_both map here on lost false false e = or_zero_r (bit_or map 0)

  -- a node and its younger siblings
  pass_first : (x : Node) (below younger : Tree) (p : List ℕ) (c i d held above running : ℕ) → bit_or above running ≡ held → (y : Grown) (b : Bool)
      (levels : List Level) (nodes : List CodeNode) (accepting stable : ℕ)
      (low : 1 ≤ x.active) (high : x.active ≤ R.sets) → number (was (p ++ (c ∷ []))) ≡ i → length levels ≡ suc d
      → ((inner : List Level) (nodes : List CodeNode) (accepting stable : ℕ) → length inner ≡ suc (suc d)
      → Passes R a E number below (p ++ (c ∷ [])) 0 (suc i) (suc d) held (bit_or above running) 0 (old_node (p ++ (c ∷ [])) x) b inner
      nodes accepting stable)
      → ((b : Bool) (nodes : List CodeNode) (accepting stable : ℕ)
      → Passes R a E number younger p (suc c) (suc i + size below) d (bit_or held (new_label R a held x)) above
      (bit_or running (new_label R a held x)) y b levels nodes accepting stable)
      → Passes R a E number (node x below younger) p c i d held above running y b levels nodes accepting stable
  unfolding nodes_from grown_branch advanced old_node
  pass_first x below younger p c i d held above running sum y b levels nodes accepting stable low high own deep down on =
      rw (
        grown_begun R a held (child R a y) p c x below younger,
        full_is R a held v x below,
        nodes_kept number R.sets (suc d) g f N B Y,
        accepting_kept number R.sets g f N B Y refl,
        stable_kept number R.sets p c g f N B Y refl,
      )
      (branch_first ∙ on (cond g false b) (nodes ++ nodes_here number R.sets (suc d) g f N B)
      (bit_or accepting (accepting_here number R.sets g f N B)) (bit_or stable (cond b (stable_here number R.sets v g f N B) 0))
      ∙ rw (
        append_assoc nodes (nodes_here number R.sets (suc d) g f N B) (grown_nodes number (suc d) Y),
        ← union_assoc accepting (accepting_here number R.sets g f N B) (accepting_of number Y),
        joined_both stable (stable_here number R.sets v g f N B) (stable_of number p (suc c) Y) (stable_of number p c Y) g b lost,
      ))
    where
      v : List ℕ
      v = p ++ (c ∷ [])

      g : Bool
      g = gone R a held v x below

      f : Bool
      f = full R a held v x below

      N : Grown
      N = here R a held v x below

      B : Forest Grown
      B = new_kids R a held v x below

      Y : Forest Grown
      Y = grown R a (bit_or held (new_label R a held x)) (child R a y) (begun_from p (suc c) younger)

      lost : stable_of number p c Y ≡ 0
      lost = renamed number R a younger p p (suc c) c (bit_or held (new_label R a held x)) (child R a y) (child_new y)
          (λ same. omega arith)

      now : Pass
      now = pass (level above running (child R a y).label b ∷ levels) nodes accepting stable

      branch : List CodeNode
      branch = node_at (suc d) x below ∷ nodes_from (suc (suc d)) below

      -- first the node with all below it
      branch_first : closed_to d (read_nodes E R.sets i now (branch ++ nodes_from (suc d) younger))
          ≡ closed_to d (read_nodes E R.sets (suc i + size below)
          (pass (level above (bit_or running (new_label R a held x)) (child R a y).label (cond g false b) ∷ levels)
          (nodes ++ nodes_here number R.sets (suc d) g f N B)
          (bit_or accepting (accepting_here number R.sets g f N B))
          (bit_or stable (cond b (stable_here number R.sets v g f N B) 0))) (nodes_from (suc d) younger))
      branch_first =
          let count : i + length branch ≡ suc i + size below = omega (arith, size_from (suc (suc d)) below) in
          ap (closed_to d) (read_append E R.sets i now branch (nodes_from (suc d) younger))
          ∙ sym (closes_first E R.sets (i + length branch) d (read_nodes E R.sets i now branch) younger)
          ∙ rw (
            pass_branch R a E number all of v x below low high held above running sum i (suc d) (child R a y).label b levels nodes
                accepting stable deep own down,
            count,
          )

  pub pass_siblings : (F : Tree) (p : List ℕ) (c i d held above running : ℕ) → bit_or above running ≡ held → (y : Grown) (b : Bool)
      (levels : List Level) (nodes : List CodeNode) (accepting stable : ℕ)
      → Fits R.sets F → Numbered number p c i F → length levels ≡ suc d
      → Passes R a E number F p c i d held above running y b levels nodes accepting stable
  pass_siblings nil p c i d held above running sum y b levels nodes accepting stable fits numbered deep =
      pass_last p c i d held above running sum y b levels nodes accepting stable deep
  pass_siblings (node x below younger) p c i d held above running sum y b levels nodes accepting stable (own, down, on) (is, inner, after) deep =
      pass_first x below younger p c i d held above running sum y b levels nodes accepting stable own.from_one own.up_to is deep
      (λ inside nodes accepting stable deeper. pass_siblings below (p ++ (c ∷ [])) 0 (suc i) (suc d) held (bit_or above running) 0
      (or_zero_r (bit_or above running) ∙ sum) (old_node (p ++ (c ∷ [])) x) b inside nodes accepting stable down inner deeper)
      (λ b nodes accepting stable. pass_siblings younger p (suc c) (suc i + size below) d (bit_or held (new_label R a held x)) above
      (bit_or running (new_label R a held x)) (union_assoc above running (new_label R a held x) ∙ ap (λ (s : ℕ). bit_or s (new_label R a held x)) sum)
      y b levels nodes accepting stable on after deep)

  -- A WHOLE TREE

  -- the dead tree
  pub pass_dead : Gives number (closed_to 0 (read_nodes E R.sets 0 at_start (nodes_of nil))) (five_steps R a nil)
  unfolding read_nodes nodes_of nodes_from closed_to levels_to sprouts_to grown_nodes accepting_of stable_in marked named
  pass_dead = rw (steps_dead R a) (record { nodes = refl; accepting = refl; stable = refl })

  -- one root with all below it
  pub pass_root : (x : Node) (below : Tree) → Fits R.sets (node x below nil) → number (was []) ≡ 0 → Numbered number [] 0 1 below
      → Gives number (closed_to 0 (read_nodes E R.sets 0 at_start (nodes_of (node x below nil)))) (five_steps R a (node x below nil))
  unfolding nodes_of nodes_from grown_branch advanced old_node grown_nodes accepting_of marked
  pass_root x below (own, down, on) is inner = record {
    nodes = ap (λ (p : Pass). p.nodes) read
        ∙ sym (ap (grown_nodes number 0) root ∙ nodes_kept number R.sets 0 g f N B nil ∙ append-nil (nodes_here number R.sets 0 g f N B));
    accepting = ap (λ (p : Pass). p.accepting) read ∙ or_zero_l (accepting_here number R.sets g f N B)
        ∙ sym (ap (accepting_of number) root ∙ accepting_kept number R.sets g f N B nil refl
        ∙ or_zero_r (accepting_here number R.sets g f N B));
    stable = ap (λ (p : Pass). p.stable) read ∙ or_zero_l (stable_here number R.sets [] g f N B)
        ∙ sym (ap (stable_in number) root ∙ stable_root number R.sets g f N B refl);
  }
    where
      g : Bool
      g = gone R a 0 [] x below

      f : Bool
      f = full R a 0 [] x below

      N : Grown
      N = here R a 0 [] x below

      B : Forest Grown
      B = new_kids R a 0 [] x below

      root : five_steps R a (node x below nil) ≡ kept R.sets g f N B nil
      root = steps_root R a x below ∙ rw (full_is R a 0 [] x below)

      read : closed_to 0 (read_nodes E R.sets 0 at_start (node_at 0 x below ∷ (nodes_from 1 below ++ [])))
          ≡ pass (level 0 (bit_or 0 (new_label R a 0 x)) 0 (cond g false true) ∷ []) (nodes_here number R.sets 0 g f N B)
          (bit_or 0 (accepting_here number R.sets g f N B)) (bit_or 0 (stable_here number R.sets [] g f N B))
      read = rw (append-nil (nodes_from 1 below))
          (pass_branch R a E number all of [] x below own.from_one own.up_to 0 0 0 refl 0 0 0 true [] [] 0 0 refl is
          (λ inside nodes accepting stable deeper. pass_siblings below [] 0 1 0 0 0 0 refl (old_node [] x) true inside nodes accepting stable
          down inner deeper))
