-- Which states are at the top of a forest after one letter: those that its states lead to and those of the sprout, but
-- for what older nodes hold. The trees' other laws rest on this.
use mathlib.Core.Path.{◌≡◌, refl, ◌∙◌}
use mathlib.Core.Bool.{Bool, true, false, not, ◌&&◌, ◌||◌, and-true, or-false}
use Prim.Native.Nat.{ℕ, ◌<◌, ◌^◌}
use borrow.Author.Tests.{eqb-true}
use lib.Bits.{bit_or, or_zero_r}
use lib.Dec.{eqb}
use Rattle.base.specs.BitSet.{member, minus, Subset}
use Rattle.base.proofs.BitSet.{member_none, member_union, member_minus, set_ext, image_in, image_out, image_lt, image_none, image_union}
use Rattle.rule.specs.Rule.{Rule, edge, edge_in, successors, successors_in}
use Rattle.rule.proofs.Edges.{edge_in_edge}
use Rattle.history.specs.Forest.{nil, node}
use Rattle.history.specs.Tree.{Node, Tree, labels}
use Rattle.history.proofs.Step.LocalStep.{settled, settle, new_label, step}

-- WHERE STATES LEAD

-- no state leads nowhere; a union leads where its parts lead
pub successors_none : (R : Rule) (a : ℕ) → successors R a 0 ≡ 0
unfolding successors
successors_none R a = image_none R.states (edge R.grid a)

pub successors_union : (R : Rule) (a s t : ℕ) → successors R a (bit_or s t) ≡ bit_or (successors R a s) (successors R a t)
unfolding successors
successors_union R a s t = image_union R.states (edge R.grid a) s t

-- a subset leads to a subset
pub successors_subset : (R : Rule) (a s t : ℕ) → Subset s t → Subset (successors R a s) (successors R a t)
unfolding successors
successors_subset R a s t h r m =
    let (q, hq, hr, there, e) = image_out R.states (edge R.grid a) s r m in
    image_in R.states (edge R.grid a) t q r hq hr (h q there) e

-- transitions of a set are transitions
pub successors_in_subset : (R : Rule) (i a s : ℕ) → Subset (successors_in R i a s) (successors R a s)
unfolding successors successors_in
successors_in_subset R i a s r m =
    let (q, hq, hr, there, e) = image_out R.states (edge_in R.grid i a) s r m in
    image_in R.states (edge R.grid a) s q r hq hr there (edge_in_edge R.grid i a q r e)

-- they lead to states of the rule
pub successors_lt : (R : Rule) (a s : ℕ) → successors R a s < 2 ^ R.states
unfolding successors
successors_lt R a s = image_lt R.states (edge R.grid a) s

-- AFTER ONE LETTER

-- step 4 at a node changes no label at the top: only an empty one goes
pub labels_settle : (k : ℕ) (x : Node) (below younger : Tree) → labels (settle k x below younger) ≡ bit_or x.label (labels younger)
unfolding settle settled labels
labels_settle k x below younger = go (eqb x.label 0) (eqb x.label (labels below)) refl
  where
    go : (gone full : Bool) → eqb x.label 0 ≡ gone → labels (settled k gone full x below younger) ≡ bit_or x.label (labels younger)
    go true full e = rw (eqb-true x.label 0 e)
    go false true e = refl
    go false false e = refl

-- siblings take turns: o what older nodes hold, s what the node is led to, y what the younger ones are led to, n the sprout
turns : (o s y n : Bool) → ((s && not o) || ((y || n) && not (o || (s && not o)))) ≡ (((s || y) || n) && not o)
turns true true true n = refl
turns true true false true = refl
turns true true false false = refl
turns true false true n = refl
turns true false false true = refl
turns true false false false = refl
turns false true true n = refl
turns false true false true = refl
turns false true false false = refl
turns false false true n = refl
turns false false false true = refl
turns false false false false = refl

-- the union of siblings' labels after a letter
pub labels_step : (R : Rule) (a older sprout : ℕ) (T : Tree) (q : ℕ)
    → member (labels (step R a older sprout T)) q ≡ ((member (successors R a (labels T)) q || member sprout q) && not (member older q))
unfolding step labels new_label
labels_step R a older sprout nil q = simp (labels_settle, or_zero_r, member_minus, successors_none, member_none)
labels_step R a older sprout (node x below younger) q =
    simp (
      labels_settle,
      member_union,
      member_minus,
      successors_union,
      labels_step R a (bit_or older (minus (successors R a x.label) older)) sprout younger q,
    )
    (turns (member older q) (member (successors R a x.label) q) (member (successors R a (labels younger)) q) (member sprout q))

-- of a whole tree: the successors of its states
pub labels_next : (R : Rule) (a : ℕ) (T : Tree) → labels (step R a 0 0 T) ≡ successors R a (labels T)
labels_next R a T = set_ext _ _ (λ q. labels_step R a 0 0 T q ∙ simp (member_none, or-false, and-true))
