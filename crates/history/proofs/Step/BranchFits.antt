-- What the conditions on trees say of a branch, of a sibling with what is below it: its active set is one of the
-- rule's, what is below it lies inside its label, and its label inside the union of the siblings' labels.
use mathlib.Core.Path.{◌≡◌, ◌∙◌}
use mathlib.Core.Bool.{true}
use mathlib.Core.List.{List, [], ◌∷◌}
use Prim.Native.Nat.{ℕ, zero, suc, ◌≤◌}
use Rattle.base.specs.BitSet.{member, Subset}
use Rattle.base.proofs.Logic.{clash, or_l, or_r}
use Rattle.base.proofs.BitSet.{member_none, member_union}
use Rattle.history.specs.Forest.{nil, node}
use Rattle.history.specs.Tree.{Tree, labels}
use Rattle.history.proofs.Tree.Conditions.{Fits}
use Rattle.history.proofs.Step.LocalStep.{Branch, branch_at, branch_of}

-- the label of a sibling lies in the union
pub label_inside : (T : Tree) (i : ℕ) → Subset (branch_at T i).top.label (labels T)
unfolding branch_at labels
label_inside nil i q h = clash (member_none q) h
label_inside (node x below younger) zero q h = member_union x.label (labels younger) q ∙ or_l _ _ h
label_inside (node x below younger) (suc i) q h =
    member_union x.label (labels younger) q ∙ or_r (member x.label q) _ (label_inside younger i q h)

-- a node with what is below it: its active set is one of the k where its label holds a state, and the labels below lie in its label
pub record BranchFits (k : ℕ) (b : Branch) : Type 0 where
  pub active : (q : ℕ) → member b.top.label q ≡ true → (1 ≤ b.top.active) × (b.top.active ≤ k)
  pub inside : Subset (labels b.below) b.top.label
  pub fits : Fits k b.below

-- a sibling does, where siblings fit
pub branch_fits : (k : ℕ) (T : Tree) → Fits k T → (i : ℕ) → BranchFits k (branch_at T i)
unfolding branch_at labels
branch_fits k nil f i = record { active = λ q h. clash (member_none q) h; inside = λ q h. h; fits = tt }
branch_fits k (node x below younger) (own, down, on) zero =
    record { active = λ q h. (own.from_one, own.up_to); inside = own.inside.0; fits = down }
branch_fits k (node x below younger) (own, down, on) (suc i) = branch_fits k younger on i

-- and so does the branch with a name, and its label lies in the label above
pub name_fits : (k : ℕ) (w : List ℕ) (b : Branch) → BranchFits k b
    → BranchFits k (branch_of b w) × Subset (branch_of b w).top.label b.top.label
unfolding branch_of
name_fits k [] b f = (f, λ q h. h)
name_fits k (i ∷ w) b f =
    let (g, within) = name_fits k w (branch_at b.below i) (branch_fits k b.below f.fits i) in
    (g, λ q h. f.inside q (label_inside b.below i q (within q h)))
