-- One letter as one recursion over a forest, and what it says of one node: the form in which trees are reasoned about.
-- `older` is what older siblings of a node and of its ancestors hold, `sprout` the label of the new youngest sibling.
use mathlib.Core.Bool.{Bool, true, false, not, ◌&&◌, cond}
use mathlib.Core.List.{List, [], ◌∷◌}
use Prim.Native.Nat.{ℕ, zero, suc}
use lib.Bits.{bit_or}
use lib.Dec.{eqb}
use Rattle.base.specs.BitSet.{minus}
use Rattle.rule.specs.Rule.{Rule, successors, successors_in}
use Rattle.history.specs.Forest.{nil, node}
use Rattle.history.specs.Tree.{Node, Tree, labels}
use Rattle.history.specs.Letter.{next_set}

-- step 4 at one node: by whether its label is empty and whether it is the union of its children's labels
unfoldable pub settled : ℕ → Bool → Bool → Node → Tree → Tree → Tree
settled k true full x below younger = younger
settled k false true x below younger = node (record { label = x.label; active = next_set k x.active }) nil younger
settled k false false x below younger = node x below younger

unfoldable pub settle : ℕ → Node → Tree → Tree → Tree
settle k x below younger = settled k (eqb x.label 0) (eqb x.label (labels below)) x below younger

-- the label of a node after steps 1 to 3
unfoldable pub new_label : Rule → ℕ → ℕ → Node → ℕ
new_label R a older x = minus (successors R a x.label) older

-- the states that the sprouted child of a node is given in step 2
unfoldable pub sprout_of : Rule → ℕ → Node → ℕ
sprout_of R a x = successors_in R x.active a x.label

unfoldable pub step : Rule → ℕ → ℕ → ℕ → Tree → Tree
step R a older sprout nil = settle R.sets (record { label = minus sprout older; active = 1 }) nil nil
step R a older sprout (node x below younger) =
    settle R.sets (record { label = new_label R a older x; active = x.active })
    (step R a older (sprout_of R a x) below)
    (step R a (bit_or older (new_label R a older x)) sprout younger)

-- A NODE WITH WHAT IS BELOW IT

pub record Branch : Type 0 where
  pub top : Node
  pub below : Tree

-- the sibling at a place
unfoldable pub branch_at : Tree → ℕ → Branch
branch_at nil i = record { top = record { label = 0; active = 0 }; below = nil }
branch_at (node x below younger) zero = record { top = x; below = below }
branch_at (node x below younger) (suc i) = branch_at younger i

-- do the siblings 0 to i all survive?
unfoldable pub survive : Rule → ℕ → ℕ → Tree → ℕ → Bool
survive R a older nil i = false
survive R a older (node x below younger) zero = not (eqb (new_label R a older x) 0)
survive R a older (node x below younger) (suc i) =
    not (eqb (new_label R a older x) 0) && survive R a (bit_or older (new_label R a older x)) younger i

-- what the sibling at a place finds taken
unfoldable pub taken : Rule → ℕ → ℕ → Tree → ℕ → ℕ
taken R a older nil i = older
taken R a older (node x below younger) zero = older
taken R a older (node x below younger) (suc i) = taken R a (bit_or older (new_label R a older x)) younger i

-- the children of a branch after the letter, before step 4 drops them
unfoldable pub new_below : Rule → ℕ → ℕ → Branch → Tree
new_below R a older b = step R a older (sprout_of R a b.top) b.below

-- does the branch's node lose its descendants, and accept?
unfoldable pub accepts : Rule → ℕ → ℕ → Branch → Bool
accepts R a older b = eqb (new_label R a older b.top) (labels (new_below R a older b))

-- the branch after the letter, where it survives
unfoldable pub step_branch : Rule → ℕ → ℕ → Branch → Branch
step_branch R a older b =
    cond (accepts R a older b)
    (record { top = record { label = new_label R a older b.top; active = next_set R.sets b.top.active }; below = nil })
    (record { top = record { label = new_label R a older b.top; active = b.top.active }; below = new_below R a older b })

-- NAMES

-- the branch below b with the name w, and what it finds taken
unfoldable pub branch_of : Branch → List ℕ → Branch
branch_of b [] = b
branch_of b (i ∷ w) = branch_of (branch_at b.below i) w

unfoldable pub taken_at : Rule → ℕ → ℕ → Branch → List ℕ → ℕ
taken_at R a older b [] = older
taken_at R a older b (i ∷ w) = taken_at R a (taken R a older b.below i) (branch_at b.below i) w

-- is the name kept, all the way down?
unfoldable pub name_kept : Rule → ℕ → ℕ → Branch → List ℕ → Bool
name_kept R a older b [] = true
name_kept R a older b (i ∷ w) =
    not (accepts R a older b)
    && (survive R a older b.below i && name_kept R a (taken R a older b.below i) (branch_at b.below i) w)

-- among siblings: is the name i ∷ w kept, from the sibling at place i down?
unfoldable pub kept_among : Rule → ℕ → ℕ → Tree → ℕ → List ℕ → Bool
kept_among R a older F i w = survive R a older F i && name_kept R a (taken R a older F i) (branch_at F i) w

-- does its node accept?
unfoldable pub accepts_among : Rule → ℕ → ℕ → Tree → ℕ → List ℕ → Bool
accepts_among R a older F i w = accepts R a (taken_at R a (taken R a older F i) (branch_at F i) w) (branch_of (branch_at F i) w)
