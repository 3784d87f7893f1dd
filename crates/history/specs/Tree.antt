-- History trees (document 01, "Trees"): generalised history trees of Schewe and Varghese.
use Rattle.std.specs.Prelude.{Bool, true, false, not, ◌&&◌, ℕ, ◌^◌, eqb, leb, ltb}
use Rattle.std.specs.Int.Bits.{bit_and, bit_or}
use Rattle.base.specs.BitSet.{minus}
use Rattle.rule.specs.Rule.{Rule}
use Rattle.history.specs.Forest.{Forest, nil, node}

-- "Each node has a label (a set of states) and an active set (1 to k)."
pub record Node : Type 0 where
  pub label : ℕ
  pub active : ℕ

-- a tree: one root with what is below it; "The dead tree has no node": `nil`
abbrev pub Tree : Type 0
Tree = Forest Node

-- the union of siblings' labels
unfoldable pub labels : Tree → ℕ
labels nil = 0
labels (node x below younger) = bit_or x.label (labels younger)

unfoldable pub disjoint : ℕ → ℕ → Bool
disjoint a b = eqb (bit_and a b) 0

unfoldable pub strictly_inside : ℕ → ℕ → Bool
strictly_inside a b = eqb (minus a b) 0 && not (eqb a b)

-- "Every label is non-empty, siblings' labels are disjoint, and the union of the children's labels is strictly inside
-- the parent's label." Active sets are 1 to k.
unfoldable pub nodes_fit : ℕ → Tree → Bool
nodes_fit k nil = true
nodes_fit k (node x below younger) =
    (not (eqb x.label 0) && (leb 1 x.active && leb x.active k))
    && ((disjoint x.label (labels younger) && strictly_inside (labels below) x.label)
    && (nodes_fit k below && nodes_fit k younger))

-- is it a tree over n states and k sets? One root at most, and its states below n
unfoldable pub is_tree : ℕ → ℕ → Tree → Bool
is_tree n k nil = true
is_tree n k (node x below nil) = ltb x.label (2 ^ n) && nodes_fit k (node x below nil)
is_tree n k (node x below (node y other younger)) = false

-- is it a tree of the rule? One over its states and its sets
unfoldable pub is_tree_of : Rule → Tree → Bool
is_tree_of R T = is_tree R.states R.sets T

-- "The starting tree is the root alone, the starting states, active set 1."
unfoldable pub start_tree : Rule → Tree
start_tree R = node (record { label = R.start; active = 1 }) nil nil
