-- The root by itself, for the contracts of the tree judge's own functions: what of it goes on from letter to letter without the nodes
-- below it. That it is the root of the trees is a law (proofs/root).
use Rattle.std.specs.Prelude.{◌≡◌, Bool, true, cond, List, [], ◌∷◌, ℕ, eqb}
use Rattle.std.specs.Int.Bits.{bit_or}
use Rattle.rule.specs.Rule.{Rule, successors, successors_in}
use Rattle.history.specs.Forest.{nil, node}
use Rattle.history.specs.Tree.{Tree, labels}
use Rattle.history.specs.Letter.{next_set}

-- its label, the union of its children's labels, its active set, and whether it was accepting at one of the letters read
pub record Root : Type 0 where
  pub label : ℕ
  pub kids : ℕ
  pub active : ℕ
  pub accepted : Bool

-- the root of a tree; of the dead tree only the empty label is told
abbrev pub Shows : Root → Tree → Type 0
Shows r nil = r.label ≡ 0
Shows r (node x below younger) = (r.label ≡ x.label) × (r.kids ≡ labels below) × (r.active ≡ x.active)

-- the tree of a root that has no child
unfoldable pub lone_tree : Root → Tree
lone_tree r = cond (eqb r.label 0) nil (node (record { label = r.label; active = r.active }) nil nil)

-- ONE LETTER

-- step 4 at the root, from its new label and the union of its children's new labels; there are k sets
unfoldable pub settled_root : ℕ → ℕ → ℕ → Root → Root
settled_root k label kids r =
    cond (eqb label kids)
    (record { label = label; kids = 0; active = next_set k r.active; accepted = true })
    (record { label = label; kids = kids; active = r.active; accepted = r.accepted })

-- the union of its children's labels after steps 1 to 3: nothing is taken from the root, so nothing from them all
unfoldable pub root_kids : Rule → ℕ → Root → ℕ
root_kids R a r = bit_or (successors R a r.kids) (successors_in R r.active a r.label)

-- after a letter, and after some
unfoldable pub root_letter : Rule → ℕ → Root → Root
root_letter R a r = settled_root R.sets (successors R a r.label) (root_kids R a r) r

unfoldable pub root_letters : Rule → List ℕ → Root → Root
root_letters R [] r = r
root_letters R (a ∷ w) r = root_letters R w (root_letter R a r)
