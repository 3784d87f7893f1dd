-- Names of a tree's nodes from their depths, for the contracts of the code that finds a node's name.
use Rattle.std.specs.Prelude.{cond, List, [], ◌∷◌, ◌++◌, ℕ, zero, suc, ltb, length, get_or, take}
use Rattle.history.specs.Forest.{Forest, nil, node}

-- the depths of siblings at depth d and of all below them, in number order
unfoldable pub depths_from : {A : Type 0} → ℕ → Forest A → List ℕ
depths_from d nil = []
depths_from d (node x below younger) = d ∷ (depths_from (suc d) below ++ depths_from d younger)

-- the depths of a tree's nodes
unfoldable pub depths : {A : Type 0} → Forest A → List ℕ
depths T = depths_from 0 T

-- the name of the node that comes behind the node of name w and has depth d: it keeps the first d − 1 numbers of w. The last
-- one is 0 if w has no more than those, and one more than the number of w in that place if it has. The root has depth 0.
unfoldable pub name_after : List ℕ → ℕ → List ℕ
name_after w zero = []
name_after w (suc d) = take d w ++ (cond (ltb d (length w)) (suc (get_or w d 0)) 0 ∷ [])

-- the names of nodes of these depths, one behind the other, behind the node of name w
unfoldable pub names_along : List ℕ → List ℕ → List (List ℕ)
names_along w [] = []
names_along w (d ∷ ds) = name_after w d ∷ names_along (name_after w d) ds
