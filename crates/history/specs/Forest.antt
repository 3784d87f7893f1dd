-- Ordered forests: a node with the nodes below it and its younger siblings. A tree is a forest of one root, or of none.
use Rattle.std.specs.Prelude.{Bool, true, false, ◌&&◌, List, [], ◌∷◌, ◌++◌, map, ℕ, suc, ◌+◌, eqb}

pub data Forest (A : Type 0) : Type 0 where
  nil : Forest A
  node : A → Forest A → Forest A → Forest A

-- the number of nodes
unfoldable pub size : {A : Type 0} → Forest A → ℕ
size nil = 0
size (node x below younger) = suc (size below + size younger)

-- the same forest with each node changed
unfoldable pub change : {A B : Type 0} → (A → B) → Forest A → Forest B
change f nil = nil
change f (node x below younger) = node (f x) (change f below) (change f younger)

-- "Nodes are numbered from 0 parent first, then child 0 with all below it, then child 1, and so on": the nodes by number
unfoldable pub listing : {A : Type 0} → Forest A → List A
listing nil = []
listing (node x below younger) = x ∷ (listing below ++ listing younger)

-- a node with its name
pub record Named (A : Type 0) : Type 0 where
  pub here : A
  pub name : List ℕ

-- siblings from child number i on below the node that is named p, each with its name, and all below them
unfoldable pub named_from : {A : Type 0} → List ℕ → ℕ → Forest A → Forest (Named A)
named_from p i nil = nil
named_from p i (node x below younger) =
    node (record { here = x; name = p ++ (i ∷ []) }) (named_from (p ++ (i ∷ [])) 0 below) (named_from p (suc i) younger)

-- "A node is named by its child numbers from the root; the root has the empty name."
unfoldable pub named : {A : Type 0} → Forest A → Forest (Named A)
named nil = nil
named (node x below younger) = node (record { here = x; name = [] }) (named_from [] 0 below) nil

-- the names of a tree's nodes, by number
unfoldable pub names : {A : Type 0} → Forest A → List (List ℕ)
names T = map (λ x. x.name) (listing (named T))

-- are two lists of numbers (names, or bytes) the same?
unfoldable pub same_numbers : List ℕ → List ℕ → Bool
same_numbers [] [] = true
same_numbers [] (j ∷ w) = false
same_numbers (i ∷ p) [] = false
same_numbers (i ∷ p) (j ∷ w) = eqb i j && same_numbers p w
