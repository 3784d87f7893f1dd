-- The old numbers of the nodes after a letter (specs/Inner/OldNumbers.antt): one for each node, the number of an old node or of none.
-- A node whose old node is stable has that node's name; and a node whose name is a stable one has the old number of that name,
-- since no two nodes have the same name and no two come from the same old node.
use mathlib.Core.Path.{◌≡◌, refl, sym, ◌∙◌, ap}
use mathlib.Core.Logic.{◌⊎◌, inl, inr, ⊎_elim}
use mathlib.Core.Bool.{Bool, true, false, ◌&&◌}
use mathlib.Core.List.{List, [], ◌∷◌, ◌++◌, map, map-map, map-append, append-nil}
use Prim.Native.Nat.{ℕ, zero, suc, ◌+◌, ◌≤◌, ◌<◌}
use native.Mathlib.Omega.{arith}
use lib.ListN.{length, get_or, length-map}
use Rattle.base.specs.Lists.{any_of}
use Rattle.base.proofs.Logic.{clash, and_in}
use Rattle.rule.specs.Rule.{Rule}
use Rattle.rule.specs.WellFormed.{WellFormed}
use Rattle.history.specs.Forest.{Forest, nil, node, size, change, listing, Named, named_from, named, names, same_numbers}
use Rattle.history.specs.Tree.{Node, Tree, is_tree_of}
use Rattle.history.specs.Letter.{Origin, was, sprouted, Grown, survivors, next_tree, is_old, stable}
use Rattle.history.specs.Inner.OldNumbers.{no_node, number_from, old_number, old_numbers}
use Rattle.history.proofs.Tree.Conditions.{OneRoot}
use Rattle.history.proofs.Step.StepsJoined.{no_sprout}
use Rattle.history.proofs.Step.TreesOf.{of_root, of_few, next_is_tree}
use Rattle.history.proofs.Names.Names.{same_self, same_equal, any_number, any_in}
use Rattle.history.proofs.Names.NamesDistinct.{names_distinct, IsName, length_names}
use Rattle.history.proofs.Names.NameOrder.{names_from, names_root}
use Rattle.history.proofs.Names.Origins.{stable_old}
use Rattle.history.proofs.Names.OriginsDistinct.{origins_distinct}

-- THE NUMBER OF A NAME

-- a name stands among some names at its number, or its number is that of no node
number_of : (c : ℕ) (w : List ℕ) (ps : List (List ℕ)) → ((number_from c w ps ≡ no_node) × (any_of (same_numbers w) ps ≡ false))
    ⊎ ((i : ℕ) × (i < length ps) × (number_from c w ps ≡ c + i) × (w ≡ get_or ps i []))
unfolding number_from any_of
number_of c w [] = inl (refl, refl)
number_of c w (p ∷ ps) = go (same_numbers w p) refl (number_of (suc c) w ps)
  where
    go : (b : Bool) → same_numbers w p ≡ b → ((number_from (suc c) w ps ≡ no_node) × (any_of (same_numbers w) ps ≡ false))
        ⊎ ((i : ℕ) × (i < length ps) × (number_from (suc c) w ps ≡ suc c + i) × (w ≡ get_or ps i []))
        → ((number_from c w (p ∷ ps) ≡ no_node) × (any_of (same_numbers w) (p ∷ ps) ≡ false))
        ⊎ ((i : ℕ) × (i < length (p ∷ ps)) × (number_from c w (p ∷ ps) ≡ c + i) × (w ≡ get_or (p ∷ ps) i []))
    go true e _ = inr (0, omega arith, rw e (omega arith), same_equal w p e)
    go false e (inl (none, out)) = inl (rw e none, rw e out)
    go false e (inr (i, small, is, at)) = inr (suc i, omega arith, rw e (omega arith), at)

module _ (T : Tree) (one : OneRoot T) where
  -- the old node of that number is the one that it comes from, and the other way round
  number_origin : size T ≤ no_node → (o : Origin) → old_number T o < size T → is_old (get_or (names T) (old_number T o) []) o ≡ true
  unfolding old_number is_old
  number_origin few (was w) h = ⊎_elim (λ none. absurd (omega (arith, none.0)))
      (λ (i, small, is, at). let e : number_from 0 w (names T) ≡ i = omega arith in rw (e, ← at) (same_self w)) (number_of 0 w (names T))
  number_origin few sprouted h = absurd (omega arith)

  origin_number : (o : Origin) (w : List ℕ) → is_old w o ≡ true → IsName T w
      → (old_number T o < size T) × (get_or (names T) (old_number T o) [] ≡ w)
  unfolding old_number is_old
  origin_number (was v) w h (j, small, is) = ⊎_elim
      (λ none. clash none.1 (any_in (same_numbers v) [] (names T) j small (rw (is, same_equal w v h) (same_self v))))
      (λ (i, small, is, at). let e : number_from 0 v (names T) ≡ i = omega arith in
      (omega (arith, length_names T one), rw (e, ← at) (sym (same_equal w v h)))) (number_of 0 v (names T))
  origin_number sprouted w h named = clash refl h

-- LISTS OF NODES

-- the value at a place of a list that has been changed
at_map : {A B : Type 0} (f : A → B) (l : List A) (j : ℕ) (d : A) (e : B) → j < length l → get_or (map f l) j e ≡ f (get_or l j d)
at_map f [] j d e h = absurd (omega arith)
at_map f (x ∷ l) zero d e h = refl
at_map f (x ∷ l) (suc j) d e h = at_map f l j d e (omega arith)

-- changed nodes have the names that they had
names_from_change : {A B : Type 0} (g : A → B) (p : List ℕ) (c : ℕ) (F : Forest A) → names_from p c (change g F) ≡ names_from p c F
unfolding names_from change
names_from_change g p c nil = refl
names_from_change g p c (node x below younger) =
    rw (names_from_change g (p ++ (c ∷ [])) 0 below, names_from_change g p (suc c) younger)

names_change : {A B : Type 0} (g : A → B) (F : Forest A) → names (change g F) ≡ names F
unfolding change names named listing
names_change g nil = refl
names_change g (node x below younger) = names_root (g x) (change g below) (change g younger)
    ∙ ap (λ (l : List (List ℕ)). [] ∷ l) (names_from_change g [] 0 below) ∙ sym (names_root x below younger)

-- a named node is the node
here_from : {A : Type 0} (p : List ℕ) (c : ℕ) (F : Forest A) → map (λ x. x.here) (listing (named_from p c F)) ≡ listing F
unfolding listing named_from
here_from p c nil = refl
here_from p c (node x below younger) = rw (
  map-append (λ x. x.here) (listing (named_from (p ++ (c ∷ [])) 0 below)) (listing (named_from p (suc c) younger)),
  here_from (p ++ (c ∷ [])) 0 below,
  here_from p (suc c) younger,
)

here_named : {A : Type 0} (g : A → Node) (F : Forest A) → OneRoot (change g F) → map (λ x. x.here) (listing (named F)) ≡ listing F
unfolding listing named change
here_named g nil one = refl
here_named {A} g (node x below nil) one = rw (append-nil (listing (named_from [] 0 below)), append-nil (listing below))
    (ap (λ (l : List A). x ∷ l) (here_from [] 0 below))
here_named g (node x below (node y other younger)) one = absurd one

-- THE NODES AFTER A LETTER

-- by number, each with its name
nodes : Rule → ℕ → Tree → List (Named Grown)
nodes R a T = listing (named (survivors R a T))

-- what is read behind the last of them
nowhere : Named Grown
nowhere = record { here = no_sprout; name = [] }

-- a stable name is the name of a node that comes from the old node of that name
stable_node : (R : Rule) (a : ℕ) (T : Tree) (w : List ℕ) → stable R a T w ≡ true → (j : ℕ) × (j < length (nodes R a T))
    × (is_old w (get_or (nodes R a T) j nowhere).here.origin ≡ true) × (w ≡ (get_or (nodes R a T) j nowhere).name)
unfolding nodes stable
stable_node R a T w h =
    let (j, small, is) = any_number (λ x. is_old w x.here.origin && same_numbers w x.name) nowhere (nodes R a T) h in
    let x = get_or (nodes R a T) j nowhere in
    let (from, same) = and_in (is_old w x.here.origin) (same_numbers w x.name) is in
    (j, small, from, same_equal w x.name same)

module _ (R : Rule) (well : WellFormed R) (sets : 1 ≤ R.sets) (a : ℕ) (T : Tree) (tree : is_tree_of R T ≡ true) where
  one : OneRoot T
  one = of_root R T tree

  next_one : OneRoot (next_tree R a T)
  next_one = of_root R (next_tree R a T) (next_is_tree R well sets a T tree)

  -- the nodes themselves, their names and their old numbers
  here_nodes : map (λ x. x.here) (nodes R a T) ≡ listing (survivors R a T)
  unfolding nodes next_tree
  here_nodes = here_named _ (survivors R a T) next_one

  name_nodes : names (next_tree R a T) ≡ map (λ x. x.name) (nodes R a T)
  unfolding nodes next_tree names
  name_nodes = names_change _ (survivors R a T)

  old_nodes_lem : old_numbers R a T ≡ map (λ x. old_number T x.here.origin) (nodes R a T)
  unfolding old_numbers
  old_nodes_lem = ap (map (λ x. old_number T x.origin)) (sym here_nodes) ∙ map-map _ _ (nodes R a T)

  -- the numbers of the nodes are those below their count
  count : length (nodes R a T) ≡ size (next_tree R a T)
  count = sym (length-map (nodes R a T) (λ x. x.name)) ∙ ap (λ (l : List (List ℕ)). length l) (sym name_nodes)
      ∙ length_names (next_tree R a T) next_one

  -- there are as many old numbers as nodes
  pub length_old : length (old_numbers R a T) ≡ size (next_tree R a T)
  length_old = ap (λ (l : List ℕ). length l) old_nodes_lem ∙ length-map (nodes R a T) (λ x. old_number T x.here.origin) ∙ count

  -- at a number: the old number, the name and the node
  old_at : (j : ℕ) → j < size (next_tree R a T) → get_or (old_numbers R a T) j 0 ≡ old_number T (get_or (nodes R a T) j nowhere).here.origin
  old_at j h = ap (λ (l : List ℕ). get_or l j 0) old_nodes_lem ∙ at_map _ (nodes R a T) j nowhere 0 (omega (arith, count))

  name_at : (j : ℕ) → j < size (next_tree R a T) → get_or (names (next_tree R a T)) j [] ≡ (get_or (nodes R a T) j nowhere).name
  name_at j h = ap (λ (l : List (List ℕ)). get_or l j []) name_nodes ∙ at_map _ (nodes R a T) j nowhere [] (omega (arith, count))

  here_at : (j : ℕ) → j < size (next_tree R a T) → get_or (listing (survivors R a T)) j no_sprout ≡ (get_or (nodes R a T) j nowhere).here
  here_at j h =
      ap (λ (l : List Grown). get_or l j no_sprout) (sym here_nodes) ∙ at_map _ (nodes R a T) j nowhere no_sprout (omega (arith, count))

  -- a node whose old node is stable has the same name
  pub stable_keeps : R.states < no_node → (j : ℕ) → j < size (next_tree R a T) → get_or (old_numbers R a T) j 0 < size T
      → stable R a T (get_or (names T) (get_or (old_numbers R a T) j 0) []) ≡ true
      → get_or (names (next_tree R a T)) j [] ≡ get_or (names T) (get_or (old_numbers R a T) j 0) []
  stable_keeps few j h old st =
      let w = get_or (names T) (get_or (old_numbers R a T) j 0) [] in
      let (m, small, from, same) = stable_node R a T w st in
      let l : m < size (next_tree R a T) = omega (arith, count) in
      let all : length (listing (survivors R a T)) ≡ size (next_tree R a T) =
      ap (λ (l : List Grown). length l) (sym here_nodes) ∙ length-map (nodes R a T) (λ x. x.here) ∙ count in
      let own : is_old w (get_or (nodes R a T) j nowhere).here.origin ≡ true = rw (old_at j h)
      (number_origin T one (omega (arith, of_few R T tree)) _ (rw (old_at j h) at old)) in
      let z : m ≡ j = origins_distinct R a T w no_sprout m j (omega arith) (omega arith) (rw (here_at m l) from) (rw (here_at j h) own) in
      name_at j h ∙ ap (λ (i : ℕ). (get_or (nodes R a T) i nowhere).name) (sym z) ∙ sym same

  -- a node that has a stable name comes from the old node of that name
  pub stable_comes : (j : ℕ) → j < size (next_tree R a T) → stable R a T (get_or (names (next_tree R a T)) j []) ≡ true
      → (get_or (old_numbers R a T) j 0 < size T) × (get_or (names T) (get_or (old_numbers R a T) j 0) [] ≡ get_or (names (next_tree R a T)) j [])
  stable_comes j h st =
      let w = get_or (names (next_tree R a T)) j [] in
      let (m, small, from, same) = stable_node R a T w st in
      let l : m < size (next_tree R a T) = omega (arith, count) in
      let all = length_names (next_tree R a T) next_one in
      let z : m ≡ j = names_distinct (next_tree R a T) m j (omega arith) (omega arith) (name_at m l ∙ sym same) in
      rw (old_at j h) (origin_number T one _ w (rw z at from) (stable_old R a T w st))
