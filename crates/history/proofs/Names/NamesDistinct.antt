-- The names of a tree's nodes: as many as nodes, no two the same, and each with its number.
use mathlib.Core.Path.{◌≡◌, refl, sym, ◌∙◌, ap, ap₂, subst}
use mathlib.Core.Bool.{true, false, ◌||◌}
use mathlib.Core.List.{List, [], ◌∷◌, ◌++◌, nil≢cons}
use Prim.Native.Nat.{ℕ, zero, suc, ◌+◌, ◌≤◌, ◌<◌}
use native.Mathlib.Omega.{arith}
use lib.ListN.{length, get_or, length-append, length-map}
use Rattle.base.specs.Lists.{any_of}
use Rattle.base.proofs.Logic.{clash, never, or_l, or_r}
use Rattle.history.specs.Forest.{Forest, nil, node, size, listing, named_from, named, names, same_numbers}
use Rattle.history.specs.Tree.{Tree}
use Rattle.history.proofs.Tree.Conditions.{OneRoot}
use Rattle.history.proofs.Names.Names.{same_self, same_equal, parted, longer, any_append, any_in, any_number, any_map, named_in}
use Rattle.history.proofs.Names.NameOrder.{names_from, names_from_lem, names_root}

-- LISTS WITHOUT REPETITION

-- no name stands twice
abbrev Distinct : List (List ℕ) → Type 0
Distinct [] = Unit {0}
Distinct (w ∷ l) = (any_of (same_numbers w) l ≡ false) × Distinct l

-- two lists with no name in common, one behind the other
distinct_append : (l r : List (List ℕ)) → Distinct l → Distinct r
    → ((w : List ℕ) → any_of (same_numbers w) l ≡ true → any_of (same_numbers w) r ≡ false) → Distinct (l ++ r)
unfolding any_of
distinct_append [] r dl dr apart = dr
distinct_append (w ∷ l) r (new, dl) dr apart = (
  any_append (same_numbers w) l r ∙ ap₂ ◌||◌ new (apart w (or_l (same_numbers w w) _ (same_self w))),
  distinct_append l r dl dr (λ v h. apart v (or_r (same_numbers v w) _ h)),
)

-- at different numbers stand different names
distinct_number : (l : List (List ℕ)) → Distinct l → (i j : ℕ) → i < length l → j < length l → get_or l i [] ≡ get_or l j [] → i ≡ j
distinct_number [] d i j hi hj e = absurd (omega arith)
distinct_number (w ∷ l) d zero zero hi hj e = refl
distinct_number (w ∷ l) (new, d) zero (suc j) hi hj e = clash new (any_in (same_numbers w) [] l j (omega arith) (rw (← e) (same_self w)))
distinct_number (w ∷ l) (new, d) (suc i) zero hi hj e = clash new (any_in (same_numbers w) [] l i (omega arith) (rw e (same_self w)))
distinct_number (w ∷ l) (new, d) (suc i) (suc j) hi hj e = ap suc (distinct_number l d i j (omega arith) (omega arith) e)

-- THE NAMES OF A TREE

module _ {A : Type 0} where
  -- the names of siblings from child number c on below the node that is named p go on with a number from c up
  from_in : (w p : List ℕ) (c : ℕ) (F : Forest A) → any_of (same_numbers w) (names_from p c F) ≡ true
      → (m : ℕ) × (v : List ℕ) × (c ≤ m) × (w ≡ p ++ (m ∷ v))
  from_in w p c F h = named_in w p c F
      (sym (any_map (same_numbers w) (λ x. x.name) (listing (named_from p c F))) ∙ ap (any_of (same_numbers w)) (names_from_lem p c F) ∙ h)

  -- a node's name is neither below it nor among its younger siblings, and those two have no name in common
  own_below : (p : List ℕ) (c : ℕ) (F : Forest A) → any_of (same_numbers (p ++ (c ∷ []))) (names_from (p ++ (c ∷ [])) 0 F) ≡ false
  own_below p c F = never _ (λ h. let (m, v, low, is) = from_in (p ++ (c ∷ [])) (p ++ (c ∷ [])) 0 F h in
      nil≢cons (parted p (is ∙ longer p c (m ∷ v))).1)

  own_younger : (p : List ℕ) (c : ℕ) (F : Forest A) → any_of (same_numbers (p ++ (c ∷ []))) (names_from p (suc c) F) ≡ false
  own_younger p c F = never _ (λ h. let (m, v, low, is) = from_in (p ++ (c ∷ [])) p (suc c) F h in
      let same : c ≡ m = (parted p is).0 in omega arith)

  below_younger : (p : List ℕ) (c : ℕ) (F G : Forest A) (w : List ℕ)
      → any_of (same_numbers w) (names_from (p ++ (c ∷ [])) 0 F) ≡ true → any_of (same_numbers w) (names_from p (suc c) G) ≡ false
  below_younger p c F G w h = never _ (λ k.
      let (m, v, low, is) = from_in w (p ++ (c ∷ [])) 0 F h in
      let (n, u, high, also) = from_in w p (suc c) G k in
      let same : c ≡ n = (parted p (sym (is ∙ longer p c (m ∷ v)) ∙ also)).0 in omega arith)

  -- so no name stands twice
  from_distinct : (p : List ℕ) (c : ℕ) (F : Forest A) → Distinct (names_from p c F)
  unfolding names_from
  from_distinct p c nil = tt
  from_distinct p c (node x below younger) =
      let L = names_from (p ++ (c ∷ [])) 0 below in
      let Y = names_from p (suc c) younger in (
        any_append (same_numbers (p ++ (c ∷ []))) L Y ∙ ap₂ ◌||◌ (own_below p c below) (own_younger p c younger),
        distinct_append L Y (from_distinct (p ++ (c ∷ [])) 0 below) (from_distinct p (suc c) younger) (below_younger p c below younger),
      )

  tree_distinct : (T : Forest A) → Distinct (names T)
  unfolding names named listing
  tree_distinct nil = tt
  tree_distinct (node x below younger) = subst Distinct (sym (names_root x below younger))
      (never _ (λ h. let (m, v, low, is) = from_in [] [] 0 below h in nil≢cons is), from_distinct [] 0 below)

  -- no two nodes have the same name
  pub names_distinct : (T : Forest A) (i j : ℕ) → i < length (names T) → j < length (names T)
      → get_or (names T) i [] ≡ get_or (names T) j [] → i ≡ j
  names_distinct T = distinct_number (names T) (tree_distinct T)

  -- a name of the tree is the name of the node of some number
  abbrev pub IsName : Forest A → List ℕ → Type 0
  IsName T w = (i : ℕ) × (i < length (names T)) × (get_or (names T) i [] ≡ w)

  pub name_number : (T : Forest A) (w : List ℕ) → any_of (same_numbers w) (names T) ≡ true → IsName T w
  name_number T w h = let (i, small, e) = any_number (same_numbers w) [] (names T) h in
      (i, small, sym (same_equal w (get_or (names T) i []) e))

  -- the numbers of nodes are those below their count
  pub length_listing : (F : Forest A) → length (listing F) ≡ size F
  unfolding listing size
  length_listing nil = refl
  length_listing (node x below younger) =
      omega (arith, length-append (listing below) (listing younger), length_listing below, length_listing younger)

  size_named : (p : List ℕ) (c : ℕ) (F : Forest A) → size (named_from p c F) ≡ size F
  unfolding size named_from
  size_named p c nil = refl
  size_named p c (node x below younger) = omega (arith, size_named (p ++ (c ∷ [])) 0 below, size_named p (suc c) younger)

-- there are as many names as nodes
pub length_names : (T : Tree) → OneRoot T → length (names T) ≡ size T
unfolding names named size
length_names T one = length-map (listing (named T)) (λ x. x.name) ∙ length_listing (named T) ∙ same T one
  where
    same : (T : Tree) → OneRoot T → size (named T) ≡ size T
    same nil one = refl
    same (node x below nil) one = ap (λ (i : ℕ). suc (i + 0)) (size_named [] 0 below)
    same (node x below (node y other younger)) one = absurd one
