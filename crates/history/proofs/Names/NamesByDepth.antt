-- The name of a node follows from its depth and from the name of the node before it (specs/Inner/NamesByDepth.antt), so the depths in
-- number order give all names. A name is as long as its node is deep; its numbers are smaller than the number of nodes, since
-- each child number counts older siblings.
use mathlib.Core.Path.{◌≡◌, refl, sym, ◌∙◌, ap, subst}
use mathlib.Core.List.{List, [], ◌∷◌, ◌++◌, map, map-append, append-nil}
use Prim.Native.Nat.{ℕ, zero, suc, ◌+◌, ◌-◌, ◌≤◌, ◌<◌}
use native.Mathlib.Omega.{arith}
use borrow.Author.Tests.{lt-ltb, le-ltb}
use lib.ListN.{length, get_or, take, length-append, length-take, get_or-map}
use lib.Seq.{take-length, take-append_seam, get_or-append_seam}
use Rattle.base.specs.Lists.{Every}
use Rattle.base.proofs.Every.{every_at, every_weaker}
use Rattle.history.specs.Forest.{Forest, nil, node, size, listing, named, names}
use Rattle.history.specs.Tree.{Tree}
use Rattle.history.specs.Verdict.{Before}
use Rattle.history.specs.Inner.NamesByDepth.{depths_from, depths, name_after, names_along}
use Rattle.history.proofs.Tree.Conditions.{OneRoot}
use Rattle.history.proofs.Names.Names.{longer}
use Rattle.history.proofs.Names.NamesDistinct.{length_names}
use Rattle.history.proofs.Names.NameOrder.{every_append, names_from, names_root, names_ascend}

-- ONE NAME BEHIND ANOTHER

-- a node that is deeper than the one before it is that one's first child
pub after_deeper : (w : List ℕ) (d : ℕ) → 1 ≤ d → length w < d → name_after w d ≡ take (d - 1) w ++ (0 ∷ [])
unfolding name_after
after_deeper w zero low h = absurd (omega arith)
after_deeper w (suc d) low h = let e : suc d - 1 ≡ d = omega arith in rw (e, le-ltb d (length w) (omega arith))

-- one that is not is the next sibling of that one, or of an ancestor of it
pub after_beside : (w : List ℕ) (d : ℕ) → 1 ≤ d → d ≤ length w → name_after w d ≡ take (d - 1) w ++ (suc (get_or w (d - 1) 0) ∷ [])
unfolding name_after
after_beside w zero low h = absurd (omega arith)
after_beside w (suc d) low h = let e : suc d - 1 ≡ d = omega arith in rw (e, lt-ltb d (length w) h)

-- the first child of a node comes right behind it
after_parent : (q : List ℕ) → name_after q (suc (length q)) ≡ q ++ (0 ∷ [])
unfolding name_after
after_parent q = rw (take-length q, le-ltb (length q) (length q) (omega arith))

-- the next sibling of a node comes behind the last node below it
after_branch : (p : List ℕ) (c : ℕ) (v : List ℕ) → name_after (p ++ (c ∷ v)) (suc (length p)) ≡ p ++ (suc c ∷ [])
unfolding name_after
after_branch p c v = rw (
  take-append_seam p (c ∷ v),
  get_or-append_seam p c v 0,
  lt-ltb (length p) (length (p ++ (c ∷ v))) (omega (arith, length-append p (c ∷ v))),
)

-- the last of some names, or w if there are none
last_name : List ℕ → List (List ℕ) → List ℕ
last_name w [] = w
last_name w (p ∷ l) = last_name p l

last_append : (w : List ℕ) (l r : List (List ℕ)) → last_name w (l ++ r) ≡ last_name (last_name w l) r
unfolding last_name
last_append w [] r = refl
last_append w (p ∷ l) r = last_append p l r

-- some depths, and more behind them
along_append : (w : List ℕ) (ds es : List ℕ) → names_along w (ds ++ es) ≡ names_along w ds ++ names_along (last_name w (names_along w ds)) es
unfolding names_along last_name
along_append w [] es = refl
along_append w (d ∷ ds) es = ap (λ (l : List (List ℕ)). name_after w d ∷ l) (along_append (name_after w d) ds es)

-- each name follows from the name before it
along_next : (w ds : List ℕ) (j : ℕ) → suc j < length ds
    → get_or (names_along w ds) (suc j) [] ≡ name_after (get_or (names_along w ds) j []) (get_or ds (suc j) 0)
unfolding names_along
along_next w [] j h = absurd (omega arith)
along_next w (d ∷ []) j h = absurd (omega arith)
along_next w (d ∷ e ∷ ds) zero h = refl
along_next w (d ∷ e ∷ ds) (suc j) h = along_next (name_after w d) (e ∷ ds) j (omega arith)

-- it is longer by one at most
length_after : (w : List ℕ) (d : ℕ) → length (name_after w d) ≤ suc (length w)
unfolding name_after
length_after w zero = omega arith
length_after w (suc d) = simp (length-append, length-take) (omega arith)

-- THE NAMES OF A TREE

-- the sum of the numbers of a name and of how many there are
weight : List ℕ → ℕ
weight [] = 0
weight (i ∷ w) = suc i + weight w

weight_append : (p v : List ℕ) → weight (p ++ v) ≡ weight p + weight v
unfolding weight
weight_append [] v = omega arith
weight_append (i ∷ p) v = omega (arith, weight_append p v)

-- a name is no longer than that, and its numbers are smaller
length_weight : (w : List ℕ) → length w ≤ weight w
unfolding weight
length_weight [] = omega arith
length_weight (i ∷ w) = omega (arith, length_weight w)

number_weight : (w : List ℕ) (i : ℕ) → i < length w → get_or w i 0 < weight w
unfolding weight
number_weight [] i h = absurd (omega arith)
number_weight (m ∷ w) zero h = omega arith
number_weight (m ∷ w) (suc i) h = omega (arith, number_weight w i (omega arith))

module _ {A : Type 0} where
  -- the last name among siblings below p, and of all below them, is below p
  last_from : (p : List ℕ) (c : ℕ) (F : Forest A) (w v : List ℕ) → w ≡ p ++ v
      → (u : List ℕ) × (last_name w (names_from p c F) ≡ p ++ u)
  unfolding names_from last_name
  last_from p c nil w v h = (v, h)
  last_from p c (node x below younger) w v h =
      let q = p ++ (c ∷ []) in
      let (u, e) = last_from q 0 below q [] (sym (append-nil q)) in
      let (s, g) = last_from p (suc c) younger (last_name q (names_from q 0 below)) (c ∷ u) (e ∙ longer p c u) in
      (s, last_append q (names_from q 0 below) (names_from p (suc c) younger) ∙ g)

  -- their depths give their names, behind any name that the first of them follows
  along_from : (w p : List ℕ) (c : ℕ) (F : Forest A) → name_after w (suc (length p)) ≡ p ++ (c ∷ [])
      → names_along w (depths_from (suc (length p)) F) ≡ names_from p c F
  unfolding names_along depths_from names_from
  along_from w p c nil h = refl
  along_from w p c (node x below younger) h =
      let q = p ++ (c ∷ []) in
      let deeper : suc (length p) ≡ length q = omega (arith, length-append p (c ∷ [])) in
      let (u, last) = last_from q 0 below q [] (sym (append-nil q)) in
      rw (
        h,
        along_append q (depths_from (suc (suc (length p))) below) (depths_from (suc (length p)) younger),
        ap (λ (d : ℕ). names_along q (depths_from (suc d) below)) deeper ∙ along_from q q 0 below (after_parent q),
        last ∙ longer p c u,
        along_from (p ++ (c ∷ u)) p (suc c) younger (after_branch p c u),
      )

  -- a name is as long as its node is deep
  length_from : (p : List ℕ) (c : ℕ) (F : Forest A) → map (λ w. length w) (names_from p c F) ≡ depths_from (suc (length p)) F
  unfolding depths_from names_from
  length_from p c nil = refl
  length_from p c (node x below younger) =
      let q = p ++ (c ∷ []) in
      let deeper : length q ≡ suc (length p) = omega (arith, length-append p (c ∷ [])) in
      rw (
        map-append (λ w. length w) (names_from q 0 below) (names_from p (suc c) younger),
        length_from q 0 below,
        length_from p (suc c) younger,
        deeper,
      )

  -- with each number of a name come that many siblings, and the node itself: a name weighs no more than there are nodes
  weight_from : (p : List ℕ) (c : ℕ) (F : Forest A) → Every (λ w. weight w ≤ weight p + (c + size F)) (names_from p c F)
  unfolding names_from size weight
  weight_from p c nil = tt
  weight_from p c (node x below younger) =
      let q = p ++ (c ∷ []) in
      let own = weight_append p (c ∷ []) in (
        omega arith,
        every_append _ (names_from q 0 below) (names_from p (suc c) younger)
            (every_weaker _ _ (names_from q 0 below) (λ w h. omega arith) (weight_from q 0 below))
            (every_weaker _ _ (names_from p (suc c) younger) (λ w h. omega arith) (weight_from p (suc c) younger)),
      )

  -- there are as many depths as nodes
  length_depths_from : (d : ℕ) (F : Forest A) → length (depths_from d F) ≡ size F
  unfolding depths_from size
  length_depths_from d nil = refl
  length_depths_from d (node x below younger) = omega (
    arith,
    length-append (depths_from (suc d) below) (depths_from d younger),
    length_depths_from (suc d) below,
    length_depths_from d younger,
  )

  pub length_depths : (T : Forest A) → length (depths T) ≡ size T
  unfolding depths
  length_depths T = length_depths_from 0 T

  -- the root has the empty name
  pub name_root : (T : Forest A) → get_or (names T) 0 [] ≡ []
  unfolding names named listing
  name_root nil = refl
  name_root (node x below younger) = refl

-- behind the empty name are longer ones
behind_root : (w : List ℕ) → Before [] w → 1 ≤ length w
behind_root [] h = absurd h
behind_root (i ∷ w) h = omega arith

-- the whole tree
tree_along : (T : Tree) → OneRoot T → names T ≡ names_along [] (depths T)
unfolding names named listing names_along name_after depths depths_from
tree_along nil one = refl
tree_along (node x below nil) one = rw (append-nil (depths_from 1 below), along_from [] [] 0 below refl) (names_root x below nil)
tree_along (node x below (node y other younger)) one = absurd one

tree_lengths : (T : Tree) → OneRoot T → map (λ w. length w) (names T) ≡ depths T
unfolding names named listing depths depths_from
tree_lengths nil one = refl
tree_lengths (node x below nil) one =
    ap (map (λ w. length w)) (names_root x below nil) ∙ rw (append-nil (depths_from 1 below), length_from [] 0 below)
tree_lengths (node x below (node y other younger)) one = absurd one

tree_weights : (T : Tree) → Every (λ w. weight w < size T) (names T)
unfolding names named listing size weight
tree_weights nil = tt
tree_weights (node x below younger) = subst (Every (λ w. weight w < size (node x below younger))) (sym (names_root x below younger))
    (omega arith, every_weaker _ _ (names_from [] 0 below) (λ w h. omega arith) (weight_from [] 0 below))

module _ (T : Tree) (one : OneRoot T) where
  -- the depths give the names
  pub names_along_lem : names T ≡ names_along [] (depths T)
  names_along_lem = tree_along T one

  -- the numbers of the nodes are those below their count, and each name weighs less
  count : length (names T) ≡ size T
  count = length_names T one

  light : (j : ℕ) → j < size T → weight (get_or (names T) j []) < size T
  light j h = every_at (λ w. weight w < size T) (names T) j [] (tree_weights T) (omega (arith, count))

  -- each name follows from the name before it and the depth
  pub name_next : (j : ℕ) → suc j < size T → get_or (names T) (suc j) [] ≡ name_after (get_or (names T) j []) (get_or (depths T) (suc j) 0)
  name_next j h = rw names_along_lem (along_next [] (depths T) j (omega (arith, length_depths T)))

  -- a name is as long as its node is deep
  pub name_depth : (j : ℕ) → length (get_or (names T) j []) ≡ get_or (depths T) j 0
  name_depth j = sym (get_or-map (λ w. length w) (names T) j [])
      ∙ ap (λ (l : List ℕ). get_or l j 0) (tree_lengths T one)

  -- the depth of each node but the root is from 1 to one more than the depth before it
  pub depth_next : (j : ℕ) → suc j < size T
      → (1 ≤ get_or (depths T) (suc j) 0) × (get_or (depths T) (suc j) 0 ≤ suc (get_or (depths T) j 0))
  depth_next j h =
      let w = get_or (names T) j [] in
      let later = rw (name_root T) at (names_ascend T 0 (suc j) (omega arith) (omega (arith, count))) in
      let e : length (name_after w (get_or (depths T) (suc j) 0)) ≡ get_or (depths T) (suc j) 0 = rw (← name_next j h) (name_depth (suc j)) in (
        omega (arith, name_depth (suc j), behind_root (get_or (names T) (suc j) []) later),
        omega (arith, name_depth j, length_after w (get_or (depths T) (suc j) 0)),
      )

  -- a name has fewer numbers than there are nodes, and each is less than that
  pub name_length : (j : ℕ) → j < size T → length (get_or (names T) j []) < size T
  name_length j h = omega (arith, length_weight (get_or (names T) j []), light j h)

  pub name_number : (j i : ℕ) → j < size T → i < length (get_or (names T) j []) → get_or (get_or (names T) j []) i 0 < size T
  name_number j i h l = omega (arith, number_weight (get_or (names T) j []) i l, light j h)

  -- if there are at most n nodes it has at most n − 1 numbers, each below n
  pub name_small : (n : ℕ) → size T ≤ n → (j : ℕ) → j < size T
      → (length (get_or (names T) j []) ≤ n - 1) × ((i : ℕ) → i < length (get_or (names T) j []) → get_or (get_or (names T) j []) i 0 < n)
  name_small n few j h = (omega (arith, name_length j h), λ i l. omega (arith, name_number j i h l))
