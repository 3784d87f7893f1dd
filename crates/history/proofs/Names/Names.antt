-- Names of nodes: which of a tree's nodes has a name. Among siblings a name goes on with a child number, and below that
-- child with the rest of the name.
use mathlib.Core.Path.{◌≡◌, refl, sym, ◌∙◌, ap, ap₂}
use mathlib.Core.Logic.{⊎_elim}
use mathlib.Core.Bool.{Bool, true, false, ◌&&◌, ◌||◌, or-false, or_assoc, and-true, and-false}
use mathlib.Core.List.{List, [], ◌∷◌, ◌++◌, map, append_assoc, append-nil, append_cancel_left, nil≢cons}
use Prim.Native.Nat.{ℕ, zero, suc, ◌+◌, ◌≤◌, ◌<◌}
use native.Mathlib.Omega.{arith}
use borrow.Author.Tests.{eqb-true, eq-eqb}
use lib.Dec.{eqb}
use lib.ListN.{length, get_or}
use Rattle.base.specs.Lists.{any_of}
use Rattle.base.proofs.Logic.{clash, never, and_both, and_in, or_l, or_r, or_in}
use Rattle.history.specs.Forest.{Forest, nil, node, change, listing, Named, named_from, named, same_numbers}

-- LISTS OF NUMBERS

-- the test of equality
pub same_self : (w : List ℕ) → same_numbers w w ≡ true
unfolding same_numbers
same_self [] = refl
same_self (i ∷ w) = and_both (eqb i i) (same_numbers w w) (eq-eqb i i refl) (same_self w)

pub same_equal : (v w : List ℕ) → same_numbers v w ≡ true → v ≡ w
unfolding same_numbers
same_equal [] [] h = refl
same_equal [] (j ∷ w) h = clash refl h
same_equal (i ∷ v) [] h = clash refl h
same_equal (i ∷ v) (j ∷ w) h = let (first, rest) = and_in (eqb i j) (same_numbers v w) h in
    ap₂ (λ (m : ℕ) (l : List ℕ). m ∷ l) (eqb-true i j first) (same_equal v w rest)

-- below one node, names with different continuations differ
pub parted : (p : List ℕ) {i j : ℕ} {v w : List ℕ} → p ++ (i ∷ v) ≡ p ++ (j ∷ w) → (i ≡ j) × (v ≡ w)
parted p {i} {j} {v} {w} e = let d : i ∷ v ≡ j ∷ w = append_cancel_left p (i ∷ v) (j ∷ w) e in (cc, cc)

-- one number more at the end
pub longer : (p : List ℕ) (i : ℕ) (w : List ℕ) → (p ++ (i ∷ [])) ++ w ≡ p ++ (i ∷ w)
longer p i w = append_assoc p (i ∷ []) w

-- ONE IN A LIST

-- what follows from each side follows from a disjunction
pub or_weaker : (a b c d : Bool) → (a ≡ true → c ≡ true) → (b ≡ true → d ≡ true) → (a || b) ≡ true → (c || d) ≡ true
or_weaker a b c d f g h = ⊎_elim (λ t. or_l c d (f t)) (λ t. or_r c d (g t)) (or_in a b h)

module _ {A : Type 0} where
  -- in two lists
  pub any_append : (f : A → Bool) (l r : List A) → any_of f (l ++ r) ≡ (any_of f l || any_of f r)
  unfolding any_of
  any_append f [] r = refl
  any_append f (x ∷ l) r = ap (λ (b : Bool). f x || b) (any_append f l r) ∙ sym (or_assoc (f x) (any_of f l) (any_of f r))

  -- a weaker test finds one too
  pub any_weaker : (f g : A → Bool) → ((x : A) → f x ≡ true → g x ≡ true) → (l : List A) → any_of f l ≡ true → any_of g l ≡ true
  unfolding any_of
  any_weaker f g h [] e = e
  any_weaker f g h (x ∷ l) e = or_weaker (f x) (any_of f l) (g x) (any_of g l) (h x) (any_weaker f g h l) e

  -- where it stands
  pub any_number : (f : A → Bool) (d : A) (l : List A) → any_of f l ≡ true → (i : ℕ) × (i < length l) × (f (get_or l i d) ≡ true)
  unfolding any_of
  any_number f d [] e = clash refl e
  any_number f d (x ∷ l) e = ⊎_elim (λ t. (0, omega arith, t))
      (λ t. let (i, small, there) = any_number f d l t in (suc i, omega arith, there)) (or_in (f x) (any_of f l) e)

  pub any_in : (f : A → Bool) (d : A) (l : List A) (i : ℕ) → i < length l → f (get_or l i d) ≡ true → any_of f l ≡ true
  unfolding any_of
  any_in f d [] i h e = absurd (omega arith)
  any_in f d (x ∷ l) zero h e = or_l (f x) (any_of f l) e
  any_in f d (x ∷ l) (suc i) h e = or_r (f x) (any_of f l) (any_in f d l i (omega arith) e)

-- among siblings and all below them
pub any_node : {A : Type 0} (f : A → Bool) (x : A) (below younger : Forest A)
    → any_of f (listing (node x below younger)) ≡ (f x || (any_of f (listing below) || any_of f (listing younger)))
unfolding any_of listing
any_node f x below younger = ap (λ (b : Bool). f x || b) (any_append f (listing below) (listing younger))

-- in a list, and among nodes, that have been changed
pub any_map : {A B : Type 0} (f : B → Bool) (g : A → B) (l : List A) → any_of f (map g l) ≡ any_of (λ x. f (g x)) l
unfolding any_of
any_map f g [] = refl
any_map f g (x ∷ l) = ap (λ (b : Bool). f (g x) || b) (any_map f g l)

pub any_change : {A B : Type 0} (f : B → Bool) (g : A → B) (F : Forest A)
    → any_of f (listing (change g F)) ≡ any_of (λ x. f (g x)) (listing F)
unfolding any_of listing change
any_change f g nil = refl
any_change f g (node x below younger) = rw (
  any_append f (listing (change g below)) (listing (change g younger)),
  any_change f g below,
  any_change f g younger,
  any_append (λ y. f (g y)) (listing below) (listing younger),
)

-- THE NODE AT A NAME

-- has the sibling at place i a node below it under the name w, and is f true of that?
unfoldable pub at_place : {A : Type 0} → (A → Bool) → Forest A → ℕ → List ℕ → Bool
at_place f nil i w = false
at_place f (node x below younger) zero [] = f x
at_place f (node x below younger) zero (j ∷ w) = at_place f below j w
at_place f (node x below younger) (suc i) w = at_place f younger i w

-- that node is one of them
pub at_any : {A : Type 0} (f : A → Bool) (F : Forest A) (i : ℕ) (w : List ℕ) → at_place f F i w ≡ true → any_of f (listing F) ≡ true
unfolding at_place
at_any f nil i w h = clash refl h
at_any f (node x below younger) zero [] h = any_node f x below younger ∙ or_l (f x) _ h
at_any f (node x below younger) zero (j ∷ w) h =
    any_node f x below younger ∙ or_r (f x) _ (or_l (any_of f (listing below)) _ (at_any f below j w h))
at_any f (node x below younger) (suc i) w h =
    any_node f x below younger ∙ or_r (f x) _ (or_r (any_of f (listing below)) _ (at_any f younger i w h))

-- the names below p from child number c on go on with a number from c up
pub named_in : {A : Type 0} (w p : List ℕ) (c : ℕ) (F : Forest A)
    → any_of (λ x. same_numbers w x.name) (listing (named_from p c F)) ≡ true
    → (m : ℕ) × (v : List ℕ) × (c ≤ m) × (w ≡ p ++ (m ∷ v))
unfolding any_of listing named_from
named_in w p c nil h = clash refl h
named_in {A = A} w p c (node x below younger) h =
    ⊎_elim (λ e. (c, [], omega arith, same_equal w (p ++ (c ∷ [])) e))
    (λ e. ⊎_elim
    (λ k. let (m, v, low, is) = named_in w (p ++ (c ∷ [])) 0 below k in (c, m ∷ v, omega arith, is ∙ longer p c (m ∷ v)))
    (λ k. let (m, v, low, is) = named_in w p (suc c) younger k in (m, v, omega arith, is))
    (or_in _ _ (rw (any_append (λ (x : Named A). same_numbers w x.name) (listing (named_from (p ++ (c ∷ [])) 0 below)) (listing (named_from p (suc c) younger))) at e)))
    (or_in (same_numbers w (p ++ (c ∷ []))) _ h)

module _ {A : Type 0} (f : A → Bool) where
  -- has a node this name, and is f true of it?
  abbrev Found : List ℕ → Named A → Bool
  Found w x = f x.here && same_numbers w x.name

  -- no node has a name that goes on with another number
  named_none : (w p : List ℕ) (c : ℕ) (F : Forest A) → ((m : ℕ) (v : List ℕ) → c ≤ m → w ≡ p ++ (m ∷ v) → ⊥)
      → any_of (Found w) (listing (named_from p c F)) ≡ false
  named_none w p c F h = never _ (λ e.
      let (m, v, low, is) = named_in w p c F (any_weaker (Found w) (λ x. same_numbers w x.name)
      (λ x t. (and_in (f x.here) (same_numbers w x.name) t).1) (listing (named_from p c F)) e) in h m v low is)

  other_name : (w v : List ℕ) (x : A) → (w ≡ v → ⊥) → Found w (record { here = x; name = v }) ≡ false
  other_name w v x h = never _ (λ e. h (same_equal w v (and_in (f x) (same_numbers w v) e).1))

  -- the node itself, the nodes below it and its younger siblings
  named_parts : (w p : List ℕ) (c : ℕ) (x : A) (below younger : Forest A) (own down on : Bool)
      → Found w (record { here = x; name = p ++ (c ∷ []) }) ≡ own
      → any_of (Found w) (listing (named_from (p ++ (c ∷ [])) 0 below)) ≡ down
      → any_of (Found w) (listing (named_from p (suc c) younger)) ≡ on
      → any_of (Found w) (listing (named_from p c (node x below younger))) ≡ (own || (down || on))
  unfolding any_of listing named_from
  named_parts w p c x below younger own down on e e₁ e₂ =
      rw (any_append (Found w) (listing (named_from (p ++ (c ∷ [])) 0 below)) (listing (named_from p (suc c) younger)), e, e₁, e₂)

  -- among siblings from child number c on, the name of the node at place i goes on with c + i
  named_at : (w p : List ℕ) (c i : ℕ) (u : List ℕ) (F : Forest A) → w ≡ p ++ ((c + i) ∷ u)
      → any_of (Found w) (listing (named_from p c F)) ≡ at_place f F i u
  unfolding any_of listing named_from at_place
  named_at w p c i u nil e = refl
  named_at w p c zero [] (node x below younger) e =
      let is : w ≡ p ++ (c ∷ []) = e ∙ ap (λ (m : ℕ). p ++ (m ∷ [])) (omega arith) in
      named_parts w p c x below younger (f x) false false (rw (is, same_self) (and-true (f x)))
      (named_none w (p ++ (c ∷ [])) 0 below (λ m v low k. nil≢cons (parted p (sym is ∙ k ∙ longer p c (m ∷ v))).1))
      (named_none w p (suc c) younger (λ m v low k. let q : c ≡ m = (parted p (sym is ∙ k)).0 in omega arith))
      ∙ or-false (f x)
  named_at w p c zero (j ∷ u) (node x below younger) e =
      let is : w ≡ p ++ (c ∷ j ∷ u) = e ∙ ap (λ (m : ℕ). p ++ (m ∷ j ∷ u)) (omega arith) in
      named_parts w p c x below younger false (at_place f below j u) false
      (other_name w (p ++ (c ∷ [])) x (λ k. nil≢cons (parted p (sym k ∙ is)).1))
      (named_at w (p ++ (c ∷ [])) 0 j u below
      (is ∙ sym (longer p c (j ∷ u)) ∙ ap (λ (m : ℕ). (p ++ (c ∷ [])) ++ (m ∷ u)) (omega arith)))
      (named_none w p (suc c) younger (λ m v low k. let q : c ≡ m = (parted p (sym is ∙ k)).0 in omega arith))
      ∙ or-false (at_place f below j u)
  named_at w p c (suc i) u (node x below younger) e =
      let is : w ≡ p ++ ((suc c + i) ∷ u) = e ∙ ap (λ (m : ℕ). p ++ (m ∷ u)) (omega arith) in
      named_parts w p c x below younger false false (at_place f younger i u)
      (other_name w (p ++ (c ∷ [])) x (λ k. let q : suc c + i ≡ c = (parted p (sym is ∙ k)).0 in omega arith))
      (named_none w (p ++ (c ∷ [])) 0 below
      (λ m v low k. let q : suc c + i ≡ c = (parted p (sym is ∙ k ∙ longer p c (m ∷ v))).0 in omega arith))
      (named_at w p (suc c) i u younger is)

  -- of a whole tree
  pub named_tree : (w : List ℕ) (F : Forest A)
      → any_of (λ x. f x.here && same_numbers w x.name) (listing (named F)) ≡ at_place f F 0 w
  unfolding any_of listing named at_place same_numbers
  named_tree w nil = refl
  named_tree [] (node x below younger) =
      rw (append-nil (listing (named_from [] 0 below)), named_none [] [] 0 below (λ m v low k. nil≢cons k))
      (or-false (f x && true) ∙ and-true (f x))
  named_tree (j ∷ u) (node x below younger) =
      let here = named_at (j ∷ u) [] 0 j u below (ap (λ (m : ℕ). m ∷ u) (omega arith)) in
      rw (append-nil (listing (named_from [] 0 below)), and-false, here)
