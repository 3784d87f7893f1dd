-- The number of an old node and its name tell each other: among a tree's names, all of them different, a name is found at
-- the number of its node.
use mathlib.Core.Path.{◌≡◌, refl, sym, ◌∙◌, ap, subst}
use mathlib.Core.Bool.{Bool, true, false, cond}
use mathlib.Core.List.{List, [], ◌∷◌, ◌++◌, append_assoc, append-nil}
use Prim.Native.Nat.{ℕ, zero, suc, ◌+◌, ◌≤◌, ◌<◌}
use native.Mathlib.Omega.{arith}
use borrow.Author.Tests.{eq-eqb, ne_eqb, eqb-true}
use lib.Dec.{eqb}
use lib.ListN.{length, get_or, length-append}
use lib.Seq.{get_or-append-add}
use Rattle.base.proofs.Logic.{never, bool_ext}
use Rattle.history.specs.Forest.{nil, node, size, names, same_numbers}
use Rattle.history.specs.Tree.{Node, Tree}
use Rattle.history.specs.Letter.{Origin, was, sprouted, is_old}
use Rattle.history.specs.Inner.OldNumbers.{no_node, number_from, old_number}
use Rattle.history.proofs.Tree.Conditions.{OneRoot}
use Rattle.history.proofs.Names.Names.{same_self, same_equal}
use Rattle.history.proofs.Names.NamesDistinct.{names_distinct, length_names}
use Rattle.history.proofs.Names.NameOrder.{names_from, names_root}
use Rattle.step.proofs.PassTree.{Numbered}

-- the test of equality is symmetric
same_sym : (v w : List ℕ) → same_numbers v w ≡ same_numbers w v
same_sym v w = bool_ext _ _ (turn v w) (turn w v)
  where
    turn : (v w : List ℕ) → same_numbers v w ≡ true → same_numbers w v ≡ true
    turn v w h = rw (same_equal v w h) (same_self w)

-- THE NUMBER OF A NAME IN A LIST

-- names numbered from b on have numbers from b up
number_from_lem : (b : ℕ) (w : List ℕ) (ps : List (List ℕ)) → b + length ps ≤ no_node → b ≤ number_from b w ps
unfolding number_from
number_from_lem b w [] h = omega arith
number_from_lem b w (p ∷ ps) h = go (same_numbers w p) (number_from_lem (suc b) w ps (omega arith))
  where
    go : (s : Bool) → suc b ≤ number_from (suc b) w ps → b ≤ cond s b (number_from (suc b) w ps)
    go true ih = omega arith
    go false ih = omega arith

-- among different names, w is the one at place i just if its number is b + i
number_at : (b : ℕ) (w : List ℕ) (ps : List (List ℕ)) (i : ℕ) → i < length ps → b + length ps ≤ no_node
    → ((i j : ℕ) → i < length ps → j < length ps → get_or ps i [] ≡ get_or ps j [] → i ≡ j)
    → same_numbers (get_or ps i []) w ≡ eqb (number_from b w ps) (b + i)
unfolding number_from
number_at b w [] i h room apart = absurd (omega arith)
number_at b w (p ∷ ps) zero h room apart = go (same_numbers w p) (same_sym p w)
  where
    go : (s : Bool) → same_numbers p w ≡ s → same_numbers p w ≡ eqb (cond s b (number_from (suc b) w ps)) (b + 0)
    go true e = e ∙ sym (eq-eqb b (b + 0) (omega arith))
    go false e = e ∙ sym (ne_eqb (number_from (suc b) w ps) (b + 0) (λ q. omega (arith, number_from_lem (suc b) w ps (omega arith))))
number_at b w (p ∷ ps) (suc i) h room apart = go (same_numbers w p) refl (number_at (suc b) w ps i (omega arith) (omega arith)
    (λ i j hi hj e. let same : suc i ≡ suc j = apart (suc i) (suc j) (omega arith) (omega arith) e in omega arith))
  where
    go : (s : Bool) → same_numbers w p ≡ s → same_numbers (get_or ps i []) w ≡ eqb (number_from (suc b) w ps) (suc b + i)
        → same_numbers (get_or ps i []) w ≡ eqb (cond s b (number_from (suc b) w ps)) (b + suc i)
    go true e ih = never _ (λ q.
        let same : suc i ≡ 0 = apart (suc i) 0 h (omega arith) (same_equal (get_or ps i []) w q ∙ same_equal w p e) in omega arith)
        ∙ sym (ne_eqb b (b + suc i) (λ q. omega arith))
    go false e ih = ih ∙ (let more : suc b + i ≡ b + suc i = omega arith in ap (eqb (number_from (suc b) w ps)) more)

-- THE NUMBERS OF A TREE'S NODES

-- there are as many names as nodes
names_size : (p : List ℕ) (c : ℕ) (F : Tree) → length (names_from p c F) ≡ size F
unfolding names_from size
names_size p c nil = refl
names_size p c (node x below younger) = omega (
  arith,
  length-append (names_from (p ++ (c ∷ [])) 0 below) (names_from p (suc c) younger),
  names_size (p ++ (c ∷ [])) 0 below,
  names_size p (suc c) younger,
)

module _ (T : Tree) (one : OneRoot T) (few : size T < no_node) where
  -- an origin is the old node of number i just if it has the name of that number
  pub old_number_lem : (o : Origin) (i : ℕ) → i < size T → is_old (get_or (names T) i []) o ≡ eqb (old_number T o) i
  unfolding is_old old_number
  old_number_lem (was w) i h = let n = length_names T one in
      number_at 0 w (names T) i (omega arith) (omega arith) (names_distinct T) ∙ ap (eqb (number_from 0 w (names T))) (omega arith)
  old_number_lem sprouted i h = sym (ne_eqb no_node i (λ e. omega arith))

  -- a name has the number of its place in the list of names
  name_at : (front : List (List ℕ)) (w : List ℕ) (behind : List (List ℕ)) → names T ≡ front ++ (w ∷ behind)
      → old_number T (was w) ≡ length front
  unfolding is_old
  name_at front w behind split =
      let inside : length front < size T = omega (arith, length_names T one, ap length split, length-append front (w ∷ behind)) in
      let here : get_or (names T) (length front) [] ≡ w = rw split (
      ap (λ (n : ℕ). get_or (front ++ (w ∷ behind)) n []) (omega arith) ∙ get_or-append-add front (w ∷ behind) 0 []) in
      eqb-true _ _ (sym (old_number_lem (was w) (length front) inside) ∙ rw here (same_self w))

  numbered_from : (F : Tree) (p : List ℕ) (c : ℕ) (front behind : List (List ℕ)) → names T ≡ front ++ (names_from p c F ++ behind)
      → Numbered (old_number T) p c (length front) F
  unfolding names_from
  numbered_from nil p c front behind split = tt
  numbered_from (node x below younger) p c front behind split =
      let v : List ℕ = p ++ (c ∷ []) in
      let B : List (List ℕ) = names_from v 0 below in
      let Y : List (List ℕ) = names_from p (suc c) younger in
      let parts : names T ≡ front ++ (v ∷ (B ++ (Y ++ behind))) =
      split ∙ rw (append_assoc B Y behind) in (
        name_at front v (B ++ (Y ++ behind)) parts,
        subst (λ (i : ℕ). Numbered (old_number T) v 0 i below) (length-append front (v ∷ []) ∙ omega arith)
            (numbered_from below v 0 (front ++ (v ∷ [])) (Y ++ behind) (parts ∙ sym (append_assoc front (v ∷ []) (B ++ (Y ++ behind))))),
        subst (λ (i : ℕ). Numbered (old_number T) p (suc c) i younger) (length-append front (v ∷ B) ∙ omega (arith, names_size v 0 below))
            (numbered_from younger p (suc c) (front ++ (v ∷ B)) behind (parts ∙ sym (append_assoc front (v ∷ B) (Y ++ behind)))),
      )

-- the root has the number 0, and the nodes below it are numbered from 1 on
pub tree_numbered : (x : Node) (below : Tree) → size (node x below nil) < no_node
    → (old_number (node x below nil) (was []) ≡ 0) × Numbered (old_number (node x below nil)) [] 0 1 below
tree_numbered x below few =
    let T : Tree = node x below nil in
    let split : names T ≡ [] ∷ (names_from [] 0 below ++ []) =
    names_root x below nil ∙ rw (append-nil (names_from [] 0 below)) in
    (name_at T tt few [] [] (names_from [] 0 below ++ []) split, numbered_from T tt few below [] 0 ([] ∷ []) [] split)
