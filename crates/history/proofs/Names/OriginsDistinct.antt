-- No two nodes after a letter come from the same old node: the old nodes have different names, and steps 1 to 4 only take nodes
-- away or add sprouted ones.
use mathlib.Core.Path.{◌≡◌, refl, sym, ◌∙◌, ap}
use mathlib.Core.Logic.{⊎_elim}
use mathlib.Core.Bool.{Bool, true, false, cond}
use mathlib.Core.List.{List, [], ◌∷◌, ◌++◌, map}
use Prim.Native.Nat.{ℕ, zero, suc, ◌+◌, ◌≤◌, ◌<◌}
use native.Mathlib.Omega.{arith}
use native.Mathlib.Decide.{dec_lt}
use lib.Bits.{bit_or}
use lib.Dec.{eqb}
use lib.ListN.{length, get_or}
use Rattle.base.proofs.Logic.{look, never}
use Rattle.rule.specs.Rule.{Rule}
use Rattle.history.specs.Forest.{Forest, nil, node, change, listing, named, names, same_numbers}
use Rattle.history.specs.Tree.{Tree}
use Rattle.history.specs.Letter.{sprouted, Grown, begun, child, kept, five_steps, survivors, is_old}
use Rattle.history.proofs.Step.LocalStep.{new_label, accepts}
use Rattle.history.proofs.Step.StepsJoined.{earlier_node, earlier_branch, grown, advanced, grown_new, grown_node, no_sprout, steps_grown, survivors_steps}
use Rattle.history.proofs.Names.Names.{same_equal}
use Rattle.history.proofs.Names.NamesDistinct.{names_distinct}
use Rattle.history.proofs.Names.Origins.{From}

-- HOW MANY IN A LIST

-- 1 if a test is true
abbrev one : Bool → ℕ
one b = cond b 1 0

-- how many elements of a list pass a test
many : {A : Type 0} → (A → Bool) → List A → ℕ
many f [] = 0
many f (x ∷ l) = one (f x) + many f l

module _ {A : Type 0} (f : A → Bool) where
  -- in two lists
  many_append : (l r : List A) → many f (l ++ r) ≡ many f l + many f r
  unfolding many
  many_append [] r = omega arith
  many_append (x ∷ l) r = omega (arith, many_append l r)

  -- where one passes there is at least one, where two pass at least two
  many_one : (d : A) (l : List A) (i : ℕ) → i < length l → f (get_or l i d) ≡ true → 1 ≤ many f l
  unfolding many
  many_one d [] i h t = absurd (omega arith)
  many_one d (x ∷ l) zero h t = rw t (omega arith)
  many_one d (x ∷ l) (suc i) h t = omega (arith, many_one d l i (omega arith) t)

  many_two : (d : A) (l : List A) (i j : ℕ) → i < j → j < length l → f (get_or l i d) ≡ true → f (get_or l j d) ≡ true → 2 ≤ many f l
  unfolding many
  many_two d [] i j h k s t = absurd (omega arith)
  many_two d (x ∷ l) i zero h k s t = absurd (omega arith)
  many_two d (x ∷ l) zero (suc j) h k s t = rw s (omega (arith, many_one d l j (omega arith) t))
  many_two d (x ∷ l) (suc i) (suc j) h k s t = omega (arith, many_two d l i j (omega arith) (omega arith) s t)

  -- if none passes there are none; if any two that pass stand at the same place there is at most one
  many_none : (d : A) (l : List A) → ((i : ℕ) → i < length l → f (get_or l i d) ≡ true → ⊥) → many f l ≡ 0
  unfolding many
  many_none d [] h = refl
  many_none d (x ∷ l) h = rw (never (f x) (h 0 (omega arith))) (omega (arith, many_none d l (λ i k. h (suc i) (omega arith))))

  many_single : (d : A) (l : List A)
      → ((i j : ℕ) → i < length l → j < length l → f (get_or l i d) ≡ true → f (get_or l j d) ≡ true → i ≡ j) → many f l ≤ 1
  unfolding many
  many_single d [] h = omega arith
  many_single d (x ∷ l) h = ⊎_elim
      (λ t. rw t (omega (arith, many_none d l (λ i k s. omega (arith, h 0 (suc i) (omega arith) (omega arith) t s)))))
      (λ e. rw e (omega (arith, many_single d l (λ i j hi hj s t. omega (arith, h (suc i) (suc j) (omega arith) (omega arith) s t)))))
      (look (f x))

-- in a list, and among nodes, that have been changed
many_map : {A B : Type 0} (f : B → Bool) (g : A → B) (l : List A) → many f (map g l) ≡ many (λ x. f (g x)) l
unfolding many
many_map f g [] = refl
many_map f g (x ∷ l) = ap (λ (n : ℕ). one (f (g x)) + n) (many_map f g l)

many_change : {A B : Type 0} (f : B → Bool) (g : A → B) (F : Forest A)
    → many f (listing (change g F)) ≡ many (λ x. f (g x)) (listing F)
unfolding change listing many
many_change f g nil = refl
many_change f g (node x below younger) = rw (
  many_append f (listing (change g below)) (listing (change g younger)),
  many_change f g below,
  many_change f g younger,
  many_append (λ y. f (g y)) (listing below) (listing younger),
)

-- ORIGINS

-- step 4 adds no node
many_kept : (w : List ℕ) (k : ℕ) (gone full : Bool) (x : Grown) (below younger : Forest Grown)
    → many (From w) (listing (kept k gone full x below younger))
    ≤ one (From w x) + (many (From w) (listing below) + many (From w) (listing younger))
unfolding kept listing many
many_kept w k true full x below younger = omega arith
many_kept w k false true x below younger = omega arith
many_kept w k false false x below younger = omega (arith, many_append (From w) (listing below) (listing younger))

-- and at a node without children that comes from elsewhere it leaves none
none_kept : (w : List ℕ) (k : ℕ) (gone full : Bool) (x : Grown) → From w x ≡ false
    → many (From w) (listing (kept k gone full x nil nil)) ≤ 0
unfolding listing many
none_kept w k gone full x e = rw e at (many_kept w k gone full x nil nil)

module _ (R : Rule) (a : ℕ) where
  -- steps 1 to 4 do not add to the nodes from the old node of some name
  grown_fewer : (w : List ℕ) (older : ℕ) (new : Grown) (F : Forest Grown) → new.origin ≡ sprouted
      → many (From w) (listing (grown R a older new F)) ≤ many (From w) (listing F)
  unfolding is_old advanced child many listing
  grown_fewer w older new nil e = rw (grown_new R a older new) (none_kept w _ _ _ _ (ap (is_old w) e))
  grown_fewer w older new (node x below younger) e =
      let took = bit_or older (new_label R a older (earlier_node x)) in
      rw (grown_node R a older new x below younger) (omega (
        arith,
        many_kept w R.sets (eqb (new_label R a older (earlier_node x)) 0) (accepts R a older (earlier_branch x below)) (advanced R a older x)
            (grown R a older (child R a x) below) (grown R a took new younger),
        many_append (From w) (listing below) (listing younger),
        grown_fewer w older (child R a x) below refl,
        grown_fewer w took new younger e,
      ))

  -- so there is at most one, as there was
  steps_single : (T : Tree) (w : List ℕ) → many (From w) (listing (five_steps R a T)) ≤ 1
  unfolding begun is_old names no_sprout
  steps_single T w =
      let once : many (same_numbers w) (names T) ≤ 1 = many_single (same_numbers w) [] (names T) (λ i j hi hj s t.
      names_distinct T i j hi hj (sym (same_equal w (get_or (names T) i []) s) ∙ same_equal w (get_or (names T) j []) t)) in
      let begins : many (From w) (listing (begun T)) ≡ many (same_numbers w) (names T) =
      many_change (From w) _ (named T) ∙ sym (many_map (same_numbers w) (λ x. x.name) (listing (named T))) in
      rw (steps_grown R a T) (omega (arith, grown_fewer w 0 no_sprout (begun T) refl))

  single : (T : Tree) (w : List ℕ) → many (From w) (listing (survivors R a T)) ≤ 1
  single T w = rw (survivors_steps R a T) (steps_single T w)

  -- two nodes that come from the same old node are the same
  pub origins_distinct : (T : Tree) (w : List ℕ) (d : Grown) (i j : ℕ) → i < length (listing (survivors R a T))
      → j < length (listing (survivors R a T)) → is_old w (get_or (listing (survivors R a T)) i d).origin ≡ true
      → is_old w (get_or (listing (survivors R a T)) j d).origin ≡ true → i ≡ j
  origins_distinct T w d i j hi hj s t = go (dec_lt i j) (dec_lt j i)
    where
      go : Dec (i < j) → Dec (j < i) → i ≡ j
      go (yes h) _ = absurd (omega (arith, single T w, many_two (From w) d (listing (survivors R a T)) i j h hj s t))
      go (no h) (yes k) = absurd (omega (arith, single T w, many_two (From w) d (listing (survivors R a T)) j i k hi t s))
      go (no h) (no k) = omega arith
