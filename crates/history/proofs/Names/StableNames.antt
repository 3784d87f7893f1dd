-- Which nodes are stable: by names, as the document says, and by the local form, from the root down.
use mathlib.Core.Path.{◌≡◌, refl, sym, ◌∙◌, ap}
use mathlib.Core.Bool.{Bool, true, false, not, ◌&&◌, cond}
use mathlib.Core.List.{List, [], ◌∷◌, ◌++◌, append-nil}
use Prim.Native.Nat.{ℕ, zero, suc, ◌+◌, ◌<◌}
use native.Mathlib.Omega.{arith}
use lib.Bits.{bit_or}
use lib.Dec.{eqb}
use Rattle.base.specs.Lists.{any_of}
use Rattle.base.proofs.Logic.{clash, never}
use Rattle.rule.specs.Rule.{Rule}
use Rattle.history.specs.Forest.{Forest, nil, node, change, listing, named_from, same_numbers}
use Rattle.history.specs.Tree.{Node, Tree}
use Rattle.history.specs.Letter.{sprouted, Grown, child, kept, five_steps, survivors, is_old, stable}
use Rattle.history.proofs.Step.LocalStep.{new_label, accepts, branch_at, survive, taken, name_kept, kept_among}
use Rattle.history.proofs.Tree.Conditions.{OneRoot}
use Rattle.history.proofs.Step.StepsJoined.{grown, advanced, old_node, begun_from, survivors_steps}
use Rattle.history.proofs.Names.Names.{same_self, parted, longer, at_place, at_any, named_tree}
use Rattle.history.proofs.Names.Origins.{From, grown_origins, from_begun, grown_branch, grown_begun, steps_dead, steps_root}

-- step 4 at a node, seen from a later place among the siblings
kept_later : (f : Grown → Bool) (k : ℕ) (gone full : Bool) (x : Grown) (below younger : Forest Grown) (i : ℕ) (u : List ℕ)
    → at_place f (kept k gone full x below younger) (suc i) u ≡ cond gone (at_place f younger (suc i) u) (at_place f younger i u)
unfolding kept at_place
kept_later f k true full x below younger i u = refl
kept_later f k false true x below younger i u = refl
kept_later f k false false x below younger i u = refl

-- two ways: both lead to the same, or the first nowhere
cond_both : (b x y z : Bool) → x ≡ z → y ≡ z → cond b x y ≡ z
cond_both true x y z e f = e
cond_both false x y z e f = f

cond_none : (b x y s t : Bool) → x ≡ false → y ≡ (s && t) → cond b x y ≡ ((not b && s) && t)
cond_none true x y s t e f = e
cond_none false x y s t e f = f

module _ (R : Rule) (a : ℕ) where
  -- a sprouted node is no old one
  not_sprouted : (w : List ℕ) (older : ℕ) (new : Grown) (i : ℕ) (u : List ℕ) → new.origin ≡ sprouted
      → at_place (From w) (grown R a older new nil) i u ≡ false
  unfolding any_of listing
  not_sprouted w older new i u e = never _ (λ h.
      clash refl (grown_origins R a w older new nil e (at_any (From w) (grown R a older new nil) i u h)))

  -- places only go down: at place i there is no old node from a place before that
  not_before : (w p v : List ℕ) (m older : ℕ) (new : Grown) (c i : ℕ) (u : List ℕ) (F : Tree) → new.origin ≡ sprouted
      → w ≡ p ++ (m ∷ v) → m < c + i → at_place (From w) (grown R a older new (begun_from p c F)) i u ≡ false
  unfolding begun_from named_from change grown_branch
  not_before w p v m older new c zero u F e is less = never _ (λ h.
      let (n, t, low, also) = from_begun R a w older new p c F e (at_any (From w) (grown R a older new (begun_from p c F)) 0 u h) in
      let same : m ≡ n = (parted p (sym is ∙ also)).0 in omega arith)
  not_before w p v m older new c (suc i) u nil e is less = not_sprouted w older new (suc i) u e
  not_before w p v m older new c (suc i) u (node x below younger) e is less =
      let held = bit_or older (new_label R a older x) in
      ap (λ (F : Forest Grown). at_place (From w) F (suc i) u) (grown_begun R a older new p c x below younger)
      ∙ kept_later (From w) _ (eqb (new_label R a older x) 0) _ _ _ (grown R a held new (begun_from p (suc c) younger)) i u
      ∙ cond_both (eqb (new_label R a older x) 0) _ _ false
      (not_before w p v m held new (suc c) (suc i) u younger e is (omega arith))
      (not_before w p v m held new (suc c) i u younger e is (omega arith))

  -- the branch that is named v, and a name below it
  branch_stable : (w v u : List ℕ) (older : ℕ) (x : Node) (below : Tree) (younger : Forest Grown) → w ≡ v ++ u
      → at_place (From w) younger 0 u ≡ false
      → ((j : ℕ) (t : List ℕ) → w ≡ v ++ (j ∷ t) → at_place (From w) (grown R a older (child R a (old_node v x)) (begun_from v 0 below)) j t
      ≡ kept_among R a older below j t)
      → at_place (From w) (grown_branch R a older v x below younger) 0 u
      ≡ (not (eqb (new_label R a older x) 0) && name_kept R a older (record { top = x; below = below }) u)
  unfolding grown_branch name_kept kept_among at_place kept advanced old_node is_old
  branch_stable w v [] older x below younger is none ih =
      go (eqb (new_label R a older x) 0) (accepts R a older (record { top = x; below = below }))
    where
      own : same_numbers w v ≡ true
      own = rw (is, append-nil) (same_self v)

      go : (gone full : Bool) → at_place (From w) (kept R.sets gone full (advanced R a older (old_node v x))
          (grown R a older (child R a (old_node v x)) (begun_from v 0 below)) younger) 0 [] ≡ (not gone && true)
      go true full = none
      go false true = own
      go false false = own
  branch_stable w v (j ∷ t) older x below younger is none ih =
      go (eqb (new_label R a older x) 0) (accepts R a older (record { top = x; below = below }))
    where
      go : (gone full : Bool) → at_place (From w) (kept R.sets gone full (advanced R a older (old_node v x))
          (grown R a older (child R a (old_node v x)) (begun_from v 0 below)) younger) 0 (j ∷ t)
          ≡ (not gone && (not full && kept_among R a older below j t))
      go true full = none
      go false true = refl
      go false false = ih j t is

  -- siblings from child number c on below the node that is named p
  pub siblings_stable : (w p u : List ℕ) (older : ℕ) (new : Grown) (c i : ℕ) (F : Tree) → new.origin ≡ sprouted → w ≡ p ++ ((c + i) ∷ u)
      → at_place (From w) (grown R a older new (begun_from p c F)) i u
      ≡ kept_among R a older F i u
  unfolding begun_from named_from change grown_branch kept_among survive taken branch_at child
  siblings_stable w p u older new c i nil e is = not_sprouted w older new i u e
  siblings_stable w p u older new c zero (node x below younger) e is =
      let here : w ≡ p ++ (c ∷ u) = is ∙ ap (λ (m : ℕ). p ++ (m ∷ u)) (omega arith) in
      ap (λ (F : Forest Grown). at_place (From w) F 0 u) (grown_begun R a older new p c x below younger)
      ∙ branch_stable w (p ++ (c ∷ [])) u older x below _ (here ∙ sym (longer p c u))
      (not_before w p u c (bit_or older (new_label R a older x)) new (suc c) 0 u younger e here (omega arith))
      (λ j t also. siblings_stable w (p ++ (c ∷ [])) t older (child R a (old_node (p ++ (c ∷ [])) x)) 0 j below refl
      (also ∙ ap (λ (m : ℕ). (p ++ (c ∷ [])) ++ (m ∷ t)) (omega arith)))
  siblings_stable w p u older new c (suc i) (node x below younger) e is =
      let held = bit_or older (new_label R a older x) in
      ap (λ (F : Forest Grown). at_place (From w) F (suc i) u) (grown_begun R a older new p c x below younger)
      ∙ kept_later (From w) _ (eqb (new_label R a older x) 0) _ _ _ (grown R a held new (begun_from p (suc c) younger)) i u
      ∙ cond_none (eqb (new_label R a older x) 0) _ _ (survive R a held younger i) _
      (not_before w p u (c + suc i) held new (suc c) (suc i) u younger e is (omega arith))
      (siblings_stable w p u held new (suc c) i younger e (is ∙ ap (λ (m : ℕ). p ++ (m ∷ u)) (omega arith)))

-- "An old node is stable if it survives with its name unchanged": it is stable from the root down
pub stable_local : (R : Rule) (a : ℕ) (T : Tree) → OneRoot T → (w : List ℕ) → stable R a T w ≡ kept_among R a 0 T 0 w
unfolding stable kept_among survive taken branch_at at_place child
stable_local R a T one w =
    named_tree (From w) w (survivors R a T) ∙ ap (λ (F : Forest Grown). at_place (From w) F 0 w) (survivors_steps R a T) ∙ go T one
  where
    go : (T : Tree) → OneRoot T → at_place (From w) (five_steps R a T) 0 w ≡ kept_among R a 0 T 0 w
    go nil one = ap (λ (F : Forest Grown). at_place (From w) F 0 w) (steps_dead R a)
    go (node x below nil) one = ap (λ (F : Forest Grown). at_place (From w) F 0 w) (steps_root R a x below)
        ∙ branch_stable R a w [] w 0 x below nil refl refl
        (λ j t is. siblings_stable R a w [] t 0 (child R a (old_node [] x)) 0 j below refl (is ∙ ap (λ (m : ℕ). m ∷ t) (omega arith)))
    go (node x below (node y other younger)) one = absurd one
