-- Which stable nodes are accepting: by names, as the document says, and by the local form, at the node itself.
use mathlib.Core.Path.{◌≡◌, refl, sym, ◌∙◌, ap}
use mathlib.Core.Bool.{Bool, true, false, not, ◌&&◌, ◌||◌, cond, and-true, and-false, or-false}
use mathlib.Core.List.{List, [], ◌∷◌, ◌++◌, append-nil, nil≢cons, append_cancel_left}
use Prim.Native.Nat.{ℕ, zero, suc, ◌+◌, ◌≤◌}
use native.Mathlib.Omega.{arith}
use lib.Bits.{bit_or}
use lib.Dec.{eqb}
use Rattle.base.specs.Lists.{any_of}
use Rattle.base.proofs.Logic.{clash, never, and_both, and_in, not_in}
use Rattle.rule.specs.Rule.{Rule}
use Rattle.history.specs.Forest.{Forest, nil, node, listing, same_numbers}
use Rattle.history.specs.Tree.{Node, Tree}
use Rattle.history.specs.Letter.{sprouted, Grown, child, kept, five_steps, is_old, stable, accepting}
use Rattle.history.proofs.Step.LocalStep.{new_label, accepts, branch_at, survive, taken, branch_of, taken_at, name_kept, kept_among, accepts_among}
use Rattle.history.proofs.Tree.Conditions.{OneRoot}
use Rattle.history.proofs.Step.StepsJoined.{grown, advanced, old_node, begun_from, survivors_steps}
use Rattle.history.proofs.Names.Names.{same_self, same_equal, parted, longer, any_node, any_weaker}
use Rattle.history.proofs.Names.Origins.{From, from_begun, grown_branch, grown_begun, steps_root}
use Rattle.history.proofs.Names.StableNames.{stable_local}

-- is a node accepting, and of that old name?
abbrev Accepted : List ℕ → Grown → Bool
Accepted w x = is_old w x.origin && x.accepting

-- step 4 at a node that is not removed: it accepts, or the nodes below it may
kept_accepting : (w : List ℕ) (k : ℕ) (full : Bool) (x : Grown) (below younger : Forest Grown) → x.accepting ≡ false
    → any_of (Accepted w) (listing (kept k false full x below younger))
    ≡ (cond full (From w x) (any_of (Accepted w) (listing below)) || any_of (Accepted w) (listing younger))
unfolding kept any_of listing
kept_accepting w k true x below younger e = rw and-true
kept_accepting w k false x below younger e = any_node (Accepted w) x below younger ∙ rw (e, and-false)

module _ (R : Rule) (a : ℕ) where
  -- among siblings none accepts under a name that goes on with another number
  pub none_accepting : (w p : List ℕ) (older : ℕ) (new : Grown) (c : ℕ) (F : Tree) → new.origin ≡ sprouted
      → ((m : ℕ) (v : List ℕ) → c ≤ m → w ≡ p ++ (m ∷ v) → ⊥)
      → any_of (Accepted w) (listing (grown R a older new (begun_from p c F))) ≡ false
  none_accepting w p older new c F e none = never _ (λ h.
      let (m, v, low, is) = from_begun R a w older new p c F e
      (any_weaker (Accepted w) (From w) (λ x t. (and_in (From w x) x.accepting t).0)
      (listing (grown R a older new (begun_from p c F))) h) in
      none m v low is)

  -- the branch that is named v, and a stable name below it
  branch_accepting : (w v u : List ℕ) (older : ℕ) (x : Node) (below : Tree) (younger : Forest Grown) → w ≡ v ++ u
      → eqb (new_label R a older x) 0 ≡ false → name_kept R a older (record { top = x; below = below }) u ≡ true
      → any_of (Accepted w) (listing younger) ≡ false
      → ((j : ℕ) (t : List ℕ) → w ≡ v ++ (j ∷ t)
      → kept_among R a older below j t ≡ true
      → any_of (Accepted w) (listing (grown R a older (child R a (old_node v x)) (begun_from v 0 below)))
      ≡ accepts_among R a older below j t)
      → any_of (Accepted w) (listing (grown_branch R a older v x below younger))
      ≡ accepts R a (taken_at R a older (record { top = x; below = below }) u) (branch_of (record { top = x; below = below }) u)
  unfolding grown_branch name_kept taken_at branch_of kept_among accepts_among advanced old_node is_old child
  branch_accepting w v [] older x below younger is stays keeps none ih = rw stays (
      kept_accepting w R.sets (accepts R a older (record { top = x; below = below })) (advanced R a older (old_node v x)) B younger refl
      ∙ rw (own, down, none) (itself (accepts R a older (record { top = x; below = below }))))
    where
      B : Forest Grown
      B = grown R a older (child R a (old_node v x)) (begun_from v 0 below)

      own : same_numbers w v ≡ true
      own = rw (is, append-nil) (same_self v)

      down : any_of (Accepted w) (listing B) ≡ false
      down = none_accepting w v older (child R a (old_node v x)) 0 below refl
          (λ m t low also. nil≢cons (append_cancel_left v [] (m ∷ t) (sym is ∙ also)))

      itself : (b : Bool) → (cond b true false || false) ≡ b
      itself true = refl
      itself false = refl
  branch_accepting w v (j ∷ t) older x below younger is stays keeps none ih =
      let (open-below, rest) = and_in (not (accepts R a older (record { top = x; below = below }))) _ keeps in
      rw stays (
      kept_accepting w R.sets (accepts R a older (record { top = x; below = below })) (advanced R a older (old_node v x)) _ younger refl
      ∙ rw (not_in (accepts R a older (record { top = x; below = below })) open-below, none) (or-false _ ∙ ih j t is rest))

  -- the branch that is named v, and a name that is not below it
  branch_elsewhere : (w v : List ℕ) (older : ℕ) (x : Node) (below : Tree) (younger : Forest Grown)
      → eqb (new_label R a older x) 0 ≡ false → ((t : List ℕ) → w ≡ v ++ t → ⊥)
      → any_of (Accepted w) (listing (grown_branch R a older v x below younger)) ≡ any_of (Accepted w) (listing younger)
  unfolding grown_branch advanced old_node is_old child
  branch_elsewhere w v older x below younger stays none = rw stays (
      kept_accepting w R.sets (accepts R a older (record { top = x; below = below })) (advanced R a older (old_node v x)) _ younger refl
      ∙ rw (own, down) (nowhere (accepts R a older (record { top = x; below = below }))))
    where
      own : same_numbers w v ≡ false
      own = never _ (λ h. none [] (same_equal w v h ∙ sym (append-nil v)))

      down : any_of (Accepted w) (listing (grown R a older (child R a (old_node v x)) (begun_from v 0 below))) ≡ false
      down = none_accepting w v older (child R a (old_node v x)) 0 below refl (λ m t low also. none (m ∷ t) also)

      nowhere : (b : Bool) → (cond b false false || any_of (Accepted w) (listing younger)) ≡ any_of (Accepted w) (listing younger)
      nowhere true = refl
      nowhere false = refl

  -- siblings from child number c on below the node that is named p
  pub siblings_accepting : (w p u : List ℕ) (older : ℕ) (new : Grown) (c i : ℕ) (F : Tree) → new.origin ≡ sprouted → w ≡ p ++ ((c + i) ∷ u)
      → kept_among R a older F i u ≡ true
      → any_of (Accepted w) (listing (grown R a older new (begun_from p c F)))
      ≡ accepts_among R a older F i u
  unfolding kept_among accepts_among survive taken branch_at child grown_branch advanced old_node is_old
  siblings_accepting w p u older new c i nil e is h = clash refl h
  siblings_accepting w p u older new c zero (node x below younger) e is h =
      let (stays, keeps) = and_in (not (eqb (new_label R a older x) 0)) _ h in
      let here : w ≡ p ++ (c ∷ u) = is ∙ ap (λ (m : ℕ). p ++ (m ∷ u)) (omega arith) in
      ap (λ (F : Forest Grown). any_of (Accepted w) (listing F)) (grown_begun R a older new p c x below younger)
      ∙ branch_accepting w (p ++ (c ∷ [])) u older x below _ (here ∙ sym (longer p c u)) (not_in _ stays) keeps
      (none_accepting w p (bit_or older (new_label R a older x)) new (suc c) younger e
      (λ m v low also. let same : c ≡ m = (parted p (sym here ∙ also)).0 in omega arith))
      (λ j t also k. siblings_accepting w (p ++ (c ∷ [])) t older (child R a (old_node (p ++ (c ∷ [])) x)) 0 j below refl
      (also ∙ ap (λ (m : ℕ). (p ++ (c ∷ [])) ++ (m ∷ t)) (omega arith)) k)
  siblings_accepting w p u older new c (suc i) (node x below younger) e is h =
      let held = bit_or older (new_label R a older x) in
      let (both, keeps) = and_in (not (eqb (new_label R a older x) 0) && survive R a held younger i) _ h in
      let (stays, on) = and_in (not (eqb (new_label R a older x) 0)) (survive R a held younger i) both in
      ap (λ (F : Forest Grown). any_of (Accepted w) (listing F)) (grown_begun R a older new p c x below younger)
      ∙ branch_elsewhere w (p ++ (c ∷ [])) older x below _ (not_in _ stays)
      (λ t also. let same : c + suc i ≡ c = (parted p (sym is ∙ also ∙ longer p c t)).0 in omega arith)
      ∙ siblings_accepting w p u held new (suc c) i younger e (is ∙ ap (λ (m : ℕ). p ++ (m ∷ u)) (omega arith))
      (and_both _ _ on keeps)

-- "it is accepting": a stable node is where its label equals the union of its children's labels
pub accepting_local : (R : Rule) (a : ℕ) (T : Tree) → OneRoot T → (w : List ℕ) → stable R a T w ≡ true
    → accepting R a T w ≡ accepts_among R a 0 T 0 w
unfolding accepting accepts_among kept_among survive taken branch_at child any_of listing
accepting_local R a T one w h =
    ap (λ (F : Forest Grown). any_of (Accepted w) (listing F)) (survivors_steps R a T) ∙ go T one (sym (stable_local R a T one w) ∙ h)
  where
    go : (T : Tree) → OneRoot T → kept_among R a 0 T 0 w ≡ true
        → any_of (Accepted w) (listing (five_steps R a T)) ≡ accepts_among R a 0 T 0 w
    go nil one k = clash refl k
    go (node x below nil) one k =
        let (stays, keeps) = and_in (not (eqb (new_label R a 0 x) 0)) _ k in
        ap (λ (F : Forest Grown). any_of (Accepted w) (listing F)) (steps_root R a x below)
        ∙ branch_accepting R a w [] w 0 x below nil refl (not_in _ stays) keeps refl
        (λ j t is more. siblings_accepting R a w [] t 0 (child R a (old_node [] x)) 0 j below refl
        (is ∙ ap (λ (m : ℕ). m ∷ t) (omega arith)) more)
    go (node x below (node y other younger)) one k = absurd one
