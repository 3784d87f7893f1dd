-- A node that is moved to a smaller child number, or that lies below such a node, has lost its name: none of the nodes
-- behind a removed sibling is stable.
use mathlib.Core.Path.{◌≡◌, refl, sym, ◌∙◌, ap, ap₂}
use mathlib.Core.Bool.{Bool, true, false}
use mathlib.Core.List.{List, [], ◌∷◌, ◌++◌, nil≢cons}
use Prim.Native.Nat.{ℕ, suc, ◌<◌}
use native.Mathlib.Omega.{arith}
use lib.Bits.{bit_or}
use Rattle.base.proofs.Logic.{never}
use Rattle.rule.specs.Rule.{Rule}
use Rattle.history.specs.Forest.{Forest, nil, node, change, named_from, same_numbers}
use Rattle.history.specs.Tree.{Tree}
use Rattle.history.specs.Letter.{Origin, was, sprouted, Grown, child, kept, is_old}
use Rattle.history.proofs.Step.LocalStep.{new_label}
use Rattle.history.proofs.Step.StepsJoined.{grown, advanced, grown_new, old_node, begun_from}
use Rattle.history.proofs.Names.Names.{same_equal}
use Rattle.history.proofs.Names.Origins.{grown_branch, grown_begun}
use Rattle.step.proofs.GrownNodes.{marked, keeps_name, stable_of}

-- names that are the same up to their last number, and in that
not_last : (q : List ℕ) (d : ℕ) → [] ≡ q ++ (d ∷ []) → ⊥
not_last [] d e = nil≢cons e
not_last (y ∷ q) d e = nil≢cons e

last_same : (p q : List ℕ) (c d : ℕ) → p ++ (c ∷ []) ≡ q ++ (d ∷ []) → (p ≡ q) × (c ≡ d)
last_same [] [] c d e = (refl, cc)
last_same [] (y ∷ q) c d e = absurd (not_last q d (cc))
last_same (x ∷ p) [] c d e = absurd (not_last p c (cc))
last_same (x ∷ p) (y ∷ q) c d e =
    let rest : p ++ (c ∷ []) ≡ q ++ (d ∷ []) = cc in
    let (same, last) = last_same p q c d rest in
    let first : x ≡ y = cc in
    (ap₂ (λ (m : ℕ) (l : List ℕ). m ∷ l) first same, last)

module _ (number : Origin → ℕ) (k : ℕ) (q : List ℕ) (d : ℕ) where
  -- a sprouted node is not stable
  pub new_none : (gone full : Bool) (x : Grown) → x.origin ≡ sprouted → stable_of number q d (kept k gone full x nil nil) ≡ 0
  unfolding stable_of marked keeps_name is_old named_from kept
  new_none true full x e = refl
  new_none false true x e = rw e
  new_none false false x e = rw e

  -- nor is a node with another name, if none below it and none of its younger siblings are
  kept_none : (gone full : Bool) (x : Grown) (below younger : Forest Grown) (w : List ℕ) → x.origin ≡ was w → (w ≡ q ++ (d ∷ []) → ⊥)
      → stable_of number (q ++ (d ∷ [])) 0 below ≡ 0 → stable_of number q d younger ≡ 0 → stable_of number q (suc d) younger ≡ 0
      → stable_of number q d (kept k gone full x below younger) ≡ 0
  unfolding stable_of marked keeps_name is_old named_from kept
  kept_none true full x below younger w e other down on after = on
  kept_none false true x below younger w e other down on after =
      rw (e, never (same_numbers (q ++ (d ∷ [])) w) (λ h. other (sym (same_equal (q ++ (d ∷ [])) w h))), after)
  kept_none false false x below younger w e other down on after =
      rw (e, never (same_numbers (q ++ (d ∷ [])) w) (λ h. other (sym (same_equal (q ++ (d ∷ [])) w h))), down, after)

module _ (number : Origin → ℕ) (R : Rule) (a : ℕ) where
  -- siblings that were numbered from c on below p, and are now from d on below q
  pub renamed : (F : Tree) (p q : List ℕ) (c d older : ℕ) (new : Grown) → new.origin ≡ sprouted → (p ≡ q → d < c)
      → stable_of number q d (grown R a older new (begun_from p c F)) ≡ 0
  unfolding begun_from named_from change grown_branch advanced old_node child
  renamed nil p q c d older new e less =
      ap (stable_of number q d) (grown_new R a older new) ∙ new_none number R.sets q d _ _ _ e
  renamed (node x below younger) p q c d older new e less =
      let held = bit_or older (new_label R a older x) in
      let other : p ++ (c ∷ []) ≡ q ++ (d ∷ []) → ⊥ = λ h. let (same, last) = last_same p q c d h in omega (arith, less same) in
      ap (stable_of number q d) (grown_begun R a older new p c x below younger)
      ∙ kept_none number R.sets q d _ _ _ _ _ (p ++ (c ∷ [])) refl other
      (renamed below (p ++ (c ∷ [])) (q ++ (d ∷ [])) 0 0 older (child R a (old_node (p ++ (c ∷ [])) x)) refl (λ h. absurd (other h)))
      (renamed younger p q (suc c) d held new e (λ h. omega (arith, less h)))
      (renamed younger p q (suc c) (suc d) held new e (λ h. omega (arith, less h)))
