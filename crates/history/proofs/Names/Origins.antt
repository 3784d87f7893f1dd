-- Where the nodes after a letter come from: each is the old node of some name, or sprouted.
use mathlib.Core.Path.{◌≡◌, refl, sym, ◌∙◌}
use mathlib.Core.Bool.{Bool, true, false, ◌||◌}
use mathlib.Core.List.{List, [], ◌∷◌, ◌++◌}
use Prim.Native.Nat.{ℕ, suc, ◌≤◌}
use lib.Bits.{bit_or}
use lib.Dec.{eqb}
use Rattle.base.specs.Lists.{any_of}
use Rattle.base.proofs.Logic.{or_r}
use Rattle.rule.specs.Rule.{Rule}
use Rattle.history.specs.Forest.{Forest, nil, node, change, listing, named_from, named, names, same_numbers}
use Rattle.history.specs.Tree.{Node, Tree}
use Rattle.history.specs.Letter.{sprouted, Grown, begun, child, kept, five_steps, survivors, is_old, stable}
use Rattle.history.proofs.Step.LocalStep.{new_label, accepts}
use Rattle.history.proofs.Tree.SetFacts.{nothing_minus}
use Rattle.history.proofs.Step.StepsJoined.{earlier_node, grown, advanced, grown_new, grown_node, old_node, begun_from, earlier_begun_from, no_sprout, steps_grown, survivors_steps}
use Rattle.history.proofs.Names.Names.{or_weaker, any_node, any_map, any_change, at_any, named_in, named_tree}
use Rattle.history.proofs.Names.NamesDistinct.{IsName, name_number}

-- does a node come from the old node of that name?
abbrev pub From : List ℕ → Grown → Bool
From w x = is_old w x.origin

-- step 4 adds no node
from_kept : (w : List ℕ) (k : ℕ) (gone full : Bool) (x : Grown) (below younger : Forest Grown)
    → any_of (From w) (listing (kept k gone full x below younger)) ≡ true
    → (From w x || (any_of (From w) (listing below) || any_of (From w) (listing younger))) ≡ true
unfolding kept listing any_of
from_kept w k true full x below younger h = or_r (From w x) _ (or_r (any_of (From w) (listing below)) _ h)
from_kept w k false true x below younger h =
    or_weaker (From w x) (any_of (From w) (listing younger)) (From w x) _ (λ own. own) (or_r (any_of (From w) (listing below)) _) h
from_kept w k false false x below younger h = sym (any_node (From w) x below younger) ∙ h

module _ (R : Rule) (a : ℕ) where
  -- an old name after a letter is one that was there before it
  pub grown_origins : (w : List ℕ) (older : ℕ) (new : Grown) (F : Forest Grown) → new.origin ≡ sprouted
      → any_of (From w) (listing (grown R a older new F)) ≡ true → any_of (From w) (listing F) ≡ true
  unfolding is_old any_of listing advanced child
  grown_origins w older new nil e h = rw e at (from_kept w _ _ _ _ nil nil (rw grown_new at h))
  grown_origins w older new (node x below younger) e h =
      any_node (From w) x below younger ∙ or_weaker (From w x) _ (From w x) _ (λ own. own)
      (or_weaker _ _ (any_of (From w) (listing below)) (any_of (From w) (listing younger))
      (grown_origins w older (child R a x) below refl) (grown_origins w (bit_or older (new_label R a older (earlier_node x))) new younger e))
      (from_kept w _ _ _ _ _ _ (rw grown_node at h))

  -- so it is one that siblings have
  pub from_begun : (w : List ℕ) (older : ℕ) (new : Grown) (p : List ℕ) (c : ℕ) (F : Tree) → new.origin ≡ sprouted
      → any_of (From w) (listing (grown R a older new (begun_from p c F))) ≡ true
      → (m : ℕ) × (v : List ℕ) × (c ≤ m) × (w ≡ p ++ (m ∷ v))
  unfolding begun_from old_node is_old
  from_begun w older new p c F e h = named_in w p c F
      (sym (any_change (From w) (λ x. old_node x.name x.here) (named_from p c F)) ∙ grown_origins w older new (begun_from p c F) e h)

  -- and one that a tree has
  from_steps : (w : List ℕ) (T : Tree) → any_of (From w) (listing (five_steps R a T)) ≡ true → IsName T w
  unfolding begun names is_old no_sprout
  from_steps w T h = name_number T w
      (any_map (same_numbers w) (λ x. x.name) (listing (named T)) ∙ sym (any_change (From w) _ (named T))
      ∙ grown_origins w 0 no_sprout (begun T) refl (rw steps_grown at h))

  from_survivors : (w : List ℕ) (T : Tree) → any_of (From w) (listing (survivors R a T)) ≡ true → IsName T w
  from_survivors w T h = from_steps w T (rw survivors_steps at h)

  -- a stable name is the name of an old node
  pub stable_old : (T : Tree) (w : List ℕ) → stable R a T w ≡ true → IsName T w
  unfolding stable
  stable_old T w h = from_survivors w T (at_any (From w) (survivors R a T) 0 w (sym (named_tree (From w) w (survivors R a T)) ∙ h))

  -- AN OLD NODE AFTER A LETTER

  -- the old node that is named w, with what is below it, after steps 1 to 4
  unfoldable pub grown_branch : ℕ → List ℕ → Node → Tree → Forest Grown → Forest Grown
  grown_branch older w x below younger =
      kept R.sets (eqb (new_label R a older x) 0) (accepts R a older (record { top = x; below = below }))
      (advanced R a older (old_node w x)) (grown R a older (child R a (old_node w x)) (begun_from w 0 below)) younger

  -- the first of siblings
  pub grown_begun : (older : ℕ) (new : Grown) (p : List ℕ) (c : ℕ) (x : Node) (below younger : Tree)
      → grown R a older new (begun_from p c (node x below younger))
      ≡ grown_branch older (p ++ (c ∷ [])) x below (grown R a (bit_or older (new_label R a older x)) new (begun_from p (suc c) younger))
  unfolding grown_branch begun_from named_from change earlier_node old_node
  grown_begun older new p c x below younger =
      grown_node R a older new (old_node (p ++ (c ∷ [])) x) (begun_from (p ++ (c ∷ [])) 0 below) (begun_from p (suc c) younger)
      ∙ rw (earlier_begun_from (p ++ (c ∷ [])) 0 below)

  -- the root, and the dead tree
  none_grown : (older : ℕ) → grown R a older no_sprout nil ≡ nil
  unfolding no_sprout kept
  none_grown older = grown_new R a older no_sprout ∙ rw nothing_minus

  pub steps_dead : five_steps R a nil ≡ nil
  unfolding begun named change
  steps_dead = steps_grown R a nil ∙ none_grown 0

  pub steps_root : (x : Node) (below : Tree) → five_steps R a (node x below nil) ≡ grown_branch 0 [] x below nil
  unfolding begun named change earlier_node old_node begun_from grown_branch
  steps_root x below = steps_grown R a (node x below nil) ∙ grown_node R a 0 no_sprout (old_node [] x) (begun_from [] 0 below) nil
      ∙ rw (earlier_begun_from [] 0 below, none_grown (new_label R a 0 (earlier_node (old_node [] x))))
