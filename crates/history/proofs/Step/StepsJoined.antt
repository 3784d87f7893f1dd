-- The document's steps, one after the other over a whole tree, are one recursion: the local step.
use mathlib.Core.Path.{◌≡◌, refl, sym, ◌∙◌, ap, ap₂}
use mathlib.Core.Bool.{Bool, true, false, not, ◌&&◌, ◌||◌}
use mathlib.Core.List.{List, [], ◌∷◌, ◌++◌}
use Prim.Native.Nat.{ℕ, suc}
use borrow.Author.Tests.{eqb-true}
use lib.Bits.{bit_or}
use lib.Dec.{eqb}
use Rattle.base.specs.BitSet.{member, minus}
use Rattle.base.proofs.BitSet.{member_union, member_minus, set_ext}
use Rattle.rule.specs.Rule.{Rule}
use Rattle.history.specs.Forest.{Forest, nil, node, change, named_from, named}
use Rattle.history.specs.Tree.{Node, Tree, labels}
use Rattle.history.specs.Letter.{was, sprouted, Grown, begun, succeeded, youngest, child, sprouting, separated, grown_labels, kept, pruned, two_steps, three_steps, five_steps, survivors, next_tree}
use Rattle.history.proofs.Step.LocalStep.{settled, settle, new_label, sprout_of, step, Branch, new_below, accepts}
use Rattle.history.proofs.Tree.SetFacts.{nothing_minus}
use Rattle.history.proofs.Tree.Conditions.{OneRoot}

-- WHAT OLDER SIBLINGS HOLD

-- what a node loses to older ones they hold already
pub older_same : (older label : ℕ) → bit_or older label ≡ bit_or older (minus label older)
older_same older label = set_ext _ _ (λ q. simp (member_union, member_minus) (lost (member older q) (member label q)))
  where
    lost : (o l : Bool) → (o || l) ≡ (o || (l && not o))
    lost true l = refl
    lost false true = refl
    lost false false = refl

-- NODES ALONE

-- a node as it is now, and as it was before the letter
unfoldable pub plain_node : Grown → Node
plain_node x = record { label = x.label; active = x.active }

unfoldable pub earlier_node : Grown → Node
earlier_node x = record { label = x.before; active = x.active }

abbrev pub plain : Forest Grown → Tree
plain = change plain_node

abbrev pub earlier : Forest Grown → Tree
earlier = change earlier_node

abbrev pub earlier_branch : Grown → Forest Grown → Branch
earlier_branch x below = record { top = earlier_node x; below = earlier below }

-- step 4 keeps the union of siblings' labels, and is the local one on nodes alone
labels_pruned : (k : ℕ) (G : Forest Grown) → grown_labels G ≡ labels (plain (pruned k G))
unfolding grown_labels labels pruned change plain_node kept
labels_pruned k nil = refl
labels_pruned k (node x below younger) = rw (labels_pruned k younger) (go (eqb x.label 0) (eqb x.label (grown_labels below)) refl)
  where
    go : (gone full : Bool) → eqb x.label 0 ≡ gone
        → bit_or x.label (labels (plain (pruned k younger))) ≡ labels (plain (kept k gone full x (pruned k below) (pruned k younger)))
    go true full e = rw (eqb-true x.label 0 e)
    go false true e = refl
    go false false e = refl

plain_kept : (k : ℕ) (gone full : Bool) (x : Grown) (below younger : Forest Grown)
    → plain (kept k gone full x below younger) ≡ settled k gone full (plain_node x) (plain below) (plain younger)
unfolding change kept settled plain_node
plain_kept k true full x below younger = refl
plain_kept k false true x below younger = refl
plain_kept k false false x below younger = refl

module _ (R : Rule) (a : ℕ) where
  -- siblings and a new youngest one after steps 1 to 4
  unfoldable pub grown : ℕ → Grown → Forest Grown → Forest Grown
  grown older new F = pruned R.sets (separated older (youngest (sprouting R a (succeeded R a F)) new))

  -- a node after steps 1 to 3
  unfoldable pub advanced : ℕ → Grown → Grown
  advanced older x = record {
    origin = x.origin;
    before = x.before;
    label = new_label R a older (earlier_node x);
    active = x.active;
    accepting = x.accepting;
  }

  -- steps 1 to 4 at one node, and at the new youngest sibling
  grown_kept : (older : ℕ) (new x : Grown) (below younger : Forest Grown) → grown older new (node x below younger)
      ≡ kept R.sets (eqb (new_label R a older (earlier_node x)) 0)
      (eqb (new_label R a older (earlier_node x)) (labels (plain (grown older (child R a x) below))))
      (advanced older x) (grown older (child R a x) below) (grown (bit_or older (new_label R a older (earlier_node x))) new younger)
  unfolding grown advanced pruned separated youngest sprouting succeeded child change new_label earlier_node
  grown_kept older new x below younger =
      rw (← older_same, ← labels_pruned R.sets (separated older (youngest (sprouting R a (succeeded R a below)) (child R a x))))

  pub grown_new : (older : ℕ) (new : Grown) → grown older new nil
      ≡ kept R.sets (eqb (minus new.label older) 0) (eqb (minus new.label older) 0)
      (record {
        origin = new.origin;
        before = new.before;
        label = minus new.label older;
        active = new.active;
        accepting = new.accepting;
      }) nil nil
  unfolding grown pruned separated youngest sprouting succeeded change grown_labels
  grown_new older new = refl

  -- with a sprouted youngest sibling that is the local step
  pub grown_step : (older : ℕ) (new : Grown) (F : Forest Grown) → new.active ≡ 1
      → plain (grown older new F) ≡ step R a older new.label (earlier F)
  unfolding step settle change labels plain_node child earlier_node sprout_of new_label advanced
  grown_step older new nil e = ap plain (grown_new older new) ∙ plain_kept R.sets _ _ _ nil nil ∙ rw e
  grown_step older new (node x below younger) e =
      ap plain (grown_kept older new x below younger)
      ∙ plain_kept R.sets _ _ (advanced older x) (grown older (child R a x) below)
      (grown (bit_or older (new_label R a older (earlier_node x))) new younger)
      ∙ rw (grown_step older (child R a x) below refl, grown_step (bit_or older (new_label R a older (earlier_node x))) new younger e)

  -- so steps 1 to 4 at a node are those of the local step
  pub grown_node : (older : ℕ) (new x : Grown) (below younger : Forest Grown) → grown older new (node x below younger)
      ≡ kept R.sets (eqb (new_label R a older (earlier_node x)) 0) (accepts R a older (earlier_branch x below))
      (advanced older x) (grown older (child R a x) below) (grown (bit_or older (new_label R a older (earlier_node x))) new younger)
  unfolding accepts new_below child earlier_node sprout_of
  grown_node older new x below younger = grown_kept older new x below younger ∙ rw (grown_step older (child R a x) below refl)

  -- an empty youngest sibling is removed again
  empty_sprout : (older : ℕ) (new : Grown) (F : Forest Grown) → new.label ≡ 0
      → pruned R.sets (separated older (youngest F new)) ≡ pruned R.sets (separated older F)
  unfolding pruned separated youngest kept
  empty_sprout older new nil e = rw (e, nothing_minus)
  empty_sprout older new (node x below younger) e = rw (empty_sprout (bit_or older x.label) new younger e)

-- THE WHOLE TREE

-- the old node that is named w, and siblings from child number i on below the node that is named p
unfoldable pub old_node : List ℕ → Node → Grown
old_node w x = record { origin = was w; before = x.label; label = x.label; active = x.active; accepting = false }

unfoldable pub begun_from : List ℕ → ℕ → Tree → Forest Grown
begun_from p i F = change (λ x. old_node x.name x.here) (named_from p i F)

-- they are as they were
pub earlier_begun_from : (p : List ℕ) (i : ℕ) (F : Tree) → earlier (begun_from p i F) ≡ F
unfolding begun_from old_node named_from change earlier_node
earlier_begun_from p i nil = refl
earlier_begun_from p i (node x below younger) = ap₂ (node x) (earlier_begun_from (p ++ (i ∷ [])) 0 below) (earlier_begun_from p (suc i) younger)

earlier_begun : (T : Tree) → OneRoot T → earlier (begun T) ≡ T
unfolding begun begun_from old_node named change earlier_node
earlier_begun nil one = refl
earlier_begun (node x below nil) one = ap (λ (F : Tree). node x F nil) (earlier_begun_from [] 0 below)
earlier_begun (node x below (node y other younger)) one = absurd one

-- the root gains no sibling, or an empty one
unfoldable pub no_sprout : Grown
no_sprout = record { origin = sprouted; before = 0; label = 0; active = 1; accepting = false }

pub steps_grown : (R : Rule) (a : ℕ) (T : Tree) → five_steps R a T ≡ grown R a 0 no_sprout (begun T)
unfolding five_steps three_steps two_steps grown no_sprout
steps_grown R a T = sym (empty_sprout R a 0 no_sprout (sprouting R a (succeeded R a (begun T))) refl)

-- A LETTER

-- a letter makes the five steps
pub survivors_steps : (R : Rule) (a : ℕ) (T : Tree) → survivors R a T ≡ five_steps R a T
unfolding survivors
survivors_steps R a T = refl

-- so the next tree is the local step
pub next_tree_step : (R : Rule) (a : ℕ) (T : Tree) → OneRoot T → next_tree R a T ≡ step R a 0 0 T
unfolding next_tree plain_node no_sprout
next_tree_step R a T one =
    ap plain (survivors_steps R a T ∙ steps_grown R a T) ∙ grown_step R a 0 no_sprout (begun T) refl
    ∙ ap (step R a 0 0) (earlier_begun T one)
