-- The root by itself, one letter: its label, the union of its children's labels and its active set after the letter depend on these
-- three alone. Where it has no child, it is the whole tree.
use mathlib.Core.Path.{◌≡◌, refl, sym, ◌∙◌, ap}
use mathlib.Core.Bool.{Bool, true, false, ◌||◌, and-true}
use mathlib.Core.List.{[]}
use Prim.Native.Nat.{ℕ, ◌≤◌}
use native.Mathlib.Omega.{arith}
use borrow.Author.Tests.{eqb-true, ne_eqb, ltb-true}
use lib.Bits.{bit_or}
use lib.Dec.{eqb, ltb}
use Rattle.base.specs.BitSet.{member, minus}
use Rattle.base.proofs.Logic.{clash, never}
use Rattle.base.proofs.BitSet.{member_none, member_union, member_minus, empty_set, set_ext}
use Rattle.rule.specs.Rule.{Rule, successors}
use Rattle.history.specs.Forest.{nil, node}
use Rattle.history.specs.Tree.{Node, Tree, labels, is_tree_of}
use Rattle.history.specs.Letter.{next_set, next_tree, stable, accepting}
use Rattle.history.specs.Inner.Root.{Root, Shows, settled_root, root_kids, root_letter}
use Rattle.history.proofs.Tree.SetFacts.{nothing_minus}
use Rattle.history.proofs.Tree.Conditions.{OneRoot, Fits}
use Rattle.history.proofs.Step.LocalStep.{settled, settle, new_label, sprout_of, step, branch_at, survive, taken, new_below, accepts, branch_of, taken_at, name_kept, kept_among, accepts_among}
use Rattle.history.proofs.Step.LabelsOfStep.{successors_none, labels_step}
use Rattle.history.proofs.Step.StepsJoined.{next_tree_step}
use Rattle.history.proofs.Step.TreesOf.{of_out}
use Rattle.history.proofs.Names.StableNames.{stable_local}
use Rattle.history.proofs.Names.AcceptingNames.{accepting_local}

-- SETS

minus_none : (s : ℕ) → minus s 0 ≡ s
minus_none s = set_ext _ _ (λ q. simp (member_minus, member_none, and-true))

-- a union is empty only of empty sets
union_none : (a b : ℕ) → bit_or a b ≡ 0 → a ≡ 0
union_none a b h = empty_set a (λ q. never _ (λ m.
    clash (ap (λ (s : ℕ). member s q) h ∙ member_none q) (member_union a b q ∙ ap (λ (x : Bool). x || member b q) m)))

-- ONE LETTER

-- its label goes on by itself
pub letter_label : (R : Rule) (a : ℕ) (r : Root) → (root_letter R a r).label ≡ successors R a r.label
unfolding root_letter settled_root
letter_label R a r = go (eqb (successors R a r.label) (root_kids R a r)) refl
  where
    go : (full : Bool) → eqb (successors R a r.label) (root_kids R a r) ≡ full → (root_letter R a r).label ≡ successors R a r.label
    go true e = rw e
    go false e = rw e

-- its active set stays from 1 to a limit that has room for all sets
pub settled_active : (k limit label kids : ℕ) (r : Root) → k ≤ limit → 1 ≤ limit → (1 ≤ r.active → 1 ≤ (settled_root k label kids r).active)
    × (r.active ≤ limit → (settled_root k label kids r).active ≤ limit)
unfolding settled_root next_set
settled_active k limit label kids r room some = go (eqb label kids) refl (ltb r.active k) refl
  where
    go : (full : Bool) → eqb label kids ≡ full → (below : Bool) → ltb r.active k ≡ below
        → (1 ≤ r.active → 1 ≤ (settled_root k label kids r).active) × (r.active ≤ limit → (settled_root k label kids r).active ≤ limit)
    go true e true b = rw (e, b) (λ low. omega arith, λ high. omega (arith, ltb-true r.active k b))
    go true e false b = rw (e, b) (λ low. omega arith, λ high. some)
    go false e below b = rw e (λ low. low, λ high. high)

-- the union of the children's labels after steps 1 to 3
kids_step : (R : Rule) (a : ℕ) (r : Root) (x : Node) (below younger : Tree) → Shows r (node x below younger)
    → labels (step R a 0 (sprout_of R a x) below) ≡ root_kids R a r
unfolding root_kids sprout_of
kids_step R a r x below younger (label, kids, active) =
    set_ext _ _ (λ q. labels_step R a 0 _ below q ∙ simp (label, kids, active, member_union, member_none, and-true))

-- nothing comes of no state
no_sprout_lem : (R : Rule) (a older : ℕ) → step R a older 0 nil ≡ nil
unfolding step settle settled
no_sprout_lem R a older = rw (nothing_minus older)

-- step 4 at the root
settled_shows : (R : Rule) (a : ℕ) (r : Root) (x : Node) (below : Tree) → labels below ≡ root_kids R a r
    → r.label ≡ x.label → r.active ≡ x.active
    → Shows (root_letter R a r) (settle R.sets (record { label = successors R a x.label; active = x.active }) below nil)
unfolding settle settled root_letter settled_root labels
settled_shows R a r x below kids label active =
    rw (kids, ← label) (go (eqb (successors R a r.label) 0) (eqb (successors R a r.label) (root_kids R a r)) refl refl)
  where
    go : (gone full : Bool) → eqb (successors R a r.label) 0 ≡ gone → eqb (successors R a r.label) (root_kids R a r) ≡ full
        → Shows (root_letter R a r) (settled R.sets gone full (record { label = successors R a r.label; active = x.active }) below nil)
    go true full none e = letter_label R a r ∙ eqb-true (successors R a r.label) 0 none
    go false true some e = rw e (refl, refl, rw active)
    go false false some e = rw e (refl, sym kids, active)

shows_node : (R : Rule) (a : ℕ) (r : Root) (x : Node) (below : Tree) → Shows r (node x below nil)
    → Shows (root_letter R a r) (step R a 0 0 (node x below nil))
unfolding step new_label
shows_node R a r x below shows =
    rw (minus_none, no_sprout_lem R a (bit_or 0 (successors R a x.label)))
    (settled_shows R a r x _ (kids_step R a r x below nil shows) shows.0 shows.2)

-- THE ROOT GOES ON BY ITSELF
pub shows_letter : (R : Rule) (a : ℕ) (r : Root) (T : Tree) → OneRoot T → Shows r T → Shows (root_letter R a r) (next_tree R a T)
shows_letter R a r T one h = rw (next_tree_step R a T one) (go T one h)
  where
    go : (T : Tree) → OneRoot T → Shows r T → Shows (root_letter R a r) (step R a 0 0 T)
    go nil one h = rw (no_sprout_lem R a 0) (letter_label R a r ∙ ap (successors R a) h ∙ successors_none R a)
    go (node x below nil) one h = shows_node R a r x below h
    go (node x below (node y other younger)) one h = absurd one

-- WHERE IT IS ALONE

none_below : (k : ℕ) (F : Tree) → Fits k F → labels F ≡ 0 → F ≡ nil
unfolding labels
none_below k nil fits h = refl
none_below k (node x below younger) (own, _, _) h = absurd (own.nonempty (union_none x.label (labels younger) h))

-- a root without children is the whole tree
pub alone : (R : Rule) (r : Root) (T : Tree) → is_tree_of R T ≡ true → Shows r T → r.kids ≡ 0 → (r.label ≡ 0 → ⊥)
    → T ≡ node (record { label = r.label; active = r.active }) nil nil
alone R r T tree h none alive = let t = of_out R T tree in go T t.one_root t.fits h
  where
    go : (T : Tree) → OneRoot T → Fits R.sets T → Shows r T → T ≡ node (record { label = r.label; active = r.active }) nil nil
    go nil one fits h = absurd (alive h)
    go (node x below nil) one (_, down, _) (label, kids, active) = rw (none_below R.sets below down (sym kids ∙ none), label, active)
    go (node x below (node y other younger)) one fits h = absurd one

-- and one without states is that of the dead tree
pub dead : (R : Rule) (r : Root) (T : Tree) → is_tree_of R T ≡ true → Shows r T → r.label ≡ 0 → T ≡ nil
dead R r T tree h none = go T (of_out R T tree).fits h
  where
    go : (T : Tree) → Fits R.sets T → Shows r T → T ≡ nil
    go nil fits h = refl
    go (node x below younger) (own, _, _) (label, _, _) = absurd (own.nonempty (sym label ∙ none))

-- ITS NAME

-- where it survives it is stable, and accepting where its label is the union of its children's
root_local : (R : Rule) (a : ℕ) (r : Root) (T : Tree) → OneRoot T → Shows r T → (successors R a r.label ≡ 0 → ⊥)
    → (kept_among R a 0 T 0 [] ≡ true) × (accepts_among R a 0 T 0 [] ≡ eqb (successors R a r.label) (root_kids R a r))
unfolding kept_among accepts_among survive taken branch_at branch_of taken_at name_kept accepts new_below new_label
root_local R a r nil one h alive = absurd (alive (ap (successors R a) h ∙ successors_none R a))
root_local R a r (node x below nil) one h alive =
    (rw (minus_none, ← h.0, ne_eqb (successors R a r.label) 0 alive), rw (minus_none, kids_step R a r x below nil h, h.0))
root_local R a r (node x below (node y other younger)) one h alive = absurd one

pub root_stable : (R : Rule) (a : ℕ) (r : Root) (T : Tree) → OneRoot T → Shows r T → (successors R a r.label ≡ 0 → ⊥)
    → stable R a T [] ≡ true
root_stable R a r T one h alive = stable_local R a T one [] ∙ (root_local R a r T one h alive).0

pub root_accepting : (R : Rule) (a : ℕ) (r : Root) (T : Tree) → OneRoot T → Shows r T → (successors R a r.label ≡ 0 → ⊥)
    → accepting R a T [] ≡ eqb (successors R a r.label) (root_kids R a r)
root_accepting R a r T one h alive =
    accepting_local R a T one [] (root_stable R a r T one h alive) ∙ (root_local R a r T one h alive).1
