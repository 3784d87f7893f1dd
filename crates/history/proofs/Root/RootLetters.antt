-- The root by itself, after some letters: where it has no child the tree is known, whatever lay below it before; it has kept its name,
-- and was accepting where it says so. So both maps of the followed nodes are known there, too.
use mathlib.Core.Path.{◌≡◌, refl, sym, ◌∙◌, ap, subst}
use mathlib.Core.Bool.{Bool, true, false, ◌&&◌, ◌||◌, or_assoc, or_comm, cond}
use mathlib.Core.List.{List, [], ◌∷◌, ◌++◌}
use Prim.Native.Nat.{ℕ, ◌/◌, ◌^◌, ◌≤◌}
use native.Mathlib.Omega.{arith}
use borrow.Author.Tests.{eqb-true, eqb-false, ne_eqb, lt-ltb}
use lib.Bits.{bit_and, bit_or, and_mask, and_zero_r}
use lib.Dec.{eqb}
use Rattle.base.specs.BitSet.{member, collect}
use Rattle.base.proofs.Logic.{and_in}
use Rattle.base.proofs.BitSet.{member_zero, bit_member, member_union}
use Rattle.rule.specs.Rule.{Rule, successors}
use Rattle.rule.specs.WellFormed.{WellFormed}
use Rattle.history.specs.Forest.{nil, node, size, named, names, listing}
use Rattle.history.specs.Tree.{Tree, Node, labels, is_tree_of}
use Rattle.history.specs.Letter.{next_tree, by_number}
use Rattle.history.specs.Rounds.{read_letters}
use Rattle.history.specs.Inner.Following.{stable_through, accepting_once, kept_map, witness_map}
use Rattle.history.specs.Inner.Root.{Root, Shows, lone_tree, settled_root, root_kids, root_letter, root_letters}
use Rattle.history.proofs.Repeat.RepeatExists.{letters_keep}
use Rattle.history.proofs.Root.RootLetter.{letter_label, shows_letter, alone, dead, root_stable, root_accepting}
use Rattle.history.proofs.Step.LabelsOfStep.{successors_none}
use Rattle.history.proofs.Step.TreesOf.{of_root, next_is_tree}
use Rattle.history.proofs.Verdict.FollowingLaws.{stable_append, accepting_append, member_by}
use Rattle.history.proofs.Walk.TreesOfWalk.{read_append}

-- each tree has a root that shows it
unfoldable root_of : Tree → Root
root_of nil = record { label = 0; kids = 0; active = 1; accepted = false }
root_of (node x below younger) = record { label = x.label; kids = labels below; active = x.active; accepted = false }

root_shows : (T : Tree) → Shows (root_of T) T
unfolding root_of
root_shows nil = refl
root_shows (node x below younger) = (refl, refl, refl)

-- an empty label stays empty
stays_empty : (R : Rule) (w : List ℕ) (r : Root) → r.label ≡ 0 → (root_letters R w r).label ≡ 0
unfolding root_letters
stays_empty R [] r h = h
stays_empty R (a ∷ w) r h = stays_empty R w (root_letter R a r) (letter_label R a r ∙ ap (successors R a) h ∙ successors_none R a)

-- accepting at this letter, or before
letter_accepted : (R : Rule) (a : ℕ) (r : Root)
    → (root_letter R a r).accepted ≡ (r.accepted || eqb (successors R a r.label) (root_kids R a r))
unfolding root_letter settled_root
letter_accepted R a r = go (eqb (successors R a r.label) (root_kids R a r)) refl r.accepted refl
  where
    go : (full : Bool) → eqb (successors R a r.label) (root_kids R a r) ≡ full → (before : Bool) → r.accepted ≡ before
        → (root_letter R a r).accepted ≡ (r.accepted || eqb (successors R a r.label) (root_kids R a r))
    go true e true b = rw (e, b)
    go true e false b = rw (e, b)
    go false e true b = rw (e, b)
    go false e false b = rw (e, b)

-- the map of a one-node tree
by_one : (x : Node) (f : List ℕ → Bool) → by_number f (node x nil nil) ≡ cond (f []) 1 0
unfolding by_number collect names listing named size
by_one x f = go (f []) refl
  where
    go : (b : Bool) → f [] ≡ b → by_number f (node x nil nil) ≡ cond (f []) 1 0
    go true e = rw e
    go false e = rw e

-- the root is number 0
root_zero : (T : Tree) (f : List ℕ → Bool) → (T ≡ nil → ⊥) → member (by_number f T) 0 ≡ f []
unfolding names listing named size
root_zero nil f alive = absurd (alive refl)
root_zero (node x below younger) f alive =
    member_by (node x below younger) f 0 ∙ rw (lt-ltb 0 (size (node x below younger)) (omega arith))

-- the lowest bit, one joined to it where b
low_bit : (m : ℕ) (b : Bool) → bit_and (bit_or m (cond b 1 0)) 1 ≡ cond (member m 0 || b) 1 0
low_bit m b =
    let n = bit_or m (cond b 1 0) in
    let e : n / 2 ^ 0 ≡ n = omega arith in
    and_mask n 1 ∙ (rw e at (bit_member n 0))
    ∙ ap (λ (x : Bool). cond x 1 0) (member_union m (cond b 1 0) 0 ∙ ap (λ (x : Bool). member m 0 || x) (own b))
  where
    own : (b : Bool) → member (cond b 1 0) 0 ≡ b
    own true = member_zero 1
    own false = member_zero 0

module _ (R : Rule) (well : WellFormed R) (sets : 1 ≤ R.sets) where
  -- the root that is carried is that of the tree
  pub shows_letters : (w : List ℕ) (r : Root) (T : Tree) → is_tree_of R T ≡ true → Shows r T
      → Shows (root_letters R w r) (read_letters R w T)
  unfolding root_letters read_letters
  shows_letters [] r T tree h = h
  shows_letters (a ∷ w) r T tree h =
      shows_letters w (root_letter R a r) (next_tree R a T) (next_is_tree R well sets a T tree) (shows_letter R a r T (of_root R T tree) h)

  -- WHERE IT HAS NO CHILD THE TREE IS KNOWN
  pub read_alone : (w : List ℕ) (r : Root) (T : Tree) → is_tree_of R T ≡ true → Shows r T
      → (root_letters R w r).kids ≡ 0 → read_letters R w T ≡ lone_tree (root_letters R w r)
  unfolding lone_tree
  read_alone w r T tree h none = go (eqb (root_letters R w r).label 0) refl
    where
      kept : is_tree_of R (read_letters R w T) ≡ true
      kept = letters_keep R well sets w T tree

      shown : Shows (root_letters R w r) (read_letters R w T)
      shown = shows_letters w r T tree h

      go : (gone : Bool) → eqb (root_letters R w r).label 0 ≡ gone → read_letters R w T ≡ lone_tree (root_letters R w r)
      go true e = rw e (dead R (root_letters R w r) (read_letters R w T) kept shown (eqb-true _ 0 e))
      go false e = rw e (alone R (root_letters R w r) (read_letters R w T) kept shown none (eqb-false _ 0 e))

  -- ITS NAME: it is stable at every letter, and accepting where it says so
  pub root_followed : (w : List ℕ) (r : Root) (T : Tree) → is_tree_of R T ≡ true → Shows r T → ((root_letters R w r).label ≡ 0 → ⊥)
      → (stable_through R T w [] ≡ true) × ((root_letters R w r).accepted ≡ (r.accepted || accepting_once R T w []))
  unfolding root_letters stable_through accepting_once
  root_followed [] r T tree h alive = (refl, or_comm false r.accepted)
  root_followed (a ∷ w) r T tree h alive =
      let one = of_root R T tree in
      let here : successors R a r.label ≡ 0 → ⊥ = λ e. alive (stays_empty R w (root_letter R a r) (letter_label R a r ∙ e)) in
      let (kept, once) = root_followed w (root_letter R a r) (next_tree R a T) (next_is_tree R well sets a T tree) (shows_letter R a r T one h) alive in (
        rw (root_stable R a r T one h here) kept,
        once ∙ rw (letter_accepted R a r, root_accepting R a r T one h here) (or_assoc r.accepted _ _),
      )

  -- BOTH MAPS WHERE IT HAS NO CHILD: only the root is left to follow
  module _ (T : Tree) (tree : is_tree_of R T ≡ true) (before w : List ℕ) (r : Root) (h : Shows r (read_letters R before T))
      (fresh : r.accepted ≡ false) (none : (root_letters R w r).kids ≡ 0) where
    abbrev there : Root
    there = root_letters R w r

    abbrev root : Node
    root = record { label = there.label; active = there.active }

    read : read_letters R (before ++ w) T ≡ lone_tree there
    read = read_append R before w T ∙ read_alone w r (read_letters R before T) (letters_keep R well sets before T tree) h none

    -- it is alive all along where it is so at the end
    module _ (alive : there.label ≡ 0 → ⊥) where
      alive_before : read_letters R before T ≡ nil → ⊥
      alive_before e = alive (stays_empty R w r (subst (Shows r) e h))

      alive_all : (root_letters R (before ++ w) (root_of T)).label ≡ 0 → ⊥
      unfolding lone_tree
      alive_all e =
          let shown : Shows (root_letters R (before ++ w) (root_of T)) (lone_tree there) =
          subst (Shows (root_letters R (before ++ w) (root_of T))) read (shows_letters (before ++ w) (root_of T) T tree (root_shows T)) in
          alive (sym (rw (ne_eqb there.label 0 alive) at shown).0 ∙ e)

      stable_all : stable_through R T (before ++ w) [] ≡ true
      stable_all = (root_followed (before ++ w) (root_of T) T tree (root_shows T) alive_all).0

      -- it was accepting before, or in these letters
      once_all : accepting_once R T (before ++ w) [] ≡ (member (witness_map R T before) 0 || there.accepted)
      unfolding witness_map
      once_all =
          let kept : stable_through R T before [] ≡ true =
          (and_in (stable_through R T before []) _ (sym (stable_append R T before w []) ∙ stable_all)).0 in
          let in-w : there.accepted ≡ accepting_once R (read_letters R before T) w [] =
          (root_followed w r (read_letters R before T) (letters_keep R well sets before T tree) h alive).1 ∙ rw fresh in
          accepting_append R T before w [] ∙ rw (root_zero (read_letters R before T) _ alive_before, kept, in-w)

    pub root_maps_lem : (kept_map R T (before ++ w) ≡ size (lone_tree there))
        × (witness_map R T (before ++ w) ≡ bit_and (bit_or (witness_map R T before) (cond there.accepted 1 0)) (size (lone_tree there)))
    unfolding kept_map witness_map lone_tree size by_number collect
    root_maps_lem = go (eqb there.label 0) refl
      where
        go : (gone : Bool) → eqb there.label 0 ≡ gone → (kept_map R T (before ++ w) ≡ size (lone_tree there))
            × (witness_map R T (before ++ w) ≡ bit_and (bit_or (witness_map R T before) (cond there.accepted 1 0)) (size (lone_tree there)))
        go true e = (rw (read, e), rw (read, e) (sym (and_zero_r (bit_or (witness_map R T before) (cond there.accepted 1 0)))))
        go false e = let alive = eqb-false there.label 0 e in (
          rw (read, e) (by_one root (stable_through R T (before ++ w)) ∙ rw (stable_all alive)),
          rw (read, e) (by_one root (λ p. stable_through R T (before ++ w) p && accepting_once R T (before ++ w) p)
              ∙ rw (stable_all alive, once_all alive) (sym (low_bit (witness_map R T before) there.accepted))),
        )
