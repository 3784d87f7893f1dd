-- Letters read for the root alone, in terms of trees: the root in place is that of the tree, it goes on by look-ups as by the rule, and
-- where it is alone it is the tree.
use mathlib.Core.Path.{◌≡◌, refl, sym, ◌∙◌, ap}
use mathlib.Core.Bool.{Bool, true, false, not}
use mathlib.Core.List.{List, [], ◌∷◌, ◌++◌, map, append-nil}
use Prim.Native.Nat.{ℕ, ◌≤◌, ◌<◌}
use native.Mathlib.Omega.{arith}
use borrow.Author.Tests.{eq-eqb, ne_eqb}
use lib.Dec.{eqb}
use lib.ListN.{length, get_or, take, get_or-map}
use lib.Seq.{get_or-take}
use Rattle.std.specs.Int.{from_bool}
use Rattle.std.specs.Prelude.{Some, None}
use Rattle.base.specs.Lists.{Every}
use Rattle.base.proofs.Every.{every_weaker}
use Rattle.rule.specs.Limits.{max_letters}
use Rattle.rule.specs.Rule.{Rule, successors}
use Rattle.rule.proofs.LookupLaws.{look_up_successors, look_up_successors_in}
use Rattle.word.specs.Walk.{max_length}
use Rattle.word.specs.Inner.WalkLookups.{Lookups, HasLookup}
use Rattle.history.specs.Forest.{nil, node, size}
use Rattle.history.specs.Tree.{Tree, labels}
use Rattle.history.specs.Rounds.{read_letters}
use Rattle.history.specs.Inner.Root.{Root, Shows, lone_tree, root_kids, root_letter, root_letters}
use Rattle.history.proofs.Tree.Conditions.{Active}
use Rattle.history.proofs.Step.TreesOf.{of_nested}
use Rattle.history.proofs.Repeat.RepeatExists.{letters_keep}
use Rattle.history.proofs.Walk.TreesOfWalk.{read_append}
use Rattle.history.proofs.Root.RootLetter.{settled_active}
use Rattle.history.proofs.Root.RootLetters.{read_alone, root_maps_lem}
use Rattle.tree.specs.Inner.Nodes.{nodes_from, nodes_of, without_old, AreNodes, HoldsTree, blank_node}
use Rattle.tree.specs.Inner.PackedNodes.{nodes_in, counted_nodes}
use Rattle.tree.specs.declared.nodes.Node.{Node as CodeNode}
use Rattle.tree.specs.declared.nodes.Tree.{Tree as CodeTree}
use Rattle.letters.specs.Inner.Reading.{HasSets, Readable, ReadsTo}
use Rattle.letters.specs.Inner.Names.{Follows, FollowsOn, FollowsTo}
use Rattle.letters.specs.Inner.RootPass.{root_as, root_by, roots_by, Passable, AloneAt, root_on, IsLone, root_maps, SkipsTo}
use Rattle.letters.specs.declared.follow.Maps.{Maps}
use Rattle.letters.specs.declared.root.Root.{Root as CodeRoot}

-- THE TREE OF A ROOT THAT HAS NO CHILD, IN PLACE

-- the node that the code writes
abbrev pub lone_node : CodeRoot → CodeNode
lone_node root = record { depth = 0; label = root.label; kids = 0; active = root.active; old = 0 }

-- it is the root's, and there is none where the root has no states
pub laid_alone : (root : CodeRoot) (x : CodeTree) (count : ℕ) → count ≡ from_bool (not (eqb root.label 0)) → x.count ≡ count
    → counted_nodes x ≡ take count (lone_node root ∷ []) → IsLone (root_as root) x
unfolding lone_tree size nodes_of nodes_from labels
laid_alone root x count one counts nodes = go (eqb root.label 0) refl
  where
    go : (none : Bool) → eqb root.label 0 ≡ none → IsLone (root_as root) x
    go true e = record { counts = counts ∙ one ∙ rw e refl; are = rw (nodes, one, e) refl }
    go false e = record { counts = counts ∙ one ∙ rw e refl; are = rw (nodes, one, e) refl }

-- THE ROOT OF A TREE IN PLACE

-- its first node, without the old number
first_node : (nodes : List CodeNode) (count : ℕ) → 0 < count
    → get_or (map without_old (take count nodes)) 0 blank_node ≡ without_old (get_or nodes 0 blank_node)
first_node nodes count h = get_or-map without_old (take count nodes) 0 blank_node ∙ ap without_old (get_or-take count nodes 0 blank_node h)

module _ {R : Rule} {T : Tree} {x : CodeTree} (some_set : 1 ≤ R.sets) (held : HoldsTree R T x) where
  -- what is carried shows the tree, and its active set is from 1 to k
  pub root_shown : Shows (root_on x) T × (1 ≤ (root_on x).active) × ((root_on x).active ≤ R.sets) × ((root_on x).accepted ≡ false)
  unfolding root_on nodes_of nodes_from size
  root_shown = go T held.counts held.are (of_nested R T held.fits).active
    where
      go : (T : Tree) → x.count ≡ size T → AreNodes (counted_nodes x) T → Active R.sets T
          → Shows (root_on x) T × (1 ≤ (root_on x).active) × ((root_on x).active ≤ R.sets) × ((root_on x).accepted ≡ false)
      go nil none are fits = rw (eq-eqb x.count 0 none) (refl, omega arith, some_set, refl)
      go (node y below younger) some are (low, high, _, _) =
          let first : without_old (get_or (nodes_in x.nodes) 0 blank_node)
          ≡ record { depth = 0; label = y.label; kids = labels below; active = y.active; old = 0 } =
          sym (first_node (nodes_in x.nodes) x.count (omega arith)) ∙ ap (λ (l : List CodeNode). get_or l 0 blank_node) are in
          let active : (get_or (nodes_in x.nodes) 0 blank_node).active ≡ y.active = ap (λ (n : CodeNode). n.active) first in
          rw (ne_eqb x.count 0 (λ e. omega arith)) (
            (ap (λ (n : CodeNode). n.label) first, ap (λ (n : CodeNode). n.kids) first, active),
            rw active low,
            rw active high,
            refl,
          )

-- BY LOOK-UPS AS BY THE RULE

module _ (R : Rule) (lookups : Lookups) (k : ℕ) (holds : HasSets R k) where
  -- a letter
  root_is : (a : ℕ) → HasLookup R lookups a → (r : Root) → 1 ≤ r.active → r.active ≤ R.sets
      → root_by (get_or lookups a []) k r ≡ root_letter R a r
  unfolding root_by root_letter root_kids
  root_is a has r low high = let limits = holds.limits in
      rw (
        has.entries,
        ← holds.number,
        look_up_successors R limits.well limits.states a r.label,
        look_up_successors R limits.well limits.states a r.kids,
        look_up_successors_in R limits.well limits.states r.active a r.label low (omega (arith, limits.sets)),
      )

  -- the active set stays from 1 to k
  active_kept : (a : ℕ) (r : Root) → 1 ≤ r.active → r.active ≤ R.sets
      → (1 ≤ (root_letter R a r).active) × ((root_letter R a r).active ≤ R.sets)
  unfolding root_letter
  active_kept a r low high =
      let (above, below) = settled_active R.sets R.sets (successors R a r.label) (root_kids R a r) r (omega arith) (omega arith) in
      (above low, below high)

  -- some letters
  pub roots_are : (w : List ℕ) → Every (HasLookup R lookups) w → (r : Root) → 1 ≤ r.active → r.active ≤ R.sets
      → roots_by lookups k w r ≡ root_letters R w r
  unfolding roots_by root_letters
  roots_are [] has r low high = refl
  roots_are (a ∷ w) (own, rest) r low high =
      let (low', high') = active_kept a r low high in rw (root_is a own r low high) (roots_are w rest (root_letter R a r) low' high')

-- A PLACE THAT IS SKIPPED TO

-- the letters can be read for the root alone
pub root_passable : (lookups : Lookups) (k : ℕ) (w : List ℕ) (x : CodeTree) → Readable lookups k w x → length w ≤ max_length
    → (r : Root) → r ≡ root_on x → Passable k w r
unfolding Readable
root_passable lookups k w x (R, T, reads) short r is =
    let limits = reads.holds.limits in
    let (_, _, high, _) = root_shown limits.some_set reads.tree in
    record {
      sets = omega (arith, reads.holds.number, limits.sets);
      active = rw is (omega (arith, high, limits.sets));
      letters = every_weaker (HasLookup R lookups) (λ a. a < max_letters) w (λ a has. omega (arith, has.below, limits.letters))
          reads.has_lookups;
      short = short;
    }

-- where nothing is skipped nothing has changed
pub skips_none : (lookups : Lookups) (k : ℕ) (w : List ℕ) (x : CodeTree) → SkipsTo lookups k w x x None
unfolding ReadsTo FollowsTo read_letters
skips_none lookups k w x = record {
  upto = omega arith;
  reads = λ R T reads. reads.tree;
  follows = λ m R T before F. rw append-nil F.follows;
}

-- where the root is alone, the tree is that root, and only it is left to follow
module _ (lookups : Lookups) (k : ℕ) (w : List ℕ) (x y : CodeTree) (place : ℕ) (r : Root) (alone : AloneAt lookups k w (root_on x) place r)
    (lone : IsLone r y) where
  module _ {R : Rule} {T : Tree} (holds : HasSets R k) (has : Every (HasLookup R lookups) (take place w)) (tree : HoldsTree R T x) where
    abbrev shown : Shows (root_on x) T × (1 ≤ (root_on x).active) × ((root_on x).active ≤ R.sets) × ((root_on x).accepted ≡ false)
    shown = root_shown holds.limits.some_set tree

    root_there : r ≡ root_letters R (take place w) (root_on x)
    root_there = alone.root ∙ roots_are R lookups k holds (take place w) has (root_on x) shown.1 shown.2

    none_there : (root_letters R (take place w) (root_on x)).kids ≡ 0
    none_there = rw (← root_there) alone.alone

    tree_there : HoldsTree R (read_letters R (take place w) T) y
    tree_there =
        let read = read_alone R holds.limits.well holds.limits.some_set (take place w) (root_on x) T tree.fits shown.0 none_there in
        record {
          fits = letters_keep R holds.limits.well holds.limits.some_set (take place w) T tree.fits;
          counts = lone.counts ∙ rw (read, root_there);
          are = rw (read, ← root_there) lone.are;
        }

  pub skips_alone : SkipsTo lookups k w x y (Some (record { place = place; accepted = r.accepted }))
  unfolding ReadsTo FollowsTo
  skips_alone = record {
    upto = alone.upto;
    reads = λ R T reads. tree_there reads.holds reads.has_lookups reads.tree;
    follows = λ m R T before F. followed m R T before F;
  }
    where
      followed : (m : Maps) (R : Rule) (T : Tree) (before : List ℕ) → FollowsOn R T before lookups k (take place w) x m
          → Follows R T (before ++ take place w) y (root_maps (Some (record { place = place; accepted = r.accepted })) y.count m)
      followed m R T before F =
          let limits = F.holds.limits in
          let tree = F.follows.tree in
          let there = root_there F.holds F.has_lookups tree in
          let first = root_shown limits.some_set tree in
          let (kept, witnesses) = root_maps_lem R limits.well limits.some_set T F.follows.first before (take place w) (root_on x)
          first.0 first.3 (none_there F.holds F.has_lookups tree) in
          record {
            first = F.follows.first;
            tree = rw read_append (tree_there F.holds F.has_lookups tree);
            kept = lone.counts ∙ rw there (sym kept);
            witnesses = rw (F.follows.witnesses, lone.counts, there) (sym witnesses);
          }
