-- Letters read for the root alone: what the contracts of the tree judge's own functions say of it. The definitions are those of the root
-- by itself (crates/history/specs/Inner/Root.antt), here by look-ups.
use Rattle.std.specs.Prelude.{◌≡◌, false, cond, List, [], ◌∷◌, ℕ, ◌/◌, ◌%◌, ◌^◌, ◌≤◌, ◌<◌, eqb, length, get_or, take, Option, Some, None, MatchOption}
use Rattle.std.specs.Int.Bits.{bit_and, bit_or}
use Rattle.base.specs.Lists.{Every}
use Rattle.rule.specs.Limits.{max_letters, max_sets}
use Rattle.rule.specs.Inner.Lookup.{Lookup, look_up}
use Rattle.word.specs.Walk.{max_length}
use Rattle.word.specs.Inner.WalkLookups.{Lookups}
use Rattle.history.specs.Forest.{size}
use Rattle.history.specs.Inner.Root.{Root, lone_tree, settled_root}
use Rattle.tree.specs.Inner.Nodes.{AreNodes, blank_node}
use Rattle.tree.specs.Inner.PackedNodes.{nodes_in, counted_nodes}
use Rattle.tree.specs.declared.nodes.Tree.{Tree as CodeTree}
use Rattle.letters.specs.Inner.Reading.{ReadsTo}
use Rattle.letters.specs.Inner.Names.{FollowsTo}
use Rattle.letters.specs.declared.follow.Maps.{Maps}
use Rattle.letters.specs.declared.root.Root.{Root as CodeRoot}
use Rattle.letters.specs.declared.root.RootAt.{RootAt}
use Rattle.letters.specs.declared.root.Skipped.{Skipped}

-- the root as the code carries it
abbrev pub root_as : CodeRoot → Root
root_as r = record { label = r.label; kids = r.kids; active = r.active; accepted = r.accepted }

-- LETTERS BY LOOK-UPS

-- after a letter, by its look-up; there are k sets
unfoldable pub root_by : Lookup → ℕ → Root → Root
root_by lookup k r =
    settled_root k (look_up lookup 0 r.label) (bit_or (look_up lookup 0 r.kids) (look_up lookup r.active r.label)) r

-- after some letters
unfoldable pub roots_by : Lookups → ℕ → List ℕ → Root → Root
roots_by lookups k [] r = r
roots_by lookups k (a ∷ w) r = roots_by lookups k w (root_by (get_or lookups a []) k r)

-- WHERE THE ROOT IS ALONE

-- the letters can be read for the root alone: each has its place in the look-ups, these have images for the active set, and the letters
-- are no more than a walk's part has
pub record Passable (k : ℕ) (w : List ℕ) (r : Root) : Type 0 where
  pub sets : k ≤ max_sets
  pub active : r.active ≤ max_sets
  pub letters : Every (λ a. a < max_letters) w
  pub short : length w ≤ max_length

-- r is the root behind the first `place` letters of w, and has no child there
pub record AloneAt (lookups : Lookups) (k : ℕ) (w : List ℕ) (first : Root) (place : ℕ) (r : Root) : Type 0 where
  pub some : 0 < place
  pub upto : place ≤ length w
  pub root : r ≡ roots_by lookups k (take place w) first
  pub alone : r.kids ≡ 0

-- where a place was found, the root is alone there
abbrev pub FoundAlone : Lookups → ℕ → List ℕ → Root → Option RootAt → Type 0
FoundAlone lookups k w first found = MatchOption found Unit (λ r. AloneAt lookups k w first r.place (root_as r.root))

-- the place that was found, or 0
abbrev pub place_found : Option RootAt → ℕ
place_found None = 0
place_found (Some r) = r.place

-- and the root has a child behind each longer part of the first n letters
pub record LastAlone (lookups : Lookups) (k : ℕ) (w : List ℕ) (first : Root) (n : ℕ) (found : Option RootAt) : Type 0 where
  pub here : FoundAlone lookups k w first found
  pub within : place_found found ≤ n
  pub last : (i : ℕ) → place_found found < i → i ≤ n → (roots_by lookups k (take i w) first).kids ≡ 0 → ⊥

-- A PLACE AND ITS ROOT IN ONE WORD: the label, the active set, whether it was accepting, and the place, from the lowest bits up

unfoldable pub place_in : ℕ → ℕ
place_in word = word / 2 ^ 32

unfoldable pub root_in : ℕ → Root
root_in word =
    record { label = word % 2 ^ 16; kids = 0; active = word / 2 ^ 16 % 2 ^ 8; accepted = eqb (word / 2 ^ 24 % 2 ^ 8) 1 }

-- the place and the root of a word; at place 0 there is none
abbrev pub InWord : ℕ → Option RootAt → Type 0
InWord word found =
    MatchOption found (place_in word ≡ 0) (λ r. (0 < place_in word) × (r.place ≡ place_in word) × (root_as r.root ≡ root_in word))

-- TREES IN PLACE

-- the root of a tree: its first node; of the dead tree, one without states
unfoldable pub root_on : CodeTree → Root
root_on x =
    let root = get_or (nodes_in x.nodes) 0 blank_node in
    cond (eqb x.count 0)
    (record { label = 0; kids = 0; active = 1; accepted = false })
    (record { label = root.label; kids = root.kids; active = root.active; accepted = false })

-- the nodes that count are those of a root that has no child
pub record IsLone (r : Root) (x : CodeTree) : Type 0 where
  pub counts : x.count ≡ size (lone_tree r)
  pub are : AreNodes (counted_nodes x) (lone_tree r)

-- how many letters are skipped
abbrev pub place_of : Option Skipped → ℕ
place_of None = 0
place_of (Some there) = there.place

-- both maps where only the root is left to follow: there are `count` roots, one or none; where nothing is skipped they are as they were
abbrev pub root_maps : Option Skipped → ℕ → Maps → Maps
root_maps None count m = m
root_maps (Some there) count m =
    record { kept = count; witnesses = bit_and (bit_or m.witnesses (cond there.accepted 1 0)) count }

-- x leads to y by the letters of w that are skipped, and its followed nodes to those of the maps at that place
pub record SkipsTo (lookups : Lookups) (k : ℕ) (w : List ℕ) (x y : CodeTree) (skipped : Option Skipped) : Type 0 where
  pub upto : place_of skipped ≤ length w
  pub reads : ReadsTo lookups k (take (place_of skipped) w) x y
  pub follows : (m : Maps) → FollowsTo lookups k (take (place_of skipped) w) x m y (root_maps skipped y.count m)
