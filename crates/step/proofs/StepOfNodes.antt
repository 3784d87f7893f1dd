-- The pass over the nodes of a tree is the letter's step: it gives the nodes of the next tree, the old numbers of its nodes
-- and the two maps. So it leads from a tree in a double buffer to the next one.
use mathlib.Core.Path.{◌≡◌, refl, sym, ◌∙◌, ap, subst}
use mathlib.Core.Bool.{Bool, true, false, cond}
use mathlib.Core.List.{List, [], ◌∷◌, ◌++◌, map}
use Prim.Native.Nat.{ℕ, zero, suc, ◌+◌, ◌^◌, ◌≤◌, ◌<◌}
use native.Mathlib.Omega.{arith}
use native.Mathlib.Decide.{dec_lt}
use native.Mathlib.Nat.{pow-suc}
use lib.Bits.{or_lt}
use lib.Dec.{eqb, ltb}
use lib.ListN.{get_or-eq_default, length, get_or}
use lib.Pow.{pow_pos}
use Rattle.rule.specs.Limits.{max_sets}
use Rattle.rule.specs.Rule.{Rule, successors, successors_in}
use Rattle.rule.specs.Inner.Lookup.{Lookup, letter_lookup, look_up}
use Rattle.rule.specs.Inner.Padded.{padded}
use Rattle.rule.proofs.LookupLaws.{look_up_successors, look_up_successors_in}
use Rattle.table.specs.Inner.ReadRule.{WithinLimits}
use Rattle.history.specs.Forest.{nil, node, size}
use Rattle.history.specs.Tree.{Tree, is_tree_of}
use Rattle.history.specs.Letter.{sprouted, five_steps, survivors, next_tree}
use Rattle.history.specs.Inner.OldNumbers.{no_node, old_number, old_numbers}
use Rattle.history.proofs.Tree.Conditions.{Fits, Active, OneRoot}
use Rattle.history.proofs.Step.TreesOf.{of_out, of_root, of_few, of_nested, next_is_tree}
use Rattle.history.proofs.Step.StepsJoined.{plain_node, survivors_steps}
use Rattle.tree.specs.Inner.PackedNodes.{counted_nodes}
use Rattle.tree.specs.Inner.Nodes.{nodes_from, nodes_of, without_old, AreNodes, HoldsTree, blank_node}
use Rattle.tree.specs.Inner.Sides.{tree_in}
use Rattle.tree.specs.declared.nodes.Node.{Node as CodeNode}
use Rattle.tree.specs.declared.nodes.Tree.{Tree as CodeTree}
use Rattle.tree.specs.declared.sides.DoubleBuffer.{DoubleBuffer}
use Rattle.tree.proofs.TreeNodes.{nodes_size, are_nodes_size, tree_small}
use Rattle.step.specs.Inner.Stepping.{StepsTo, Steppable, Stepping}
use Rattle.step.specs.Inner.Pass.{new_labels, held, joined_if, settled_node, deepest, Pass, closed_to, passed_node, read_node, read_nodes, at_start, SetsFit, stepped_nodes}
use Rattle.step.specs.declared.pass.Stepped.{Stepped}
use Rattle.step.proofs.GrownNodes.{Gives, grown_nodes_lem, grown_olds}
use Rattle.step.proofs.PassTree.{pass_dead, pass_root}
use Rattle.step.proofs.OldNumbers.{tree_numbered}
use Rattle.step.proofs.MapsByNumber.{accepting_map_lem, stable_map_lem}

-- ANY NODES

-- the old numbers of the nodes read do not count
pub read_without_old : (E : ℕ → ℕ → ℕ) (k i : ℕ) (p : Pass) (nodes : List CodeNode) → read_nodes E k i p (map without_old nodes) ≡ read_nodes E k i p nodes
unfolding read_nodes read_node passed_node new_labels settled_node
read_without_old E k i p [] = refl
read_without_old E k i p (x ∷ nodes) = read_without_old E k (suc i) (read_node E k i x (closed_to x.depth p)) nodes

-- the maps have numbers of nodes read
abbrev MapsBelow : ℕ → Pass → Type 0
MapsBelow i p = (p.accepting < 2 ^ i) × (p.stable < 2 ^ i)

joined_below : (map i : ℕ) (b : Bool) → map < 2 ^ i → joined_if map i b < 2 ^ suc i
unfolding joined_if
joined_below map i true h = or_lt (suc i) map (2 ^ i) (omega (arith, pow-suc 2 i)) (omega (arith, pow-suc 2 i, pow_pos i))
joined_below map i false h = omega (arith, pow-suc 2 i)

either_below : (i : ℕ) (b : Bool) (p q : Pass) → MapsBelow i p → MapsBelow i q → MapsBelow i (cond b p q)
either_below i true p q h k = h
either_below i false p q h k = k

read_below : (E : ℕ → ℕ → ℕ) (k i : ℕ) (x : CodeNode) (p : Pass) → MapsBelow i p → MapsBelow (suc i) (read_node E k i x p)
unfolding read_node passed_node
read_below E k i x p (a, s) =
    let more : MapsBelow (suc i) p = (omega (arith, pow-suc 2 i), omega (arith, pow-suc 2 i)) in
    either_below (suc i) (ltb x.depth (length p.levels)) _ p
    (either_below (suc i) (eqb (new_labels E x (held (deepest p.levels))).label 0) _ _ more
    (joined_below p.accepting i _ a, joined_below p.stable i _ s)) more

nodes_below : (E : ℕ → ℕ → ℕ) (k i : ℕ) (p : Pass) (nodes : List CodeNode) → MapsBelow i p → MapsBelow (i + length nodes) (read_nodes E k i p nodes)
unfolding read_nodes closed_to
nodes_below E k i p [] h = let e : i + 0 ≡ i = omega arith in rw e h
nodes_below E k i p (x ∷ nodes) h = let e : i + suc (length nodes) ≡ suc i + length nodes = omega arith in
    rw e (nodes_below E k (suc i) (read_node E k i x (closed_to x.depth p)) nodes (read_below E k i x (closed_to x.depth p) h))

-- THE NODES OF A TREE

-- their active sets are those of the nodes, from 1 to k
abbrev pub ActiveSets : ℕ → List CodeNode → Type 0
ActiveSets k nodes = (i : ℕ) → i < length nodes → (1 ≤ (get_or nodes i blank_node).active) × ((get_or nodes i blank_node).active ≤ k)

actives_append : (k : ℕ) (l r : List CodeNode) → ActiveSets k l → ActiveSets k r → ActiveSets k (l ++ r)
actives_append k [] r hl hr i h = hr i h
actives_append k (x ∷ l) r hl hr zero h = hl 0 (omega arith)
actives_append k (x ∷ l) r hl hr (suc i) h = actives_append k l r (λ i h. hl (suc i) (omega arith)) hr i (omega arith)

actives_from : (k d : ℕ) (T : Tree) → Active k T → ActiveSets k (nodes_from d T)
unfolding nodes_from
actives_from k d nil fits i h = absurd (omega arith)
actives_from k d (node x below younger) (low, high, down, on) zero h = (low, high)
actives_from k d (node x below younger) (low, high, down, on) (suc i) h =
    actives_append k (nodes_from (suc d) below) (nodes_from d younger) (actives_from k (suc d) below down) (actives_from k d younger on)
    i (omega arith)

with_old : (k : ℕ) (nodes : List CodeNode) → ActiveSets k (map without_old nodes) → ActiveSets k nodes
with_old k [] h i less = absurd (omega arith)
with_old k (x ∷ nodes) h zero less = h 0 (omega arith)
with_old k (x ∷ nodes) h (suc i) less = with_old k nodes (λ i less. h (suc i) (omega arith)) i (omega arith)

active_sets : (R : Rule) (nodes : List CodeNode) (T : Tree) → is_tree_of R T ≡ true → AreNodes nodes T → ActiveSets R.sets nodes
unfolding nodes_of
active_sets R nodes T tree are = with_old R.sets nodes (rw are (actives_from R.sets 0 T (of_nested R T tree).active))

-- so the look-up has images for them
pub sets_fit : (R : Rule) (nodes : List CodeNode) (T : Tree) → R.sets ≤ max_sets → is_tree_of R T ≡ true → AreNodes nodes T → SetsFit nodes
sets_fit R nodes T h tree are i = go (dec_lt i (length nodes))
  where
    go : Dec (i < length nodes) → (get_or nodes i blank_node).active ≤ max_sets
    go (yes less) = omega (arith, (active_sets R nodes T tree are i less).1)
    go (no more) = rw (get_or-eq_default nodes blank_node {n = i} (omega arith)) (omega arith)

-- ONE LETTER

-- what the letter's look-up gives: the images of a set under all transitions, and under those of one accepting set
module _ {R : Rule} (limits : WithinLimits R) (a : ℕ) where
  abbrev pub images : ℕ → ℕ → ℕ
  images = look_up (letter_lookup (get_or (padded R.grid) a []))

  pub images_all : (s : ℕ) → images 0 s ≡ successors R a s
  images_all = look_up_successors R limits.well limits.states a

  pub images_in : (i s : ℕ) → 1 ≤ i → i ≤ R.sets → images i s ≡ successors_in R i a s
  images_in i s low high = look_up_successors_in R limits.well limits.states i a s low (omega (arith, limits.sets))

module _ {R : Rule} (limits : WithinLimits R) (a : ℕ) (T : Tree) (tree : is_tree_of R T ≡ true) where
  abbrev E : ℕ → ℕ → ℕ
  E = images limits a

  abbrev whole : Pass
  whole = closed_to 0 (read_nodes E R.sets 0 at_start (nodes_of T))

  few : size T < no_node
  few = omega (arith, of_few R T tree, limits.states)

  -- a sprouted node has no old number
  none : old_number T sprouted ≡ no_node
  unfolding old_number
  none = refl

  -- the pass gives the nodes after the letter
  gives : Gives (old_number T) whole (survivors R a T)
  gives = let t = of_out R T tree in rw (survivors_steps R a T) (go T none t.one_root t.fits few)
    where
      go : (F : Tree) → old_number F sprouted ≡ no_node → OneRoot F → Fits R.sets F → size F < no_node
          → Gives (old_number F) (closed_to 0 (read_nodes E R.sets 0 at_start (nodes_of F))) (five_steps R a F)
      go nil e one fits small = pass_dead R a E (old_number nil) e (images_all limits a) (images_in limits a)
      go (node x below nil) e one fits small = let (root, inner) = tree_numbered x below small in
          pass_root R a E (old_number (node x below nil)) e (images_all limits a) (images_in limits a) x below fits root inner
      go (node x below (node y other younger)) e one fits small = absurd one

  -- the maps have no number past the last node's
  maps_below : MapsBelow (size T) whole
  unfolding closed_to
  maps_below =
      let e : 0 + length (nodes_of T) ≡ size T = omega (arith, nodes_size T) in
      subst (λ (n : ℕ). MapsBelow n whole) e (nodes_below E R.sets 0 at_start (nodes_of T) (pow_pos 0, pow_pos 0))

  -- so a tree that has its nodes, and an answer that has its maps, are the letter's step
  steps : (y : CodeTree) (r : Stepped) → counted_nodes y ≡ whole.nodes → y.count ≡ length whole.nodes
      → r.accepting ≡ whole.accepting → r.stable ≡ whole.stable → StepsTo R a T y r
  unfolding next_tree plain_node nodes_of old_numbers
  steps y r are many accepts keeps =
      let one = of_root R T tree in
      let grown : AreNodes whole.nodes (next_tree R a T) = ap (map without_old) gives.nodes ∙ grown_nodes_lem (old_number T) 0 (survivors R a T) in
      record {
        next = record {
          fits = next_is_tree R limits.well limits.some_set a T tree;
          counts = many ∙ are_nodes_size whole.nodes (next_tree R a T) grown;
          are = rw are grown;
        };
        olds = rw are (ap (map (λ x. x.old)) gives.nodes ∙ grown_olds (old_number T) 0 (survivors R a T));
        accepting = accepts ∙ gives.accepting ∙ accepting_map_lem R a T one few (rw gives.accepting at maps_below.0);
        stable = keeps ∙ gives.stable ∙ stable_map_lem R a T one few (rw gives.stable at maps_below.1);
      }

-- A TREE IN A DOUBLE BUFFER

module _ {R : Rule} (limits : WithinLimits R) {T : Tree} (buffer : DoubleBuffer) (here : HoldsTree R T (tree_in buffer)) where
  abbrev nodes : List CodeNode
  nodes = counted_nodes (tree_in buffer)

  -- a letter can be read from it
  pub place_ready : Steppable buffer
  place_ready = record {
    few = tree_small limits.states here;
    fits = sets_fit R nodes T limits.sets here.fits here.are;
  }

  module _ (lookup : Lookup) (k a : ℕ) (sets : R.sets ≡ k) (by : lookup ≡ letter_lookup (get_or (padded R.grid) a []))
      (r : Stepped) (after : DoubleBuffer) (step : Stepping (stepped_nodes lookup k nodes) buffer r after) where
    -- the pass over its nodes
    over_tree : stepped_nodes lookup k nodes
        ≡ closed_to 0 (read_nodes (look_up (letter_lookup (get_or (padded R.grid) a []))) R.sets 0 at_start (nodes_of T))
    unfolding stepped_nodes
    over_tree = rw (← sets, by, ← here.are) (ap (closed_to 0) (sym (read_without_old _ R.sets 0 at_start nodes)))

    -- is the letter's step, to the next tree
    pub place_steps : StepsTo R a T (tree_in after) r
    place_steps = let s = rw over_tree at step in steps limits a T here.fits _ r s.nodes s.count s.accepting s.stable
