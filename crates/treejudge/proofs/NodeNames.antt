-- The name of a tree's node, found from the depths of the nodes, and the lowest node of a map.
use mathlib.Core.Path.{◌≡◌, refl, sym, ◌∙◌, ap}
use mathlib.Core.List.{List, [], ◌∷◌, ◌++◌, map, map-map, map-append}
use Prim.Native.Nat.{ℕ, suc, ◌+◌, ◌-◌, ◌^◌, ◌≤◌, ◌<◌}
use native.Mathlib.Nat.{add_comm}
use native.Mathlib.Omega.{arith}
use native.Mathlib.Numerals.{add-one}
use native.Mathlib.Decide.{ℕ_discrete}
use lib.Count.{count_trailing_zeros}
use lib.ListN.{length, get_or, take, drop, set, length-take, length-set, get_or-map}
use lib.Seq.{get_or-take, get_or-drop, take-take, take-suc-set, length-take-le}
use Rattle.std.specs.Int.{trailing_zeros, w16}
use Rattle.std.proofs.lemmas.Nat.Bits.{bit_at-zero, bit_at-trailing_zeros}
use Rattle.base.specs.BitSet.{member}
use Rattle.rule.specs.Limits.{max_states}
use Rattle.rule.specs.Rule.{Rule}
use Rattle.history.specs.Forest.{nil, node, size, names}
use Rattle.history.specs.Inner.NamesByDepth.{depths_from, depths, name_after}
use Rattle.history.specs.Tree.{Tree}
use Rattle.history.proofs.Tree.Conditions.{OneRoot}
use Rattle.history.proofs.Step.TreesOf.{of_root, of_few}
use Rattle.history.proofs.Names.NamesByDepth.{after_deeper, after_beside, name_root, name_next, name_depth, depth_next, name_small}
use Rattle.tree.specs.Inner.Nodes.{nodes_from, nodes_of, without_old, HoldsTree, blank_node}
use Rattle.tree.specs.Inner.PackedNodes.{unpacked, nodes_in, counted_words}
use Rattle.tree.specs.declared.nodes.Node.{Node as CodeNode}
use Rattle.tree.specs.declared.nodes.Tree.{Tree as CodeTree}
use Rattle.tree.proofs.PackedWords.{node_read}
use Rattle.treejudge.specs.JudgeCall.{name_room}
use Rattle.treejudge.specs.Inner.NodeNames.{Lowest, SomeNode}

-- THE LOWEST NODE

-- the trailing zeros of a map are as many as the numbers below its lowest member
pub lowest_node : (m : ℕ) → m < 2 ^ 16 → Lowest m (trailing_zeros w16 m)
unfolding member count_trailing_zeros
lowest_node m small = go (ℕ_discrete m 0)
  where
    go : Dec (m ≡ 0) → Lowest m (trailing_zeros w16 m)
    go (yes none) = rw none (record { none_before = λ i h. rw (bit_at-zero i) refl; here = λ h. absurd (omega (arith, h)) })
    go (no some) =
        let (below, here, before) = bit_at-trailing_zeros w16 m (omega arith) small in
        record {
          none_before = λ i h. rw (before i h) refl;
          here = λ h. rw here refl;
        }

-- DEPTHS

depths_of_nodes : (d : ℕ) (F : Tree) → map (λ x. x.depth) (nodes_from d F) ≡ depths_from d F
unfolding nodes_from depths_from
depths_of_nodes d nil = refl
depths_of_nodes d (node x below younger) =
    rw (map-append (λ x. x.depth) (nodes_from (suc d) below) (nodes_from d younger), depths_of_nodes (suc d) below, depths_of_nodes d younger)

abbrev pub node_depth : CodeTree → ℕ → ℕ
node_depth x i = (get_or (nodes_in x.nodes) i blank_node).depth

-- a node in the code has its depth in the tree
depth_at : (R : Rule) (T : Tree) (x : CodeTree) → HoldsTree R T x → (i : ℕ) → i < x.count → node_depth x i ≡ get_or (depths T) i 0
unfolding depths nodes_of
depth_at R T x held i h =
    let nodes = take x.count (nodes_in x.nodes) in
    ap (λ (r : CodeNode). r.depth) (sym (get_or-take x.count (nodes_in x.nodes) i blank_node h))
    ∙ sym (get_or-map (λ (r : CodeNode). r.depth) nodes i blank_node)
    ∙ ap (λ (l : List ℕ). get_or l i 0) (sym (map-map (λ (r : CodeNode). r.depth) without_old nodes)
    ∙ ap (map (λ (r : CodeNode). r.depth)) held.are ∙ depths_of_nodes 0 T)

-- ONE NAME BEHIND ANOTHER, IN PLACE

module _ (numbers : List ℕ) (long d : ℕ) (low : 1 ≤ d) (room : d ≤ length numbers) where
  -- the numbers above the depth are kept
  kept : (x : ℕ) → d ≤ suc long → take d (set numbers (d - 1) x) ≡ take (d - 1) (take long numbers) ++ (x ∷ [])
  kept x h = let e : d ≡ suc (d - 1) = omega arith in
      ap (λ (c : ℕ). take c (set numbers (d - 1) x)) e ∙ take-suc-set numbers (d - 1) x (omega arith)
      ∙ ap (λ (l : List ℕ). l ++ (x ∷ [])) (sym (take-take (d - 1) long numbers (omega arith)))

  put_deeper : long < d → d ≤ suc long → take d (set numbers (d - 1) 0) ≡ name_after (take long numbers) d
  put_deeper h g = kept 0 g ∙ sym (after_deeper (take long numbers) d low (omega (arith, length-take long numbers)))

  put_beside : d ≤ long → long ≤ length numbers
      → take d (set numbers (d - 1) (get_or numbers (d - 1) 0 + 1)) ≡ name_after (take long numbers) d
  put_beside h g = kept _ (omega arith)
      ∙ ap (λ (c : ℕ). take (d - 1) (take long numbers) ++ (c ∷ [])) (add-one (get_or numbers (d - 1) 0)
      ∙ ap suc (sym (get_or-take long numbers (d - 1) 0 (omega arith))))
      ∙ sym (after_beside (take long numbers) d low (omega (arith, length-take-le long numbers g)))

-- THE NAME OF A NODE

-- the nodes up to node i are passed, and the first `long` numbers are the name of node i in every tree of these nodes
pub record NamedSoFar (x : CodeTree) (number : ℕ) (numbers : List ℕ) (long i : ℕ) : Type 0 where
  pub room : length numbers ≡ max_states
  pub short : long ≤ name_room
  pub name : (R : Rule) (T : Tree) → HoldsTree R T x → i < x.count → take long numbers ≡ get_or (names T) i []

pub name_start : (x : CodeTree) (number : ℕ) (numbers : List ℕ) → length numbers ≡ max_states → NamedSoFar x number numbers 0 0
name_start x number numbers room = record { room = room; short = omega arith; name = λ R T held h. sym (name_root T) }

-- the next node in any tree of the nodes: its depth and its name
module _ (R : Rule) (T : Tree) (x : CodeTree) (held : HoldsTree R T x) (i : ℕ) (h : i + 1 < x.count) where
  one : OneRoot T
  one = of_root R T held.fits

  later : suc i < size T
  later = omega (arith, held.counts)

  same : node_depth x (i + 1) ≡ get_or (depths T) (suc i) 0
  same = ap (node_depth x) (add-one i) ∙ depth_at R T x held (suc i) (omega arith)

  next_depth : (1 ≤ node_depth x (i + 1)) × ((node_depth x (i + 1) ≤ suc (length (get_or (names T) i []))) × (node_depth x (i + 1) < R.states))
  next_depth =
      let (low, step) = depth_next T one i later in
      let own = name_depth T one (suc i) in
      let (small, _) = name_small T one R.states (of_few R T held.fits) (suc i) later in (
        omega (arith, same),
        (omega (arith, same, name_depth T one i), omega (arith, same)),
      )

  next_name : name_after (get_or (names T) i []) (node_depth x (i + 1)) ≡ get_or (names T) (i + 1) []
  next_name = ap (name_after (get_or (names T) i [])) same ∙ sym (name_next T one i later)
      ∙ ap (λ (c : ℕ). get_or (names T) c []) (sym (add-one i))

-- the words of the nodes up to that one, but for the root's: word i is that of node i + 1
module _ {x : CodeTree} {number : ℕ} (some : SomeNode x number) {words : List ℕ} (are : words ≡ counted_words x) where
  pub node_behind : (n i : ℕ) → n ≡ number → i < length (take n (drop 1 words)) → {r : CodeNode}
      → r ≡ unpacked (get_or (take n (drop 1 words)) i 0) → (i < number) × (r.depth ≡ node_depth x (i + 1))
  node_behind n i e h {r} read =
      let few : i < n = omega (arith, length-take n (drop 1 words)) in
      let there : get_or (take n (drop 1 words)) i 0 ≡ get_or x.nodes (i + 1) 0 =
      get_or-take n (drop 1 words) i 0 few ∙ get_or-drop 1 words i 0
      ∙ rw (are, add_comm 1 i) (get_or-take x.count x.nodes (i + 1) 0 (omega (arith, some.node))) in
      (omega arith, ap (λ (y : CodeNode). y.depth) (node_read x.nodes (i + 1) (read ∙ ap unpacked there)))

module _ {x : CodeTree} {number : ℕ} (some : SomeNode x number) {numbers : List ℕ} {long i : ℕ}
    (v : NamedSoFar x number numbers long i) (h : i < number) where
  abbrev depth : ℕ
  depth = node_depth x (i + 1)

  -- the name of node i in some tree
  now : take long numbers ≡ get_or (names some.tree) i []
  now = v.name some.rule some.tree some.holds (omega (arith, some.node))

  -- the depth of the next node is from 1 to one more than that of node i, and there is room for its name
  next : (1 ≤ depth) × ((depth ≤ suc long) × (depth ≤ name_room))
  next = let (low, (step, most)) = next_depth some.rule some.tree x some.holds i (omega (arith, some.node)) in
      (low, (omega (arith, ap length now, length-take long numbers), omega (arith, some.states)))

  pub depth_low : 1 ≤ depth
  depth_low = next.0

  pub depth_short : depth ≤ name_room
  depth_short = next.1.1

  -- a number of the name can be raised
  pub number_small : depth - 1 < long → get_or numbers (depth - 1) 0 < max_states
  number_small l =
      let long-is = length-take-le long numbers (omega (arith, v.room, v.short)) in
      let (_, small) = name_small some.tree (of_root some.rule some.tree some.holds.fits) some.rule.states
      (of_few some.rule some.tree some.holds.fits) i (omega (arith, some.holds.counts)) in
      rw (← get_or-take long numbers (depth - 1) 0 l, now) (omega (arith, small (depth - 1) (omega (arith, ap length now)), some.states))

  -- the next name
  named : (c : ℕ) → take depth (set numbers (depth - 1) c) ≡ name_after (take long numbers) depth
      → NamedSoFar x number (set numbers (depth - 1) c) depth (i + 1)
  named c e = record {
    room = length-set numbers (depth - 1) c ∙ v.room;
    short = depth_short;
    name = λ R T held l. e ∙ ap (λ (w : List ℕ). name_after w depth) (v.name R T held (omega arith)) ∙ next_name R T x held i l;
  }

  pub name_beside : depth - 1 < long
      → NamedSoFar x number (set numbers (depth - 1) (get_or numbers (depth - 1) 0 + 1)) depth (i + 1)
  name_beside l = let (low, (_, most)) = next in
      named _ (put_beside numbers long depth low (omega (arith, v.room)) (omega arith) (omega (arith, v.room, v.short)))

  pub name_deeper : long ≤ depth - 1 → NamedSoFar x number (set numbers (depth - 1) 0) depth (i + 1)
  name_deeper l = let (low, (step, most)) = next in
      named _ (put_deeper numbers long depth low (omega (arith, v.room)) (omega arith) step)
