-- The record that is written from the nodes of a tree is the tree's record, and it can be written: its numbers are bytes.
use mathlib.Core.Path.{◌≡◌, refl, sym, ◌∙◌, ap, ap₂}
use mathlib.Core.Logic.{⊎_elim}
use mathlib.Core.Bool.{Bool, true, false, not, ◌&&◌, cond}
use mathlib.Core.List.{List, [], ◌∷◌, ◌++◌, map, map-map, map-append, append_assoc, append-nil}
use Prim.Native.Nat.{ℕ, zero, suc, ◌+◌, ◌^◌, ◌≤◌, ◌<◌}
use native.Mathlib.Omega.{arith}
use lib.ListN.{get_or, get_or-map}
use lib.Pow.{pow_pos, pow_mono}
use Rattle.base.specs.BitSet.{member}
use Rattle.base.specs.Lists.{Every}
use Rattle.base.proofs.BitSet.{member_none}
use Rattle.base.proofs.Logic.{look, clash, never}
use Rattle.rule.specs.Rule.{Rule}
use Rattle.table.specs.Inner.ReadRule.{WithinLimits}
use Rattle.history.specs.Forest.{nil, node, size}
use Rattle.history.specs.Tree.{Node, Tree, labels}
use Rattle.history.specs.Record.{host_from, host, tags, record_of}
use Rattle.history.proofs.Tree.Conditions.{Nested, Active, NestedTree}
use Rattle.history.proofs.Tree.Hosts.{held_here, held_younger, held_in, host_below, host_here, host_younger}
use Rattle.history.proofs.Records.Members.{map_members}
use Rattle.history.proofs.Records.RecordOfTree.{root_states}
use Rattle.history.proofs.Step.TreesOf.{of_few, of_nested}
use Rattle.tree.specs.Inner.PackedNodes.{counted_nodes}
use Rattle.tree.specs.Inner.Nodes.{nodes_from, nodes_of, without_old, AreNodes, HoldsTree, blank_node}
use Rattle.tree.specs.Inner.RecordNodes.{host_node, tag_of, host_bytes, tag_bytes, nodes_record, Recordable}
use Rattle.tree.specs.declared.nodes.Node.{Node as CodeNode}
use Rattle.tree.specs.declared.nodes.Tree.{Tree as CodeTree}
use Rattle.tree.proofs.TreeNodes.{are_nodes_size, tree_small}

-- HOSTS

-- a node hosts a state, or the nodes behind it do
module _ (i d : ℕ) (x : Node) (below : Tree) (rest : List CodeNode) (q : ℕ) where
  abbrev front : CodeNode
  front = record { depth = d; label = x.label; kids = labels below; active = x.active; old = 0 }

  node_hosts : member x.label q ≡ true → member (labels below) q ≡ false → host_node i (front ∷ rest) q ≡ i
  unfolding host_node
  node_hosts m b = go (member x.label q) (member (labels below) q) m b
    where
      go : (a c : Bool) → a ≡ true → c ≡ false → cond (a && not c) i (host_node (suc i) rest q) ≡ i
      go true true m b = clash b refl
      go true false m b = refl
      go false c m b = clash refl m

  node_below : member (labels below) q ≡ true → host_node i (front ∷ rest) q ≡ host_node (suc i) rest q
  unfolding host_node
  node_below b = go (member x.label q) (member (labels below) q) b
    where
      go : (a c : Bool) → c ≡ true → cond (a && not c) i (host_node (suc i) rest q) ≡ host_node (suc i) rest q
      go true true b = refl
      go true false b = clash refl b
      go false c b = refl

  node_without : member x.label q ≡ false → host_node i (front ∷ rest) q ≡ host_node (suc i) rest q
  unfolding host_node
  node_without m = ap (λ (a : Bool). cond (a && not (member (labels below) q)) i (host_node (suc i) rest q)) m

module _ (q : ℕ) where
  -- siblings that do not hold a state: neither they nor the nodes below them host it
  host_elsewhere : (i d : ℕ) (F : Tree) (rest : List CodeNode) → Nested F → member (labels F) q ≡ false
      → host_node i (nodes_from d F ++ rest) q ≡ host_node (i + size F) rest q
  unfolding nodes_from size
  host_elsewhere i d nil rest w h = let e : i + 0 ≡ i = omega arith in rw e
  host_elsewhere i d (node x below younger) rest (f, down, on) h =
      let out : member x.label q ≡ false = never _ (λ m. clash h (held_here x below younger q m)) in
      let none : member (labels below) q ≡ false = never _ (λ m. clash out (f.within q m)) in
      let other : member (labels younger) q ≡ false = never _ (λ m. clash h (held_younger x below younger q m)) in
      let last : suc i + size below + size younger ≡ i + suc (size below + size younger) = omega arith in
      rw (append_assoc (nodes_from (suc d) below) (nodes_from d younger) rest) (node_without i d x below _ q out
      ∙ host_elsewhere (suc i) (suc d) below (nodes_from d younger ++ rest) down none
      ∙ host_elsewhere (suc i + size below) d younger rest on other ∙ ap (λ (c : ℕ). host_node c rest q) last)

  -- siblings that hold it
  host_among : (i d : ℕ) (F : Tree) (rest : List CodeNode) → Nested F → member (labels F) q ≡ true
      → host_node i (nodes_from d F ++ rest) q ≡ host_from i F q
  unfolding nodes_from labels
  host_among i d nil rest w h = clash (member_none q) h
  host_among i d (node x below younger) rest (f, down, on) h =
      let next : suc i + size below ≡ suc (i + size below) = omega arith in
      rw (append_assoc (nodes_from (suc d) below) (nodes_from d younger) rest) (
      ⊎_elim (λ b. node_below i d x below _ q b ∙ host_among (suc i) (suc d) below (nodes_from d younger ++ rest) down b
      ∙ sym (host_below i x below younger q (f.within q b) b))
      (λ b. ⊎_elim (λ m. node_hosts i d x below _ q m b ∙ sym (host_here i x below younger q m b))
      (λ m. node_without i d x below _ q m ∙ host_elsewhere (suc i) (suc d) below (nodes_from d younger ++ rest) down b
      ∙ ap (λ (c : ℕ). host_node c (nodes_from d younger ++ rest) q) next
      ∙ host_among (suc (i + size below)) d younger rest on (⊎_elim (λ e. clash m e) (λ e. e) (held_in x below younger q h))
      ∙ sym (host_younger i x below younger q m))
      (look (member x.label q))) (look (member (labels below) q)))

-- TAGS

-- the tags of a tree's nodes are the tree's
tags_of_nodes : (d : ℕ) (F : Tree) → map tag_of (nodes_from d F) ≡ tags d F
unfolding nodes_from tags tag_of
tags_of_nodes d nil = refl
tags_of_nodes d (node x below younger) =
    rw (map-append tag_of (nodes_from (suc d) below) (nodes_from d younger), tags_of_nodes (suc d) below, tags_of_nodes d younger)

-- tags are bytes
tags_small : (k d : ℕ) (F : Tree) (left : List ℕ) → Active k F → k < 16 → d + size F ≤ 16 → Every (λ m. m < 256) left
    → Every (λ m. m < 256) (tags d F ++ left)
unfolding tags size
tags_small k d nil left w h few rest = rest
tags_small k d (node x below younger) left (low, high, down, on) h few rest =
    rw (append_assoc (tags (suc d) below) (tags d younger) left) (
      omega arith,
      tags_small k (suc d) below (tags d younger ++ left) down h (omega arith) (tags_small k d younger left on h (omega arith) rest),
    )

byte_at_lem : (l : List ℕ) → Every (λ m. m < 256) l → (i : ℕ) → get_or l i 0 < 256
byte_at_lem [] h i = omega arith
byte_at_lem (m ∷ l) h zero = h.0
byte_at_lem (m ∷ l) h (suc i) = byte_at_lem l h.1 i

-- OLD NUMBERS DO NOT COUNT

host_without_old : (i : ℕ) (l : List CodeNode) (q : ℕ) → host_node i (map without_old l) q ≡ host_node i l q
unfolding host_node
host_without_old i [] q = refl
host_without_old i (x ∷ l) q =
    ap (λ (c : ℕ). cond (member x.label q && not (member x.kids q)) i c) (host_without_old (suc i) l q)

record_without_old : (n : ℕ) (l : List CodeNode) → nodes_record n (map without_old l) ≡ nodes_record n l
unfolding nodes_record host_bytes tag_bytes tag_of
record_without_old n [] = refl
record_without_old n (x ∷ l) = ap₂ (λ (u v : List ℕ). x.label ∷ (u ++ v))
    (map_members _ _ n x.label (λ q _ m. host_without_old 0 (x ∷ l) q))
    (map-map tag_of without_old (x ∷ l))

-- THE RECORD OF A TREE

tree_record : (n k : ℕ) (T : Tree) → NestedTree n k T → nodes_record n (nodes_of T) ≡ record_of n T
unfolding nodes_record nodes_of nodes_from record_of host_bytes tag_bytes host
tree_record n k nil w = refl
tree_record n k (node x below nil) w = ap₂ (λ (u v : List ℕ). x.label ∷ (u ++ v))
    (map_members (host_node 0 (nodes_from 0 T)) (host_from 0 T) n x.label (λ q _ m. hosts q m)) (tags_of_nodes 0 T)
  where
    T : Tree
    T = node x below nil

    hosts : (q : ℕ) → member x.label q ≡ true → host_node 0 (nodes_from 0 T) q ≡ host_from 0 T q
    hosts q m = ap (λ (l : List CodeNode). host_node 0 l q) (sym (append-nil (nodes_from 0 T)))
        ∙ host_among q 0 0 T [] w.nested (rw (root_states x below) m)
tree_record n k (node x below (node y other younger)) w = absurd w.one_root

-- the root's label is a byte
root_small : (n k : ℕ) (T : Tree) → NestedTree n k T → (get_or (nodes_of T) 0 blank_node).label < 2 ^ n
unfolding nodes_of nodes_from
root_small n k nil w = pow_pos n
root_small n k (node x below nil) w = rw (root_states x below) at w.states
root_small n k (node x below (node y other younger)) w = absurd w.one_root

-- what is written for a tree's nodes is its record
pub record_of_nodes : (n k : ℕ) (T : Tree) → NestedTree n k T → (l : List CodeNode) → AreNodes l T → nodes_record n l ≡ record_of n T
record_of_nodes n k T t l e = sym (record_without_old n l) ∙ ap (nodes_record n) e ∙ tree_record n k T t

module _ {R : Rule} {T : Tree} {x : CodeTree} (held : HoldsTree R T x) where
  pub held_record : nodes_record R.states (counted_nodes x) ≡ record_of R.states T
  held_record = record_of_nodes R.states R.sets T (of_nested R T held.fits) (counted_nodes x) held.are

  abbrev nodes : List CodeNode
  nodes = counted_nodes x

  tag_at : (i : ℕ) → tag_of (get_or nodes i blank_node) ≡ get_or (tags 0 T) i 0
  unfolding tag_of nodes_of
  tag_at i = sym (get_or-map tag_of nodes i blank_node)
      ∙ ap (λ (l : List ℕ). get_or l i 0) (sym (map-map tag_of without_old nodes) ∙ ap (map tag_of) held.are ∙ tags_of_nodes 0 T)

  root_at : (get_or nodes 0 blank_node).label ≡ (get_or (nodes_of T) 0 blank_node).label
  root_at = ap (λ (r : CodeNode). r.label) (sym (get_or-map without_old nodes 0 blank_node))
      ∙ ap (λ (l : List CodeNode). (get_or l 0 blank_node).label) held.are

  -- and they can be recorded
  pub held_recordable : WithinLimits R → Recordable R.states (counted_nodes x)
  held_recordable limits = record {
    states = limits.states;
    few = omega (arith, tree_small limits.states held, held.counts, are_nodes_size (counted_nodes x) T held.are);
    root = λ l. omega (arith, root_at, root_small R.states R.sets T tree, pow_mono {i = R.states} {j = 8} limits.states);
    tags = λ i l. rw (tag_at i) (byte_at_lem (tags 0 T) bytes i);
  }
    where
      tree : NestedTree R.states R.sets T
      tree = of_nested R T held.fits

      bytes : Every (λ m. m < 256) (tags 0 T)
      bytes = rw (append-nil (tags 0 T)) at (tags_small R.sets 0 T [] tree.active (omega (arith, limits.sets))
          (omega (arith, of_few R T held.fits, limits.states)) tt)
