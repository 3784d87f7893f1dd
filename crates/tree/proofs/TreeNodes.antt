-- A tree in the code: its nodes, in front of blank ones.
use mathlib.Core.Path.{◌≡◌, refl, sym, ◌∙◌, ap}
use mathlib.Core.Bool.{true}
use mathlib.Core.List.{List, [], ◌∷◌, ◌++◌, map, map-append}
use Prim.Native.Nat.{ℕ, zero, suc, ◌+◌, ◌-◌, ◌≤◌, ◌<◌}
use native.Mathlib.Numerals.{add-one}
use native.Mathlib.Omega.{arith}
use lib.ListN.{length, get_or, set, take, drop, replicate, length-append, length-map}
use lib.Seq.{take_at, take-suc-set, drop-drop, drop-set-lt, get_or-set_same}
use Rattle.std.proofs.lemmas.List.{take-map}
use Rattle.base.specs.Lists.{pad}
use Rattle.rule.specs.Limits.{max_states}
use Rattle.rule.specs.Rule.{Rule}
use Rattle.history.specs.Forest.{nil, node, size}
use Rattle.history.specs.Tree.{Tree, is_tree_of}
use Rattle.history.proofs.Step.TreesOf.{of_few}
use Rattle.tree.specs.Inner.Nodes.{blank_node, nodes_from, nodes_of, without_old, AreNodes, HoldsTree}
use Rattle.tree.specs.Inner.PackedNodes.{unpacked, nodes_in, counted_nodes, counted_words}
use Rattle.tree.specs.Inner.Places.{places, no_side}
use Rattle.tree.specs.Inner.RecordNodes.{blank_behind, HasNodes}
use Rattle.tree.specs.Inner.Sides.{words_on}
use Rattle.tree.specs.declared.nodes.Node.{Node as CodeNode}
use Rattle.tree.specs.declared.nodes.Tree.{Tree as CodeTree}
use Rattle.tree.specs.declared.sides.DoubleBuffer.{DoubleBuffer}
use Rattle.tree.proofs.PackedWords.{node_written, nodes_many}

-- THE NODES OF A TREE

-- as many as the tree has
pub size_from : (d : ℕ) (T : Tree) → length (nodes_from d T) ≡ size T
unfolding nodes_from size
size_from d nil = refl
size_from d (node x below younger) =
    omega (arith, length-append (nodes_from (suc d) below) (nodes_from d younger), size_from (suc d) below, size_from d younger)

pub nodes_size : (T : Tree) → length (nodes_of T) ≡ size T
unfolding nodes_of
nodes_size T = size_from 0 T

pub are_nodes_size : (nodes : List CodeNode) (T : Tree) → AreNodes nodes T → length nodes ≡ size T
are_nodes_size nodes T are = sym (length-map nodes without_old) ∙ ap length are ∙ nodes_size T

-- they have no old numbers
without_old_lem : (d : ℕ) (F : Tree) → map without_old (nodes_from d F) ≡ nodes_from d F
unfolding nodes_from
without_old_lem d nil = refl
without_old_lem d (node x below younger) =
    rw (map-append without_old (nodes_from (suc d) below) (nodes_from d younger), without_old_lem (suc d) below, without_old_lem d younger)

-- IN THE CODE

-- the nodes that count
has_front : (nodes : List CodeNode) (x : CodeTree) → HasNodes nodes x → counted_nodes x ≡ nodes
unfolding blank_behind pad
has_front nodes x has = rw (has.nodes, has.count) (take_at nodes (replicate (places - length nodes) blank_node) (length nodes) refl)

-- a tree's nodes in front of blank ones hold the tree
pub has_holds : (R : Rule) (T : Tree) (x : CodeTree) → is_tree_of R T ≡ true → HasNodes (nodes_of T) x → HoldsTree R T x
unfolding nodes_of
has_holds R T x fits has = record {
  fits = fits;
  counts = has.count ∙ nodes_size T;
  are = ap (map without_old) (has_front (nodes_of T) x has) ∙ without_old_lem 0 T;
}

-- a tree over a rule within the limits has few nodes
pub tree_small : {R : Rule} {T : Tree} {x : CodeTree} → R.states ≤ max_states → HoldsTree R T x → x.count ≤ max_states
tree_small {R} {T} h held = omega (arith, held.counts, of_few R T held.fits)

-- lists that are the same from a place on are the same from a later one on
pub drop_later : (l m : List ℕ) (i j : ℕ) → i ≤ j → drop i l ≡ drop i m → drop j l ≡ drop j m
drop_later l m i j h same =
    let e : j ≡ i + (j - i) = omega arith in
    rw e (sym (drop-drop (j - i) i l) ∙ ap (drop (j - i)) same ∙ drop-drop (j - i) i m)

-- one word written: what stands behind it is as it was
pub behind_kept : (words before : List ℕ) (j word : ℕ) → drop j words ≡ drop j before → drop (j + 1) (set words j word) ≡ drop (j + 1) before
behind_kept words before j word same = rw add-one
    (drop-set-lt (suc j) words j word (omega arith) ∙ drop_later words before j (suc j) (omega arith) same)

-- and the nodes in front are one more
pub front_more : (words : List ℕ) (j word : ℕ) (x : CodeNode) → unpacked word ≡ x → j < length words
    → take (j + 1) (nodes_in (set words j word)) ≡ take j (nodes_in words) ++ (x ∷ [])
front_more words j word x is room = rw (node_written words j word is, add-one)
    (take-suc-set (nodes_in words) j x (omega (arith, nodes_many words refl)))

-- the nodes of the words that count are those that count
pub counted_in : (x : CodeTree) → nodes_in (counted_words x) ≡ counted_nodes x
counted_in x = sym (take-map unpacked x.count x.nodes)

-- IN A DOUBLE BUFFER

-- a root alone is laid: one node, or none
pub root_laid : (buffer : DoubleBuffer) (word : ℕ) (root : CodeNode) → unpacked word ≡ root → (count : ℕ) → count ≤ 1 → length buffer.sides ≡ 2
    → take count (nodes_in (get_or (set buffer.sides buffer.side (record { nodes = set (words_on buffer buffer.side) 0 word })) buffer.side no_side).nodes) ≡ take count (root ∷ [])
root_laid buffer word root is count few two =
    rw (get_or-set_same buffer.sides buffer.side (record { nodes = set (words_on buffer buffer.side) 0 word }) no_side (omega (arith, buffer.on_a_side)))
    (go (words_on buffer buffer.side) count few (omega (arith, buffer.long buffer.side buffer.on_a_side)))
  where
    go : (words : List ℕ) (count : ℕ) → count ≤ 1 → 0 < length words → take count (nodes_in (set words 0 word)) ≡ take count (root ∷ [])
    go [] count few room = absurd (omega arith)
    go (x ∷ words) zero few room = refl
    go (x ∷ words) (suc zero) few room = rw is
    go (x ∷ words) (suc (suc count)) few room = absurd (omega arith)
