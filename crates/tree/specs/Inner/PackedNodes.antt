-- Nodes as machine words (crates/tree/src/packed.rt).
use Rattle.std.specs.Prelude.{List, map, ℕ, ◌/◌, ◌%◌, ◌^◌, take}
use Rattle.tree.specs.declared.nodes.Node.{Node as CodeNode}
use Rattle.tree.specs.declared.nodes.Tree.{Tree as CodeTree}

-- the node of a word: depth, label, union of the children's labels, active set and old number, from the lowest bits up
unfoldable pub unpacked : ℕ → CodeNode
unpacked word =
    record {
      depth = word % 2 ^ 16;
      label = word / 2 ^ 16 % 2 ^ 16;
      kids = word / 2 ^ 32 % 2 ^ 16;
      active = word / 2 ^ 48 % 2 ^ 8;
      old = word / 2 ^ 56 % 2 ^ 8;
    }

-- the nodes of some words
abbrev pub nodes_in : List ℕ → List CodeNode
nodes_in words = map unpacked words

-- the nodes of a tree: those that count
abbrev pub counted_nodes : CodeTree → List CodeNode
counted_nodes x = take x.count (nodes_in x.nodes)

-- their words
abbrev pub counted_words : CodeTree → List ℕ
counted_words x = take x.count x.nodes
