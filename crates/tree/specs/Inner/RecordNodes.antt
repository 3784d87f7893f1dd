-- Nodes and record bytes, one from the other: what the contracts of this crate's codec cite. proofs/NodesOfRecord.antt and
-- proofs/RecordOfNodes.antt show that they are the nodes and the record of a tree.
use Rattle.std.specs.Prelude.{◌≡◌, not, ◌&&◌, cond, List, [], ◌∷◌, ◌++◌, map, ℕ, suc, ◌+◌, ◌*◌, ◌/◌, ◌%◌, ◌≤◌, ◌<◌, ltb, length, get_or}
use Rattle.base.specs.BitSet.{member}
use Rattle.base.specs.Lists.{pad}
use Rattle.rule.specs.Limits.{max_states}
use Rattle.history.specs.Record.{members}
use Rattle.tree.specs.Inner.Nodes.{blank_node}
use Rattle.tree.specs.Inner.PackedNodes.{nodes_in}
use Rattle.tree.specs.Inner.Places.{places}
use Rattle.tree.specs.declared.nodes.Node.{Node as CodeNode}
use Rattle.tree.specs.declared.nodes.Tree.{Tree as CodeTree}

-- the node of a starting tree: that of the root alone
unfoldable pub start_nodes : ℕ → List CodeNode
start_nodes start = record { depth = 0; label = start; kids = 0; active = 1; old = 0 } ∷ []

-- nodes in an array, in front of blank ones
unfoldable pub blank_behind : List CodeNode → List CodeNode
blank_behind nodes = pad places blank_node nodes

-- a tree in the code that has just these nodes
pub record HasNodes (all : List CodeNode) (x : CodeTree) : Type 0 where
  pub nodes : nodes_in x.nodes ≡ blank_behind all
  pub count : x.count ≡ length all

-- NODES FROM A RECORD

-- how many tags at the front are deeper than d: the number of nodes below a node of depth d in front of them
unfoldable pub deeper : ℕ → List ℕ → ℕ
deeper d [] = 0
deeper d (m ∷ left) = cond (ltb d (m / 16)) (suc (deeper d left)) 0

-- the nodes of some tags, numbered from i on; `label lo hi` are the states whose hosts are numbered from lo up to hi
unfoldable pub nodes_of_tags : (ℕ → ℕ → ℕ) → ℕ → List ℕ → List CodeNode
nodes_of_tags label i [] = []
nodes_of_tags label i (m ∷ left) =
    let end = suc i + deeper (m / 16) left in
    record { depth = m / 16; label = label i end; kids = label (suc i) end; active = m % 16; old = 0 } ∷ nodes_of_tags label (suc i) left

-- A RECORD FROM NODES

-- the number of a state's host, among nodes numbered from i on: the node that has the state in its label and in no child's
unfoldable pub host_node : ℕ → List CodeNode → ℕ → ℕ
host_node i [] q = i
host_node i (x ∷ nodes) q = cond (member x.label q && not (member x.kids q)) i (host_node (suc i) nodes q)

-- "16 times its depth plus its active set"
unfoldable pub tag_of : CodeNode → ℕ
tag_of x = 16 * x.depth + x.active

-- the bytes of the hosts of the states of s below n, lowest state first, and of the tags, in number order
unfoldable pub host_bytes : List CodeNode → ℕ → ℕ → List ℕ
host_bytes nodes n s = map (host_node 0 nodes) (members n s)

unfoldable pub tag_bytes : List CodeNode → List ℕ
tag_bytes nodes = map tag_of nodes

-- the record of a tree's nodes
unfoldable pub nodes_record : ℕ → List CodeNode → List ℕ
nodes_record n [] = 0 ∷ []
nodes_record n (root ∷ nodes) = root.label ∷ (host_bytes (root ∷ nodes) n root.label ++ tag_bytes (root ∷ nodes))

-- a tree's nodes can be recorded: there is a byte for the root's label and for each tag
pub record Recordable (n : ℕ) (nodes : List CodeNode) : Type 0 where
  pub states : n ≤ max_states
  pub few : length nodes ≤ max_states
  pub root : 0 < length nodes → (get_or nodes 0 blank_node).label < 256
  pub tags : (i : ℕ) → i < length nodes → tag_of (get_or nodes i blank_node) < 256
