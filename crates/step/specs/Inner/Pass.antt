-- One letter over nodes in one forward pass: what the code computes, for any nodes. The document's five steps are fused;
-- that the pass over the nodes of a tree gives its next tree is a law (proofs/StepOfNodes.antt).
use Rattle.std.specs.Prelude.{Bool, true, false, cond, List, [], ◌∷◌, ◌++◌, ℕ, suc, ◌^◌, ◌≤◌, eqb, ltb, length, get_or}
use Rattle.std.specs.Int.Bits.{bit_or}
use Rattle.base.specs.BitSet.{minus}
use Rattle.rule.specs.Limits.{max_sets}
use Rattle.rule.specs.Inner.Lookup.{Lookup, look_up}
use Rattle.history.specs.Letter.{next_set}
use Rattle.history.specs.Inner.OldNumbers.{no_node}
use Rattle.tree.specs.Inner.Nodes.{blank_node}
use Rattle.tree.specs.declared.nodes.Node.{Node as CodeNode}
use Rattle.step.specs.declared.pass.NewLabels.{NewLabels}

-- a letter's look-up has images for each node's active set
abbrev pub SetsFit : List CodeNode → Type 0
SetsFit nodes = (i : ℕ) → (get_or nodes i blank_node).active ≤ max_sets

-- STEPS 1 TO 3 AT A NODE

-- the states of a node that older nodes do not hold, those of its children, and those of its sprouted child
unfoldable pub new_labels : (ℕ → ℕ → ℕ) → CodeNode → ℕ → NewLabels
new_labels E x held =
    record {
      label = minus (E 0 x.label) held;
      kids = minus (bit_or (E 0 x.kids) (E x.active x.label)) held;
      sprout = E x.active x.label;
    }

-- a level: the children of one node, as the pass reads them from the oldest to the youngest. What older siblings of their ancestors
-- hold; the running set, which is the union of the labels of those that are read; the states of the child that their parent sprouts;
-- and whether the names are kept up to here
pub record Level : Type 0 where
  pub above : ℕ
  pub running : ℕ
  pub sprout : ℕ
  pub named : Bool

-- the level of the root
abbrev pub root_level : Level
root_level = record { above = 0; running = 0; sprout = 0; named = true }

-- what leaves the sibling that is reached (step 3): what its own older siblings hold, and those of its ancestors
abbrev pub held : Level → ℕ
held l = bit_or l.above l.running

-- a sprouted child at depth d, once its older siblings are read
unfoldable pub sprout_node : ℕ → ℕ → ℕ → CodeNode
sprout_node d sprout held = record { depth = d; label = minus sprout held; kids = 0; active = 1; old = no_node }

-- STEP 4 AT A NODE

-- a node with a non-empty label: it accepts where its label is the union of its children's
unfoldable pub settled_node : ℕ → CodeNode → NewLabels → ℕ → CodeNode
settled_node k x m i =
    cond (eqb m.label m.kids)
    (record { depth = x.depth; label = m.label; kids = 0; active = next_set k x.active; old = i })
    (record { depth = x.depth; label = m.label; kids = m.kids; active = x.active; old = i })

-- "Nodes with empty labels are removed": only the others are written
unfoldable pub written : CodeNode → List CodeNode
written x = cond (eqb x.label 0) [] (x ∷ [])

-- a map with the old number i joined, where b
unfoldable pub joined_if : ℕ → ℕ → Bool → ℕ
joined_if map i b = cond b (bit_or map (2 ^ i)) map

-- THE LEVELS

-- the levels, the deepest first, once a node of the deepest is read: a removed node costs its younger siblings their names; another
-- one joins the running set; and where it keeps its children their level is opened
unfoldable pub entered : NewLabels → List Level → List Level
entered m [] = []
entered m (l ∷ levels) =
    cond (eqb m.label 0)
    (record { above = l.above; running = l.running; sprout = l.sprout; named = false } ∷ levels)
    (cond (eqb m.label m.kids)
    (record { above = l.above; running = bit_or l.running m.label; sprout = l.sprout; named = l.named } ∷ levels)
    (record { above = held l; running = 0; sprout = m.sprout; named = l.named }
    ∷ record { above = l.above; running = bit_or l.running m.label; sprout = l.sprout; named = l.named } ∷ levels))

-- levels deeper than d are closed: what is left of them, and the sprouted children that this writes
unfoldable pub levels_to : ℕ → List Level → List Level
levels_to d [] = []
levels_to d (l ∷ levels) = cond (ltb d (length levels)) (levels_to d levels) (l ∷ levels)

unfoldable pub sprouts_to : ℕ → List Level → List CodeNode
sprouts_to d [] = []
sprouts_to d (l ∷ levels) =
    cond (ltb d (length levels)) (written (sprout_node (length levels) l.sprout (held l)) ++ sprouts_to d levels) []

-- the deepest level
unfoldable pub deepest : List Level → Level
deepest [] = root_level
deepest (l ∷ levels) = l

-- THE PASS

-- what has come of the nodes read
pub record Pass : Type 0 where
  pub levels : List Level
  pub nodes : List CodeNode
  pub accepting : ℕ
  pub stable : ℕ

-- with the levels deeper than d closed
unfoldable pub closed_to : ℕ → Pass → Pass
closed_to d p =
    record {
      levels = levels_to d p.levels;
      nodes = p.nodes ++ sprouts_to d p.levels;
      accepting = p.accepting;
      stable = p.stable;
    }

-- the node numbered i, of the deepest level, is read
unfoldable pub passed_node : ℕ → ℕ → CodeNode → NewLabels → Pass → Pass
passed_node k i x m p =
    cond (eqb m.label 0)
    (record { levels = entered m p.levels; nodes = p.nodes; accepting = p.accepting; stable = p.stable })
    (record {
      levels = entered m p.levels;
      nodes = p.nodes ++ (settled_node k x m i ∷ []);
      accepting = joined_if p.accepting i (eqb m.label m.kids);
      stable = joined_if p.stable i (deepest p.levels).named;
    })

-- a node below a node that was removed, or that has lost its descendants, is passed over
unfoldable pub read_node : (ℕ → ℕ → ℕ) → ℕ → ℕ → CodeNode → Pass → Pass
read_node E k i x p =
    cond (ltb x.depth (length p.levels)) (passed_node k i x (new_labels E x (held (deepest p.levels))) p) p

-- nodes numbered from i on are read; each closes the levels that are deeper
unfoldable pub read_nodes : (ℕ → ℕ → ℕ) → ℕ → ℕ → Pass → List CodeNode → Pass
read_nodes E k i p [] = p
read_nodes E k i p (x ∷ nodes) = read_nodes E k (suc i) (read_node E k i x (closed_to x.depth p)) nodes

-- before the first node
abbrev pub at_start : Pass
at_start = record { levels = root_level ∷ []; nodes = []; accepting = 0; stable = 0 }

-- one letter over nodes, by the letter's look-up; there are k sets. The end closes all levels but the root's
unfoldable pub stepped_nodes : Lookup → ℕ → List CodeNode → Pass
stepped_nodes lookup k nodes = closed_to 0 (read_nodes (look_up lookup) k 0 at_start nodes)
