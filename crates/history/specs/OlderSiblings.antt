-- Older siblings while a letter is read (document 02, U4): the union of their labels, "both as they were before these siblings lost
-- states to one another and as they are after".
use Rattle.std.specs.Prelude.{◌≡◌, List, [], ◌∷◌, ◌++◌, ℕ, get_or}
use Rattle.std.specs.Int.Bits.{bit_or}
use Rattle.base.specs.BitSet.{minus}
use Rattle.rule.specs.Rule.{Rule}
use Rattle.history.specs.Forest.{Forest, nil, node}
use Rattle.history.specs.Tree.{Tree}
use Rattle.history.specs.Letter.{Grown, two_steps, three_steps}

-- the nodes as siblings are "before these siblings lost states to one another": a state in a node's label has left "everything below"
-- its younger siblings, and not yet these. `above` is the union of the labels of the older siblings of a node's ancestors; `older` has
-- those of its own older siblings besides, as in step 3.
unfoldable pub apart_above : ℕ → ℕ → Forest Grown → Forest Grown
apart_above above older nil = nil
apart_above above older (node x below younger) =
    node (record { origin = x.origin; before = x.before; label = minus x.label above; active = x.active; accepting = x.accepting })
    (apart_above older older below)
    (apart_above above (bit_or older x.label) younger)

-- siblings that lose states to one another, with the union of the older ones' labels kept as "a running set while passing from the oldest
-- to the youngest": from `apart_above` on this is step 3 (`step_three_by_sets` in proofs/Step/OlderSiblingLaws.antt)
unfoldable pub without_older : ℕ → Forest Grown → Forest Grown
without_older set nil = nil
without_older set (node x below younger) =
    node (record { origin = x.origin; before = x.before; label = minus x.label set; active = x.active; accepting = x.accepting })
    (without_older 0 below)
    (without_older (bit_or set x.label) younger)

-- for each node by number, "the union of its older siblings' labels"; `set` is that of the first of some siblings
unfoldable pub older_labels_from : ℕ → Forest Grown → List ℕ
older_labels_from set nil = []
older_labels_from set (node x below younger) = set ∷ (older_labels_from 0 below ++ older_labels_from (bit_or set x.label) younger)

unfoldable pub older_labels : Forest Grown → List ℕ
older_labels F = older_labels_from 0 F

-- a set is "the union of its older siblings' labels", for the node numbered n after steps 1 and 2
pub record OlderUnion (R : Rule) (a : ℕ) (T : Tree) (n set : ℕ) : Type 0 where
  -- "as they were before these siblings lost states to one another"
  pub before : set ≡ get_or (older_labels (apart_above 0 0 (two_steps R a T))) n 0
  -- "and as they are after"
  pub after : set ≡ get_or (older_labels (three_steps R a T)) n 0
