-- The starting record: what the call answers, and what it leaves in the buffer.
use mathlib.Core.Path.{◌≡◌, refl}
use mathlib.Core.List.{List}
use Prim.Native.Nat.{ℕ, ◌≤◌, ◌<◌}
use borrow.Author.Tests.{le-leb, lt-leb}
use lib.ListN.{length}
use Rattle.base.specs.Outcome.{refused}
use Rattle.base.specs.LentBuffer.{stored}
use Rattle.rule.specs.Rule.{Grid, Rule}
use Rattle.table.specs.Inner.ReadRule.{WithinLimits}
use Rattle.table.specs.Table.{read_rule}
use Rattle.table.specs.declared.header.Header.{Header}
use Rattle.table.proofs.Asked.{RuleRead}
use Rattle.history.specs.Tree.{labels, start_tree}
use Rattle.history.proofs.Step.TreesOf.{start_is_tree}
use Rattle.tree.specs.Inner.PackedNodes.{counted_nodes}
use Rattle.tree.specs.Inner.Nodes.{nodes_from, nodes_of, HoldsTree}
use Rattle.tree.specs.Inner.RecordNodes.{start_nodes, HasNodes, nodes_record, Recordable}
use Rattle.tree.specs.StartCall.{record_room, start_outcome, start_answer, start_after, StartCall}
use Rattle.tree.specs.declared.start.StartAnswer.{StartAnswer}
use Rattle.tree.specs.declared.nodes.Tree.{Tree as CodeTree}
use Rattle.tree.proofs.TreeNodes.{has_holds}
use Rattle.tree.proofs.RecordOfNodes.{held_record, held_recordable}

-- the node is that of the starting tree
start_nodes_are : (R : Rule) → start_nodes R.start ≡ nodes_of (start_tree R)
unfolding start_nodes start_tree nodes_of nodes_from labels
start_nodes_are R = refl

-- which is held
pub start_holds : {R : Rule} → WithinLimits R → (x : CodeTree) → HasNodes (start_nodes R.start) x → HoldsTree R (start_tree R) x
start_holds {R} limits x made =
    has_holds R (start_tree R) x (start_is_tree R limits.well limits.some_set) (rw (start_nodes_are R) at made)

-- questions 1 to 6
pub start_refused : (table before : List ℕ) (number : ℕ) → read_rule table ≡ refused number
    → (answer : StartAnswer) → answer ≡ start_answer (refused number) → StartCall table before answer before
unfolding start_outcome start_after
start_refused table before number is answer e = rw is (e, refl)

module _ {table : List ℕ} {header : Header} {cells : Grid} {words : List (List ℕ)} (v : RuleRead table header cells words) where
  -- question 10
  pub start_no_room : (before : List ℕ) → length before < record_room → (answer : StartAnswer) → answer ≡ start_answer (refused 10)
      → StartCall table before answer before
  unfolding start_outcome start_after
  start_no_room before h answer e = rw (v.reads, lt-leb _ _ h) (e, refl)

  module _ (x : CodeTree) (made : HasNodes (start_nodes header.start) x) where
    held : HoldsTree v.rule (start_tree v.rule) x
    held = start_holds v.holds.limits x (rw v.holds.numbers.start at made)

    -- it can be recorded
    pub start_recordable : Recordable header.states (counted_nodes x)
    start_recordable = rw v.holds.numbers.states (held_recordable held v.holds.limits)

    -- all questions are answered yes
    pub start_done : (before : List ℕ) → record_room ≤ length before → (written : ℕ) (after : List ℕ)
        → written ≡ length (nodes_record header.states (counted_nodes x))
        → after ≡ stored 0 (nodes_record header.states (counted_nodes x)) before
        → StartCall table before (record { number = 0; written = written }) after
    unfolding start_outcome start_answer start_after
    start_done before h written after e f = rw (v.reads, le-leb _ _ h, e, f, v.holds.numbers.states, held_record held) (refl, refl)
