-- One letter on a record, under a rule and by the letter's look-up: what is answered, and what is left in the buffer, from the tree that was
-- read and from what the letter has made of its nodes.
use mathlib.Core.Path.{◌≡◌, refl, sym, ◌∙◌}
use mathlib.Core.List.{List}
use Prim.Native.Nat.{ℕ, ◌≤◌, ◌<◌}
use borrow.Author.Tests.{le-leb, lt-leb}
use lib.Dec.{leb}
use lib.ListN.{length}
use Rattle.std.specs.Prelude.{Some, None}
use Rattle.base.specs.Outcome.{Outcome, refused, accepted}
use Rattle.base.specs.LentBuffer.{stored}
use Rattle.base.proofs.Logic.{and_both}
use Rattle.rule.specs.Limits.{max_states, max_sets}
use Rattle.rule.specs.Inner.Lookup.{Lookup}
use Rattle.rule.specs.Rule.{Rule}
use Rattle.table.specs.Inner.Preparing.{PreparedLetter}
use Rattle.table.specs.declared.header.Header.{Header}
use Rattle.history.specs.Tree.{Tree}
use Rattle.history.specs.Record.{read_tree}
use Rattle.history.proofs.Records.QuestionNine.{record_accepted}
use Rattle.history.proofs.Step.TreesOf.{of_tree}
use Rattle.tree.specs.Inner.RecordCode.{checked_tree, tree_beside, Checks}
use Rattle.tree.specs.Inner.Nodes.{HoldsTree}
use Rattle.tree.specs.Inner.PackedNodes.{counted_nodes}
use Rattle.tree.specs.Inner.Sides.{tree_in}
use Rattle.tree.specs.Inner.RecordNodes.{nodes_record, Recordable}
use Rattle.tree.specs.StartCall.{record_room}
use Rattle.tree.specs.declared.record.Checked.{Checked}
use Rattle.tree.specs.declared.nodes.Tree.{Tree as CodeTree}
use Rattle.tree.specs.declared.sides.DoubleBuffer.{DoubleBuffer}
use Rattle.tree.proofs.TreeNodes.{has_holds}
use Rattle.tree.proofs.NodesOfRecord.{limits_yes}
use Rattle.tree.proofs.RecordOfNodes.{held_record, held_recordable}
use Rattle.step.specs.Inner.Stepping.{StepsTo, Steppable, Stepping}
use Rattle.step.specs.Inner.Pass.{stepped_nodes}
use Rattle.step.specs.StepCall.{step_under, step_answer, step_after, StepDone}
use Rattle.step.specs.declared.call.StepAnswer.{StepAnswer}
use Rattle.step.specs.declared.pass.Stepped.{Stepped}
use Rattle.step.proofs.StepOfNodes.{place_ready, place_steps}

-- the tree behind a check's answer yes is held
pub record TreeRead (R : Rule) (bytes : List ℕ) (x : CodeTree) : Type 0 where
  pub tree : Tree
  pub reads : read_tree R.states R.sets bytes ≡ accepted tree
  pub holds : HoldsTree R tree x

module _ {R : Rule} {header : Header} {a : ℕ} {lookup : Lookup} (p : PreparedLetter R header a lookup) where
  -- the rule's numbers are within the limits
  pub numbers_fit : (header.states ≤ max_states) × ((1 ≤ header.sets) × (header.sets ≤ max_sets))
  numbers_fit = rw (p.numbers.states, p.numbers.sets) (p.limits.states, (p.limits.some_set, p.limits.sets))

  module _ (bytes before : List ℕ) where
    -- QUESTION 9

    abbrev outcome : Outcome Tree
    outcome = read_tree R.states R.sets bytes

    module _ {checked : Checked} (c : Checks (checked_tree header.states header.sets bytes) checked) where
      checks : Checks outcome checked
      checks =
          let (states, (some, sets)) = numbers_fit in
          rw (
            limits_yes header.states header.sets bytes (and_both (leb header.states max_states) (leb header.sets max_sets)
                (le-leb header.states max_states states) (le-leb header.sets max_sets sets)),
            p.numbers.states,
            p.numbers.sets,
          ) at c

      -- the answer no
      pub step_no_tree : checked.count ≡ None → (answer : StepAnswer) → answer ≡ step_answer (refused 9)
          → StepDone (step_under R a bytes before) before answer before
      unfolding step_under step_after
      step_no_tree none answer e = rw (rw none at checks.count) (e, refl)

      -- the answer yes
      pub tree_read : (count : ℕ) → checked.count ≡ Some count → TreeRead R bytes checked.tree
      unfolding tree_beside
      tree_read count some =
          let (T, is, counted) = rw some at checks.count in
          let held = has_holds R T checked.tree (of_tree R T ∙ (record_accepted R.states R.sets bytes T is).0) (rw is at checks.tree) in
          record { tree = T; reads = is; holds = held }

      -- with so many nodes
      pub tree_counted : (count : ℕ) → checked.count ≡ Some count → checked.tree.count ≡ count
      unfolding tree_beside
      tree_counted count some =
          let (T, is, counted) = rw some at checks.count in
          let held = has_holds R T checked.tree (of_tree R T ∙ (record_accepted R.states R.sets bytes T is).0) (rw is at checks.tree) in
          held.counts ∙ sym counted

    module _ {x : CodeTree} (w : TreeRead R bytes x) where
      -- question 10
      pub step_no_room : length before < record_room → (answer : StepAnswer) → answer ≡ step_answer (refused 10)
          → StepDone (step_under R a bytes before) before answer before
      unfolding step_under step_after
      step_no_room h answer e = rw (w.reads, lt-leb _ _ h) (e, refl)

      -- the letter can be read from the tree in a double buffer,
      module _ (laid : DoubleBuffer) (is : tree_in laid ≡ x) where
        here : HoldsTree R w.tree (tree_in laid)
        here = rw is w.holds

        pub step_ready : Steppable laid
        step_ready = place_ready p.limits laid here

        -- and its look-up is the rule's: so the next tree stands there
        module _ (r : Stepped) (after : DoubleBuffer) (step : Stepping (stepped_nodes lookup header.sets (counted_nodes (tree_in laid))) laid r after) where
          steps : StepsTo R a w.tree (tree_in after) r
          steps = place_steps p.limits laid here lookup header.sets a (sym p.numbers.sets) p.is_lookup.entries r after step

          -- it can be recorded
          pub step_recordable : Recordable header.states (counted_nodes (tree_in after))
          step_recordable = rw p.numbers.states (held_recordable steps.next p.limits)

          -- all questions are answered yes
          pub step_done : record_room ≤ length before → (written : ℕ) (buffer : List ℕ)
              → written ≡ length (nodes_record header.states (counted_nodes (tree_in after)))
              → buffer ≡ stored 0 (nodes_record header.states (counted_nodes (tree_in after))) before
              → StepDone (step_under R a bytes before) before
              (record { number = 0; written = written; accepting = r.accepting; stable = r.stable }) buffer
          unfolding step_under step_answer step_after
          step_done h written buffer e f = rw (e, f, p.numbers.states, held_record steps.next, steps.accepting, steps.stable)
              (rw (w.reads, le-leb _ _ h) (refl, refl))
