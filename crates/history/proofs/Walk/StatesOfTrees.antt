-- The trees of a walk are trees of its rule, each follows the one before it by the local step, and the states that a tree holds are those
-- in which the rule can be.
use mathlib.Core.Path.{◌≡◌, ◌∙◌, ap}
use mathlib.Core.Bool.{true}
use mathlib.Core.List.{List}
use Prim.Native.Nat.{ℕ, zero, suc, ◌≤◌}
use lib.Bits.{or_zero_r}
use Rattle.base.specs.BitSet.{member}
use Rattle.rule.specs.Rule.{Rule, successors}
use Rattle.rule.specs.WellFormed.{WellFormed}
use Rattle.word.specs.Walk.{letter_at}
use Rattle.word.specs.Lasso.{Leads}
use Rattle.history.specs.Tree.{labels, is_tree_of, start_tree}
use Rattle.history.proofs.Tree.Conditions.{IsTree}
use Rattle.history.proofs.Step.LocalStep.{step}
use Rattle.history.proofs.Step.LabelsOfStep.{labels_next}
use Rattle.history.proofs.Step.StepsJoined.{next_tree_step}
use Rattle.history.proofs.Step.TreesOf.{of_out, next_is_tree, start_is_tree}
use Rattle.history.proofs.Walk.Stretches.{stretch}
use Rattle.history.proofs.Walk.StatesReached.{states_reached, reached_states}
use Rattle.history.proofs.Walk.TreesOfWalk.{tree_at}

module _ (R : Rule) (well : WellFormed R) (sets : 1 ≤ R.sets) (u v : List ℕ) where
  -- the trees of a walk are trees
  test_at : (p : ℕ) → is_tree_of R (tree_at R u v p) ≡ true
  unfolding tree_at
  test_at zero = start_is_tree R well sets
  test_at (suc p) = next_is_tree R well sets (letter_at u v p) (tree_at R u v p) (test_at p)

  pub is_tree_at : (p : ℕ) → IsTree R.states R.sets (tree_at R u v p)
  is_tree_at p = of_out R (tree_at R u v p) (test_at p)

  -- the next tree by the local step
  pub tree_next : (p : ℕ) → tree_at R u v (suc p) ≡ step R (letter_at u v p) 0 0 (tree_at R u v p)
  unfolding tree_at
  tree_next p = next_tree_step R (letter_at u v p) (tree_at R u v p) (is_tree_at p).one_root

  -- THE STATES OF A TREE

  states_start : labels (tree_at R u v 0) ≡ R.start
  unfolding tree_at start_tree labels
  states_start = or_zero_r R.start

  states_next : (p : ℕ) → labels (tree_at R u v (suc p)) ≡ successors R (letter_at u v p) (labels (tree_at R u v p))
  states_next p = ap labels (tree_next p) ∙ labels_next R (letter_at u v p) (tree_at R u v p)

  -- each state of a tree is reached, and each that is reached is in the tree
  pub state_reached : (p q : ℕ) → member (labels (tree_at R u v p)) q ≡ true
      → (s : ℕ) × (c : ℕ) × (member R.start s ≡ true) × Leads R (stretch (letter_at u v) p) s c q
  state_reached = states_reached R (letter_at u v) (λ p. labels (tree_at R u v p)) states_start (λ p q h. rw (states_next p) at h)

  pub state_held : (p s c q : ℕ) → member R.start s ≡ true → Leads R (stretch (letter_at u v) p) s c q
      → member (labels (tree_at R u v p)) q ≡ true
  state_held = reached_states R (letter_at u v) (λ p. labels (tree_at R u v p)) states_start well (λ p q h. rw (states_next p) h)
