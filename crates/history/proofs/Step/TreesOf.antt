-- The trees of a rule: all that the laws of the trees along a walk, of following names and of the code need to know of them.
use mathlib.Core.Path.{◌≡◌, refl, sym, ◌∙◌}
use mathlib.Core.Bool.{true}
use Prim.Native.Nat.{ℕ, ◌≤◌}
use Rattle.rule.specs.Rule.{Rule}
use Rattle.rule.specs.WellFormed.{WellFormed}
use Rattle.history.specs.Forest.{size}
use Rattle.history.specs.Tree.{Tree, is_tree, is_tree_of, start_tree}
use Rattle.history.specs.Letter.{next_tree}
use Rattle.history.proofs.Tree.Conditions.{OneRoot, IsTree, NestedTree, tree_nested, tree_out, tree_in}
use Rattle.history.proofs.Step.StepsJoined.{next_tree_step}
use Rattle.history.proofs.Step.TreesKept.{step_fits, start_fits_lem, few_nodes}

module _ (R : Rule) (T : Tree) where
  -- they are the trees over its states and its sets
  pub of_tree : is_tree_of R T ≡ is_tree R.states R.sets T
  unfolding is_tree_of
  of_tree = refl

  pub of_out : is_tree_of R T ≡ true → IsTree R.states R.sets T
  of_out h = tree_out R.states R.sets T (sym of_tree ∙ h)

  pub of_in : IsTree R.states R.sets T → is_tree_of R T ≡ true
  of_in t = of_tree ∙ tree_in R.states R.sets T t

  -- one root at most, and no more nodes than states
  pub of_root : is_tree_of R T ≡ true → OneRoot T
  of_root h = (of_out h).one_root

  pub of_few : is_tree_of R T ≡ true → size T ≤ R.states
  of_few h = few_nodes R.states R.sets T (sym of_tree ∙ h)

  -- what their records need
  pub of_nested : is_tree_of R T ≡ true → NestedTree R.states R.sets T
  of_nested h = tree_nested R.states R.sets T (of_out h)

module _ (R : Rule) (well : WellFormed R) (sets : 1 ≤ R.sets) where
  -- the next tree of a tree is a tree
  pub next_is_tree : (a : ℕ) (T : Tree) → is_tree_of R T ≡ true → is_tree_of R (next_tree R a T) ≡ true
  next_is_tree a T h = rw (next_tree_step R a T (of_root R T h)) (of_in R _ (step_fits R a sets T (of_out R T h)))

  -- the starting tree is a tree
  pub start_is_tree : is_tree_of R (start_tree R) ≡ true
  start_is_tree = of_in R (start_tree R) (start_fits_lem R well sets)
