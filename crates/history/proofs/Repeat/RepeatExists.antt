-- "There are fewer than 2^63 trees, so a repeat always comes": within the limits of today's tables the first repeat of the
-- trees at round ends exists, with entry and period together below 2^63. Everything else about repeats is stated for a given
-- repeat, and names no limit.
use mathlib.Core.Path.{◌≡◌, sym, ◌∙◌}
use mathlib.Core.Bool.{true}
use mathlib.Core.List.{List, [], ◌∷◌, ◌++◌}
use Prim.Native.Nat.{ℕ, ◌+◌, ◌-◌, ◌^◌, ◌≤◌, ◌<◌}
use native.Mathlib.Omega.{arith}
use Rattle.rule.specs.Limits.{max_states, max_sets}
use Rattle.rule.specs.Rule.{Rule}
use Rattle.rule.specs.WellFormed.{WellFormed}
use Rattle.word.specs.Walk.{rounds}
use Rattle.history.specs.Tree.{Tree, is_tree, is_tree_of, start_tree}
use Rattle.history.specs.Rounds.{read_letters, round_tree, FirstRepeat}
use Rattle.history.proofs.Step.TreesOf.{of_tree, next_is_tree, start_is_tree}
use Rattle.history.proofs.Repeat.TreeCode.{tree_code, code_lt, code_injective}
use Rattle.history.proofs.Repeat.FirstRepeats.{repeats}

module _ (R : Rule) (well : WellFormed R) (sets : 1 ≤ R.sets) where
  -- letters lead from trees to trees
  pub letters_keep : (w : List ℕ) (T : Tree) → is_tree_of R T ≡ true → is_tree_of R (read_letters R w T) ≡ true
  unfolding read_letters
  letters_keep [] T h = h
  letters_keep (a ∷ w) T h = letters_keep w _ (next_is_tree R well sets a T h)

  pub round_is_tree : (u v : List ℕ) (r : ℕ) → is_tree_of R (round_tree R u v r) ≡ true
  unfolding round_tree
  round_is_tree u v r = letters_keep (u ++ rounds r v) (start_tree R) (start_is_tree R well sets)

  pub repeat_exists : R.states ≤ max_states → R.sets ≤ max_sets → (u v : List ℕ)
      → (entry : ℕ) × (period : ℕ) × FirstRepeat (round_tree R u v) entry period × (entry + period < 2 ^ 63)
  repeat_exists few few-sets u v =
      let t = round_tree R u v in
      let tree : (i : ℕ) → is_tree R.states R.sets (t i) ≡ true = λ i. sym (of_tree R (t i)) ∙ round_is_tree u v i in
      let (e, p, first, small) = repeats t (tree_code R.states)
      (λ i j same. code_injective R.states R.sets (t i) (t j) (tree i) (tree j) few few-sets same)
      (2 ^ 63 - 1) (λ i. code_lt R.states R.sets (t i) (tree i) few few-sets) in
      (e, p, first, omega arith)
