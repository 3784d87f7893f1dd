-- The tree theorem: the tree judge's verdict is right. Some node is stable at every letter of rounds e+1 to e+p and
-- accepting at one of them just if the walk keeps the rule, and just if it has a loop. It holds for every well-formed
-- rule with at least one set, whatever the numbers of states, letters and sets, and for every walk whose tail is not empty.
use mathlib.Core.Path.{◌≡◌}
use mathlib.Core.Logic.{◌↔◌}
use mathlib.Core.List.{List, []}
use Prim.Native.Nat.{ℕ, ◌≤◌}
use Rattle.rule.specs.Rule.{Rule}
use Rattle.rule.specs.WellFormed.{WellFormed}
use Rattle.word.specs.Keeps.{Keeps, KeepsByLasso}
use Rattle.word.specs.Lasso.{Lasso}
use Rattle.word.proofs.Positions.{filled}
use Rattle.word.proofs.LassoTheorem.{lasso_theorem}
use Rattle.history.specs.Rounds.{round_tree, FirstRepeat}
use Rattle.history.specs.Verdict.{Witness}
use Rattle.history.proofs.Theorem.WitnessToLasso as To
use Rattle.history.proofs.Theorem.LassoToWitness as From

module _ (R : Rule) (well : WellFormed R) (sets : 1 ≤ R.sets) (u v : List ℕ) (nonempty : v ≡ [] → ⊥)
    (entry period : ℕ) (F : FirstRepeat (round_tree R u v) entry period) where
  -- a witness shows a loop
  pub witness_lasso : (w : List ℕ) → Witness R u v entry period w → Lasso R u v
  witness_lasso = To.witness_lasso R well sets u v (filled v nonempty) entry period F

  -- a loop has a witness
  pub lasso_witness : Lasso R u v → (w : List ℕ) × Witness R u v entry period w
  lasso_witness = From.lasso_witness R well sets u v (filled v nonempty) entry period F

  -- so the verdict is yes just if the walk keeps the rule by a loop,
  pub tree_lasso : ((w : List ℕ) × Witness R u v entry period w) ↔ KeepsByLasso R u v
  unfolding KeepsByLasso
  tree_lasso = (λ x. witness_lasso x.0 x.1, lasso_witness)

  -- and so just if it keeps the rule
  pub tree_theorem : ((w : List ℕ) × Witness R u v entry period w) ↔ Keeps R u v
  tree_theorem =
      let (to-loop, from-loop) = lasso_theorem R u v well nonempty in
      (λ x. from-loop (tree_lasso.0 x), λ keeps. tree_lasso.1 (to-loop keeps))
