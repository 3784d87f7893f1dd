-- The lasso theorem: a walk u v v v … has an accepting run just if it has a loop. So document 01's definition by
-- a loop, "A walk keeps a rule if ..", says the same as acceptance by endless runs. Constructive both ways.
use mathlib.Core.Path.{◌≡◌}
use mathlib.Core.Logic.{◌↔◌}
use mathlib.Core.List.{List, []}
use Prim.Native.Nat.{ℕ}
use Rattle.rule.specs.Rule.{Rule}
use Rattle.rule.specs.WellFormed.{WellFormed}
use Rattle.word.specs.Keeps.{Keeps, KeepsByLasso}
use Rattle.word.proofs.RunToLasso.{run_lasso}
use Rattle.word.proofs.LassoToRun.{lasso_run}

pub lasso_theorem : (R : Rule) (u v : List ℕ) → WellFormed R → (v ≡ [] → ⊥) → Keeps R u v ↔ KeepsByLasso R u v
unfolding Keeps KeepsByLasso
lasso_theorem R u v wf nonempty = (run_lasso R u v wf nonempty, lasso_run R u v nonempty)
