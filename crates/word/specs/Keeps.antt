-- What it means that a walk keeps a rule (document 01, "Walks and verdicts"), under one name; and document 01's form of it by a loop. That
-- the two say the same is the lasso theorem (crates/word/proofs/LassoTheorem.antt).
use Rattle.std.specs.Prelude.{List, ℕ}
use Rattle.rule.specs.Rule.{Rule}
use Rattle.word.specs.Run.{AcceptingRun}
use Rattle.word.specs.Lasso.{Lasso}

-- a walk keeps a rule, by "the mission's meaning": "some endless run over the walk goes through every set infinitely often"
unfoldable pub Keeps : Rule → List ℕ → List ℕ → Type 0
Keeps R u v = AcceptingRun R u v

-- "A walk keeps a rule if there are a state s, i ≥ 0 and j ≥ 1 such that u and i tails lead from a starting state to s, and j further
-- tails lead from s back to s taking at least one transition of each set."
unfoldable pub KeepsByLasso : Rule → List ℕ → List ℕ → Type 0
KeepsByLasso R u v = Lasso R u v
