-- The tree judge's verdict and the node that it names, as one answer (document 01, "Walks and verdicts").
use Rattle.std.specs.Prelude.{List, ℕ}
use Rattle.rule.specs.Rule.{Rule}
use Rattle.history.specs.Rounds.{round_tree, FirstRepeat}
use Rattle.history.specs.Verdict.{Witness, FirstWitness}

-- what the tree judge finds: yes with a node's name, or no
pub data Finding : Type 0 where
  yes_node : List ℕ → Finding
  no_node : Finding

-- a finding is right: "The tree judge says yes if some node is" a witness. "Of such nodes it gives the first in dictionary
-- order"; it says no if there is none.
abbrev pub Found : Rule → List ℕ → List ℕ → ℕ → ℕ → Finding → Type 0
Found R u v entry period (yes_node w) = FirstWitness R u v entry period w
Found R u v entry period no_node = (w : List ℕ) → Witness R u v entry period w → ⊥

-- what is judged of a walk: entry and period are those of the first repeated tree at a round end, and the finding is right
pub record WalkJudged (R : Rule) (u v : List ℕ) : Type 0 where
  pub entry : ℕ
  pub period : ℕ
  pub repeat : FirstRepeat (round_tree R u v) entry period
  pub finding : Finding
  pub found : Found R u v entry period finding
