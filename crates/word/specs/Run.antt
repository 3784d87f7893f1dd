-- Endless runs and acceptance (document 01, "Walks and verdicts"). This is the meaning that demand 3 speaks of.
use Rattle.std.specs.Prelude.{◌≡◌, true, List, ℕ, suc, ◌≤◌}
use Rattle.base.specs.BitSet.{member}
use Rattle.rule.specs.Rule.{Rule, edge, edge_in}
use Rattle.word.specs.Walk.{letter_at}

-- "An endless run over a walk has a state for every position, a starting state for position 0, and takes at each
-- position a transition of the table from that position's state, under its letter, to the next position's state."
pub record Run (R : Rule) (u v : List ℕ) : Type 0 where
  pub state : ℕ → ℕ
  pub starts : member R.start (state 0) ≡ true
  pub moves : (p : ℕ) → edge R.grid (letter_at u v p) (state p) (state (suc p)) ≡ true

-- the transition that a run takes at position p belongs to set i
abbrev pub Takes : {R : Rule} {u v : List ℕ} → Run R u v → ℕ → ℕ → Type 0
Takes {R} {u} {v} run i p = edge_in R.grid i (letter_at u v p) (run.state p) (run.state (suc p)) ≡ true

-- "It goes through a set infinitely often if, whatever position is named, it takes a transition of that set there or
-- later."
abbrev pub InfinitelyOften : {R : Rule} {u v : List ℕ} → Run R u v → ℕ → Type 0
InfinitelyOften run i = (p : ℕ) → (p' : ℕ) × (p ≤ p') × Takes run i p'

-- acceptance (generalised Büchi): some endless run over the walk goes through every accepting set infinitely often
pub record AcceptingRun (R : Rule) (u v : List ℕ) : Type 0 where
  pub run : Run R u v
  pub often : (i : ℕ) → 1 ≤ i → i ≤ R.sets → InfinitelyOften run i
