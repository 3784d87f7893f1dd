-- Paths and loops (document 01, "A walk keeps a rule if ..").
use Rattle.std.specs.Prelude.{◌≡◌, true, List, [], ◌∷◌, ◌++◌, ℕ, ◌≤◌, ◌<◌}
use Rattle.std.specs.Int.Bits.{bit_or}
use Rattle.base.specs.BitSet.{member}
use Rattle.rule.specs.Rule.{Rule, edge, cell_at}
use Rattle.word.specs.Walk.{rounds}

-- the letters w lead from state s to state t by transitions whose sets together are the map c
abbrev pub Leads : Rule → List ℕ → ℕ → ℕ → ℕ → Type 0
Leads R [] s c t = (s ≡ t) × (c ≡ 0)
Leads R (a ∷ w) s c t =
    (r : ℕ) × (d : ℕ) × (edge R.grid a s r ≡ true) × Leads R w r d t × (c ≡ bit_or (cell_at R.grid a s r) d)

-- "A walk keeps a rule if there are a state s, i ≥ 0 and j ≥ 1 such that u and i tails lead from a starting state to
-- s, and j further tails lead from s back to s taking at least one transition of each set."
-- In a map of sets bit i−1 stands for set i.
pub record Lasso (R : Rule) (u v : List ℕ) : Type 0 where
  pub origin : ℕ
  pub state : ℕ
  pub lead : ℕ
  pub turns : ℕ
  pub lead_sets : ℕ
  pub loop_sets : ℕ
  pub starts : member R.start origin ≡ true
  pub positive : 1 ≤ turns
  pub leads : Leads R (u ++ rounds lead v) origin lead_sets state
  pub loops : Leads R (rounds turns v) state loop_sets state
  pub every : (i : ℕ) → i < R.sets → member loop_sets i ≡ true
