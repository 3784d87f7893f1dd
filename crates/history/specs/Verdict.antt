-- The tree judge's verdict (document 01, "Walks and verdicts"), by names.
use Rattle.std.specs.Prelude.{◌≡◌, true, ◌⊎◌, List, [], ◌∷◌, ℕ, ◌+◌, ◌≤◌, ◌<◌, length, get_or}
use Rattle.rule.specs.Rule.{Rule}
use Rattle.history.specs.Letter.{stable, accepting}
use Rattle.history.specs.Rounds.{tree_in_round}

-- a letter of rounds e+1 to e+p, "the tails read from t(e) to t(e+p)": letter i of the tail read from t(r)
pub record LetterPlace (v : List ℕ) (entry period round i : ℕ) : Type 0 where
  pub from : entry ≤ round
  pub upto : round < entry + period
  pub within : i < length v

-- "some node is stable at every letter of rounds e+1 to e+p and accepting at one of these letters": such a node's name
pub record Witness (R : Rule) (u v : List ℕ) (entry period : ℕ) (w : List ℕ) : Type 0 where
  pub stays : (r i : ℕ) → LetterPlace v entry period r i → stable R (get_or v i 0) (tree_in_round R u v r i) w ≡ true
  pub round : ℕ
  pub place : ℕ
  pub there : LetterPlace v entry period round place
  pub accepts : accepting R (get_or v place 0) (tree_in_round R u v round place) w ≡ true

-- dictionary order, "a name before its extensions"
abbrev pub Before : List ℕ → List ℕ → Type 0
Before [] [] = ⊥
Before [] (j ∷ w) = Unit {0}
Before (i ∷ p) [] = ⊥
Before (i ∷ p) (j ∷ w) = (i < j) ⊎ ((i ≡ j) × Before p w)

-- "Of such nodes it gives the first in dictionary order"
pub record FirstWitness (R : Rule) (u v : List ℕ) (entry period : ℕ) (w : List ℕ) : Type 0 where
  pub witness : Witness R u v entry period w
  pub first : (p : List ℕ) → Witness R u v entry period p → Before p w → ⊥
