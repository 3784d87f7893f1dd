-- The trees along a walk (document 01, "Walks and verdicts"), and their first repeat.
use Rattle.std.specs.Prelude.{◌≡◌, List, [], ◌∷◌, ◌++◌, ℕ, ◌+◌, ◌≤◌, ◌<◌, take}
use Rattle.rule.specs.Rule.{Rule}
use Rattle.word.specs.Walk.{rounds}
use Rattle.history.specs.Tree.{Tree, start_tree}
use Rattle.history.specs.Letter.{next_tree}

-- the tree after some letters
unfoldable pub read_letters : Rule → List ℕ → Tree → Tree
read_letters R [] T = T
read_letters R (a ∷ w) T = read_letters R w (next_tree R a T)

-- "Round r ends with tree t(r), after u and r tails; t(0) follows u."
unfoldable pub round_tree : Rule → List ℕ → List ℕ → ℕ → Tree
round_tree R u v r = read_letters R (u ++ rounds r v) (start_tree R)

-- the tree before letter i of the tail that is read from t(r)
unfoldable pub tree_in_round : Rule → List ℕ → List ℕ → ℕ → ℕ → Tree
tree_in_round R u v r i = read_letters R (take i v) (round_tree R u v r)

-- "The period p and entry e: t(e+p) is the first tree equal to an earlier one, t(e)."
pub record FirstRepeat {A : Type 0} (t : ℕ → A) (entry period : ℕ) : Type 0 where
  pub positive : 1 ≤ period
  pub back : t entry ≡ t (entry + period)
  pub first : (i j : ℕ) → i < j → j < entry + period → t i ≡ t j → ⊥
