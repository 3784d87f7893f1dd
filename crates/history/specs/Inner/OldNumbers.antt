-- The old number of each node of the next tree, for the contracts of the code of one letter.
use Rattle.std.specs.Prelude.{cond, List, [], ◌∷◌, map, ℕ, suc}
use Rattle.rule.specs.Rule.{Rule}
use Rattle.history.specs.Forest.{listing, names, same_numbers}
use Rattle.history.specs.Tree.{Tree}
use Rattle.history.specs.Letter.{Origin, was, sprouted, survivors}

-- the number of no node
abbrev pub no_node : ℕ
no_node = 255

-- the number of a name among names numbered from i on
unfoldable pub number_from : ℕ → List ℕ → List (List ℕ) → ℕ
number_from i w [] = no_node
number_from i w (p ∷ ps) = cond (same_numbers w p) i (number_from (suc i) w ps)

unfoldable pub old_number : Tree → Origin → ℕ
old_number T (was w) = number_from 0 w (names T)
old_number T sprouted = no_node

-- the old numbers of the nodes of the next tree, in number order
unfoldable pub old_numbers : Rule → ℕ → Tree → List ℕ
old_numbers R a T = map (λ x. old_number T x.origin) (listing (survivors R a T))
