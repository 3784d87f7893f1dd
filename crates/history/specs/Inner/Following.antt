-- Following names through letters, for the contracts of the tree judge's own functions.
use Rattle.std.specs.Prelude.{Bool, true, false, ◌&&◌, ◌||◌, List, [], ◌∷◌, ℕ, length, get_or}
use Rattle.base.specs.BitSet.{member, collect}
use Rattle.rule.specs.Rule.{Rule}
use Rattle.history.specs.Tree.{Tree}
use Rattle.history.specs.Letter.{next_tree, stable, accepting, by_number}
use Rattle.history.specs.Rounds.{read_letters}

-- is the node of that name stable at every letter that is read from T on?
unfoldable pub stable_through : Rule → Tree → List ℕ → List ℕ → Bool
stable_through R T [] p = true
stable_through R T (a ∷ w) p = stable R a T p && stable_through R (next_tree R a T) w p

-- is it accepting at one of them?
unfoldable pub accepting_once : Rule → Tree → List ℕ → List ℕ → Bool
accepting_once R T [] p = false
accepting_once R T (a ∷ w) p = accepting R a T p || accepting_once R (next_tree R a T) w p

-- the nodes of the tree after the letters w, read from T on, that kept their names all along
unfoldable pub kept_map : Rule → Tree → List ℕ → ℕ
kept_map R T w = by_number (stable_through R T w) (read_letters R w T)

-- and those of them that were accepting once
unfoldable pub witness_map : Rule → Tree → List ℕ → ℕ
witness_map R T w = by_number (λ p. stable_through R T w p && accepting_once R T w p) (read_letters R w T)

-- a map of old numbers carried to the new numbers: `olds` has the old number of each new node
unfoldable pub carried : List ℕ → ℕ → ℕ
carried olds m = collect (length olds) (λ j. member m (get_or olds j 0))
