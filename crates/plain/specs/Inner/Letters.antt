-- Letters read by their look-ups, inside the plain judge: the states that they lead to, and the ways that they open.
use Rattle.std.specs.Prelude.{cond, List, [], ◌∷◌, ℕ, suc, ◌^◌, eqb, get_or}
use Rattle.std.specs.Int.Bits.{bit_or}
use Rattle.rule.specs.Inner.Lanes.{map_of, word_of, in_lane}
use Rattle.rule.specs.Limits.{max_sets}
use Rattle.rule.specs.Inner.Lookup.{Lookup, images_by, look_up}
use Rattle.word.specs.Inner.WalkLookups.{Lookups}

-- what f, which takes a letter's look-up, makes of x, letter by letter
unfoldable pub over : (Lookup → ℕ → ℕ) → Lookups → List ℕ → ℕ → ℕ
over f lookups [] x = x
over f lookups (a ∷ w) x = over f lookups w (f (get_or lookups a []) x)

-- the states that the letters lead to
unfoldable pub states_after : Lookups → List ℕ → ℕ → ℕ
states_after = over (λ lookup states. look_up lookup 0 states)

-- where any transition of a letter leads to from the states s; from none nowhere, whatever the look-up
unfoldable pub onward : Lookup → ℕ → ℕ
onward lookup s = cond (eqb s 0) 0 (look_up lookup 0 s)

-- the row of no letter: state s leads to itself, and no transition is taken
unfoldable pub own_row : ℕ → ℕ
own_row s = in_lane (2 ^ s) 0

-- a row with a letter behind its ways: for set i the letter's transition is one of it, or the way before it takes one
unfoldable pub extended : Lookup → ℕ → ℕ
extended lookup row = bit_or (images_by lookup (map_of row 0)) (word_of (suc max_sets) (λ i. onward lookup (map_of row i)))

-- and with the letters
unfoldable pub row_after : Lookups → List ℕ → ℕ → ℕ
row_after = over extended
