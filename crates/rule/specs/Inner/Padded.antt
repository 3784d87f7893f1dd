-- The read table inside the code: "arrays of arrays: letter, state, next state" (document 01, "Which form each place
-- takes"). The arrays have the limits' lengths; places that the rule does not have hold "no transition".
use Rattle.std.specs.Prelude.{List, map, ℕ, replicate}
use Rattle.base.specs.Lists.{pad}
use Rattle.rule.specs.Limits.{max_states, max_letters, no_transition}
use Rattle.rule.specs.Rule.{Grid}

abbrev pub blank_row : List ℕ
blank_row = replicate max_states no_transition

abbrev pub blank_square : List (List ℕ)
blank_square = replicate max_states blank_row

abbrev pub blank_cells : Grid
blank_cells = replicate max_letters blank_square

unfoldable pub padded_row : List ℕ → List ℕ
padded_row row = pad max_states no_transition row

unfoldable pub padded_square : List (List ℕ) → List (List ℕ)
padded_square square = pad max_states blank_row (map padded_row square)

-- the arrays that hold a grid
unfoldable pub padded : Grid → Grid
padded grid = pad max_letters blank_square (map padded_square grid)
