-- How many nodes the code has room for.
use Rattle.std.specs.Prelude.{◌≡◌, List, [], ℕ, ◌*◌, ◌<◌, get_or, length}
use Rattle.rule.specs.Limits.{max_states}
use Rattle.tree.specs.declared.sides.Side.{Side}

-- while a letter is read each old node may have one child more
abbrev pub places : ℕ
places = 2 * max_states

-- no side
abbrev pub no_side : Side
no_side = record { nodes = [] }

-- each of two sides has a place for each node
abbrev pub EachPlace : List Side → Type 0
EachPlace sides = (side : ℕ) → side < 2 → length (get_or sides side no_side).nodes ≡ places
