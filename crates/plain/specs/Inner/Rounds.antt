-- One or more tails, inside the plain judge: the ways that may pass some states between two tails.
use Rattle.std.specs.Prelude.{◌||◌, ℕ, zero, suc, ◌*◌}
use Rattle.std.specs.Int.Bits.{bit_or}
use Rattle.rule.specs.Inner.Lanes.{map_of, each_lane, lanes_with, in_lanes}
use Rattle.rule.specs.Limits.{max_sets}
use Rattle.plain.specs.Inner.Ways.{Ways, joined}

-- the ways W, and those that pass state m, once or over and over
unfoldable pub through : ℕ → Ways → Ways
through m W s t i = W s t i || joined (W s m) (λ i. W m t i || joined (W m m) (W m t) i) i

-- the ways that may pass all states below m
unfoldable pub closure : ℕ → Ways → Ways
closure zero W s t i = W s t i
closure (suc m) W s t i = through m (closure m W) s t i

-- a row, and its ways to m with one of the row `behind` behind them
unfoldable pub continued : ℕ → ℕ → ℕ → ℕ
continued row m behind = bit_or row (bit_or (behind * map_of way 0) (in_lanes (map_of behind 0) way))
  where
    way : ℕ
    way = lanes_with row m (each_lane (suc max_sets))
