-- Letters compared one after the other: what the contract of an inner function says of a position.
use Rattle.std.specs.Prelude.{cond, ℕ, ◌+◌, ltb}

-- behind a position before the end of the first tail: the next, or the tail's first
unfoldable pub wrapped : ℕ → ℕ → ℕ → ℕ
wrapped position lead end = cond (ltb (position + 1) end) (position + 1) lead
