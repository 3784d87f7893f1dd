-- The places where parts end that stand behind their length.
use Rattle.std.specs.Prelude.{List, ℕ, ◌+◌, ◌-◌, Option, Some, None, length, take, drop}
use Rattle.base.specs.Outcome.{Outcome, refused, accepted, ◌then◌}
use Rattle.base.specs.Reading.{read_part}

-- the place where a part ends, or the number that refuses one that is not whole
abbrev pub end_as : ℕ → Option ℕ → Outcome ℕ
end_as number None = refused number
end_as number (Some place) = accepted place

-- where a part ends whose length stands at a place
unfoldable pub part_end : ℕ → ℕ → List ℕ → Outcome ℕ
part_end number at bytes = read_part number (drop at bytes) then λ part. accepted (at + 2 + length part.0)

-- the bytes from one place to another
abbrev pub between : ℕ → ℕ → List ℕ → List ℕ
between from to bytes = take (to - from) (drop from bytes)
