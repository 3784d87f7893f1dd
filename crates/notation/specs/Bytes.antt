-- What a contract sees of a `Bytes`.
use Rattle.std.specs.Prelude.{List, ℕ, Option}
use Rattle.std.specs.Option.{option_map}

-- the bytes in front of the end, those of the room behind it, of which no clause says anything, and the end
pub record Held : Type 0 where
  pub bytes : List ℕ
  pub spare : List ℕ
  pub end : ℕ

-- the byte string, if there is one
abbrev pub bytes_in : Option Held → Option (List ℕ)
bytes_in found = option_map (λ held. held.bytes) found
