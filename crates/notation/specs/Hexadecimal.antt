-- Byte strings: two hexadecimal digits for each byte, `-` for none; `00*4096` is one byte so many times.
use Rattle.std.specs.Prelude.{cond, List, [], ◌∷◌, ℕ, ◌+◌, ◌*◌, eqb, leb, length, replicate, Option, Some, None}
use Rattle.std.specs.Option.{option_and_then, option_map}
use Prim.Native.Char.{code}
use Rattle.notation.specs.Decimal.{digit_value, decimal}

-- the byte that two digits have
unfoldable pub pair_byte : ℕ → ℕ → Option ℕ
pair_byte high low = option_and_then (λ h. option_map (λ l. 16 * h + l) (digit_value low)) (digit_value high)

-- the bytes of pairs of digits
unfoldable pub hexadecimal : List ℕ → Option (List ℕ)
hexadecimal [] = Some []
hexadecimal (only ∷ []) = None
hexadecimal (high ∷ low ∷ rest) = option_and_then (λ byte. option_map (λ bytes. byte ∷ bytes) (hexadecimal rest)) (pair_byte high low)

-- a byte so many times
unfoldable pub times : ℕ → Option ℕ → Option (List ℕ)
times byte count = option_map (λ number. replicate number byte) count

-- the byte string that a text has: pairs of digits, or none; `-`; or a pair, `*` and a number
unfoldable pub bytes_of : List ℕ → Option (List ℕ)
bytes_of [] = hexadecimal []
bytes_of (only ∷ []) = cond (eqb only (code "-")) (Some []) None
bytes_of (high ∷ low ∷ []) = hexadecimal (high ∷ low ∷ [])
bytes_of (high ∷ low ∷ third ∷ rest) =
    cond (eqb third (code "*")) (option_and_then (λ byte. times byte (decimal rest)) (pair_byte high low))
    (hexadecimal (high ∷ low ∷ third ∷ rest))

-- a byte string that is no longer than the room
unfoldable pub no_longer : ℕ → Option (List ℕ) → Option (List ℕ)
no_longer room None = None
no_longer room (Some bytes) = cond (leb (length bytes) room) (Some bytes) None

-- room for the longest byte string of a stored case
unfoldable pub longest : ℕ
longest = 33000

-- the byte string that a text has, if there is room for it
unfoldable pub byte_string : List ℕ → Option (List ℕ)
byte_string text = no_longer longest (bytes_of text)
