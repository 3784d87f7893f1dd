-- Digits, and numbers in decimal.
use Rattle.std.specs.Prelude.{◌&&◌, cond, List, [], ◌∷◌, ℕ, ◌+◌, ◌-◌, ◌*◌, leb, Option, Some, None}
use Rattle.std.specs.Option.{option_and_then}
use Prim.Native.Char.{code}

-- the value of a hexadecimal digit, `0` to `9` and `a` to `f`; nothing for any other letter
unfoldable pub digit_value : ℕ → Option ℕ
digit_value letter =
    cond (leb (code "0") letter && leb letter (code "9")) (Some (letter - code "0"))
    (cond (leb (code "a") letter && leb letter (code "f")) (Some (10 + (letter - code "a"))) None)

-- a number that is no larger than a limit
unfoldable pub no_larger : ℕ → Option ℕ → Option ℕ
no_larger limit None = None
no_larger limit (Some number) = cond (leb number limit) (Some number) None

-- the number that digits from 0 to 9 have behind others of this value: with each digit more, what stands before it counts ten times
unfoldable pub digits_value : ℕ → List ℕ → Option ℕ
digits_value before [] = Some before
digits_value before (letter ∷ rest) = option_and_then (λ digit. digits_value (10 * before + digit) rest) (no_larger 9 (digit_value letter))

-- the number that a text has in decimal: digits only, at least one
unfoldable pub decimal : List ℕ → Option ℕ
decimal [] = None
decimal (letter ∷ rest) = digits_value 0 (letter ∷ rest)

-- the number that a text has in decimal, if it is no larger than a limit
abbrev pub decimal_within : ℕ → List ℕ → Option ℕ
decimal_within limit text = no_larger limit (decimal text)
