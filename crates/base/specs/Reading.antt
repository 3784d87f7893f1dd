-- Reading from the front of some bytes: several things one behind the other, and parts that stand behind their length.
use Rattle.std.specs.Prelude.{Bool, true, false, List, [], ◌∷◌, ℕ, zero, suc, ◌+◌, ◌*◌, leb, length, take, drop}
use Rattle.base.specs.Outcome.{Outcome, refused, accepted, ask, ◌then◌}

-- what is read at the front of some bytes: a value and the bytes behind it
abbrev pub Read : Type 0 → Type 0
Read A = Outcome (A × List ℕ)

-- c things of a kind, one behind the other
unfoldable pub read_many : {A : Type 0} → (List ℕ → Read A) → ℕ → List ℕ → Read (List A)
read_many one zero bytes = accepted ([], bytes)
read_many one (suc c) bytes =
    one bytes then λ x.
    read_many one c x.1 then λ xs.
    accepted (x.0 ∷ xs.0, xs.1)

-- do the bytes end here?
unfoldable pub ended : List ℕ → Bool
ended [] = true
ended (x ∷ rest) = false

-- a part "after its length in two bytes, low first", and the bytes behind it; refused by a number where it is not whole
unfoldable pub read_part : ℕ → List ℕ → Read (List ℕ)
read_part number [] = refused number
read_part number (low ∷ []) = refused number
read_part number (low ∷ high ∷ rest) =
    let size = low + 256 * high in
    ask (leb size (length rest)) number
    (accepted (take size rest, drop size rest))
