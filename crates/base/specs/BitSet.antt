-- Finite sets of numbers as bit maps: sets of states, and sets of accepting sets.
-- A map is a number; its members are the places of its standing bits. Union is `bit_or` of the library.
use Rattle.std.specs.Prelude.{◌≡◌, Bool, true, false, ◌||◌, cond, ◌&&◌, ℕ, zero, suc, ◌+◌, ◌*◌, ◌/◌, ◌%◌, ◌^◌, eqb}
use Rattle.std.specs.Int.Bits.{bit_and, bit_xor}

-- "bit q for state q": is q a member of the map s?
unfoldable pub member : ℕ → ℕ → Bool
member s q = eqb (s / 2 ^ q % 2) 1

-- difference: the members of a that are no members of b
unfoldable pub minus : ℕ → ℕ → ℕ
minus a b = bit_xor a (bit_and a b)

-- inclusion
abbrev pub Subset : ℕ → ℕ → Type 0
Subset a b = (q : ℕ) → member a q ≡ true → member b q ≡ true

-- strict inclusion: some member of b is missing in a
abbrev pub ProperSubset : ℕ → ℕ → Type 0
ProperSubset a b = Subset a b × ((q : ℕ) × (member b q ≡ true) × (member a q ≡ false))

-- comprehension: the map of the q below n with f q
unfoldable pub collect : ℕ → (ℕ → Bool) → ℕ
collect zero f = 0
collect (suc n) f = cond (f 0) 1 0 + 2 * collect n (λ q. f (suc q))

-- is there a q below n with f q?
unfoldable pub some : ℕ → (ℕ → Bool) → Bool
some zero f = false
some (suc n) f = f 0 || some n (λ q. f (suc q))

-- the image of a set of states under a relation on n states: the r with a member q of s and E q r.
-- States from n up in s add nothing.
unfoldable pub image : ℕ → (ℕ → ℕ → Bool) → ℕ → ℕ
image n E s = collect n (λ r. some n (λ q. member s q && E q r))
