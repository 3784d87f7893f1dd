-- The steps by which the code makes a letter's look-up. Only contracts of private functions cite these.
use Rattle.std.specs.Prelude.{◌≡◌, ◌⊎◌, List, ℕ, ◌+◌, ◌^◌, ◌≤◌, ◌<◌, length, get_or}
use Rattle.std.specs.Int.Bits.{bit_or}

-- a half of a look-up with the entries of the first c sets that have the highest state q in it: the entry of the set without it, joined
-- with its word. All other entries stay.
pub record StateAdded (word q c : ℕ) (before after : List ℕ) : Type 0 where
  pub entries : length after ≡ 16
  pub joined : (j : ℕ) → j < c → get_or after (2 ^ q + j) 0 ≡ bit_or (get_or before j 0) word
  pub others : (i : ℕ) → (i < 2 ^ q) ⊎ (2 ^ q + c ≤ i) → get_or after i 0 ≡ get_or before i 0
