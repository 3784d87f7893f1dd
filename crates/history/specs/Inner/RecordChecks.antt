-- Question 9 as checks that are made byte by byte (document 01, "Trees"). proofs/Records/RecordChecks.antt shows that they say yes exactly
-- where `is_record` does.
use Rattle.std.specs.Prelude.{Bool, true, false, ◌&&◌, cond, List, [], ◌∷◌, ℕ, zero, suc, ◌-◌, ◌/◌, ◌%◌, ◌^◌, eqb, leb, ltb, length, take, drop}
use Rattle.std.specs.Int.Count.{ones}
use Rattle.base.specs.Lists.{any_of, all_below}

-- HOSTS

-- is the node of this number a host?
abbrev pub is_host : ℕ → List ℕ → Bool
is_host i hosts = any_of (λ h. eqb h i) hosts

-- "Each node hosts at least one state."
unfoldable pub all_host : ℕ → List ℕ → Bool
all_host zero hosts = true
all_host (suc i) hosts = is_host i hosts && all_host i hosts

-- TAGS

-- "an active set (1 to k)"
unfoldable pub active_fits : ℕ → ℕ → Bool
active_fits k m = leb 1 (m % 16) && leb (m % 16) k

-- "each later depth is from 1 to one more than the depth before it", which is d
unfoldable pub tags_follow : ℕ → ℕ → List ℕ → Bool
tags_follow k d [] = true
tags_follow k d (m ∷ left) = (leb 1 (m / 16) && leb (m / 16) (suc d)) && (active_fits k m && tags_follow k (m / 16) left)

-- "The root's depth is 0"
unfoldable pub tags_fit : ℕ → List ℕ → Bool
tags_fit k [] = false
tags_fit k (m ∷ left) = eqb (m / 16) 0 && (active_fits k m && tags_follow k 0 left)

-- RECORDS

-- what follows the map s of some tree's root: hosts, as many as s has states, and tags, one for each node
unfoldable pub body_fits : ℕ → ℕ → List ℕ → Bool
body_fits k s left = let nodes = length left - ones s in let hosts = take (ones s) left in
    (all_below nodes hosts && all_host nodes hosts) && tags_fit k (drop (ones s) left)

-- "The dead tree's record is the byte 0." Any other begins with the map of the root's states, which is not empty
unfoldable pub record_checks : ℕ → ℕ → List ℕ → Bool
record_checks n k [] = false
record_checks n k (s ∷ left) =
    cond (eqb s 0) (eqb (length left) 0) (ltb s (2 ^ n) && (ltb (ones s) (length left) && body_fits k s left))
