-- The record of a tree (document 01, "Trees"), and question 9.
use Rattle.std.specs.Prelude.{Bool, ◌&&◌, cond, List, [], ◌∷◌, ◌++◌, map, ℕ, zero, suc, ◌+◌, ◌*◌, ◌/◌, ◌%◌, eqb, leb, ltb, length, get_or, take, drop}
use Rattle.std.specs.Int.Count.{ones}
use Rattle.base.specs.Outcome.{Outcome, accepted, ask}
use Rattle.base.specs.BitSet.{member, collect}
use Rattle.history.specs.Forest.{nil, node, size, same_numbers}
use Rattle.history.specs.Tree.{Tree, labels, is_tree}

-- "A state's host is the deepest node holding it": its number, among siblings numbered from i on and all below them
unfoldable pub host_from : ℕ → Tree → ℕ → ℕ
host_from i nil q = i
host_from i (node x below younger) q =
    cond (member x.label q)
    (cond (member (labels below) q) (host_from (suc i) below q) i)
    (host_from (suc (i + size below)) younger q)

unfoldable pub host : Tree → ℕ → ℕ
host T q = host_from 0 T q

-- the members of a map from q on, of c states, lowest first
unfoldable pub members_from : ℕ → ℕ → ℕ → List ℕ
members_from q zero s = []
members_from q (suc c) s = cond (member s q) (q ∷ members_from (suc q) c s) (members_from (suc q) c s)

unfoldable pub members : ℕ → ℕ → List ℕ
members n s = members_from 0 n s

-- "for each node in number order 16 times its depth plus its active set", of siblings at depth d
unfoldable pub tags : ℕ → Tree → List ℕ
tags d nil = []
tags d (node x below younger) = (16 * d + x.active) ∷ (tags (suc d) below ++ tags d younger)

-- "The record of a tree: the map of the root's states; for each standing bit, lowest first, the number of its host; then
-- for each node in number order 16 times its depth plus its active set." "The dead tree's record is the byte 0."
unfoldable pub record_of : ℕ → Tree → List ℕ
record_of n nil = 0 ∷ []
record_of n (node x below younger) =
    x.label ∷ (map (host (node x below younger)) (members n x.label) ++ tags 0 (node x below younger))

-- THE TREE OF A RECORD

-- the number of members of a map below q
unfoldable pub rank : ℕ → ℕ → ℕ
rank s zero = 0
rank s (suc q) = rank s q + cond (member s q) 1 0

-- the states of the map s whose hosts are numbered from lo up to hi: the label of the node lo, where hi is the number
-- behind the last node below it
unfoldable pub hosted_in : ℕ → ℕ → List ℕ → ℕ → ℕ → ℕ
hosted_in n s hosts lo hi =
    collect n (λ q. member s q && (leb lo (get_or hosts (rank s q) 0) && ltb (get_or hosts (rank s q) 0) hi))

-- siblings at depth d, numbered from i on, from the front of some tags, and the tags left; each node's label is that of
-- its numbers. The first argument bounds the depth of the recursion.
unfoldable pub planted : ℕ → (ℕ → ℕ → ℕ) → ℕ → ℕ → List ℕ → Tree × List ℕ
planted zero label d i left = (nil, left)
planted (suc fuel) label d i [] = (nil, [])
planted (suc fuel) label d i (m ∷ left) =
    let below = planted fuel label (suc d) (suc i) left in
    let end = suc i + size below.0 in
    let younger = planted fuel label d end below.1 in
    cond (eqb (m / 16) d) (node (record { label = label i end; active = m % 16 }) below.0 younger.0, younger.1) (nil, m ∷ left)

-- the tree that a record would be of: its map, its hosts and its tags
unfoldable pub decoded : ℕ → List ℕ → Tree
decoded n bytes =
    let s = get_or bytes 0 0 in
    let hosts = take (ones s) (drop 1 bytes) in
    let left = drop (1 + ones s) bytes in
    (planted (length left) (hosted_in n s hosts) 0 0 left).0

-- question 9, "A step goes on only where its bytes are the record of some tree over n and k: are they?"
-- The bytes are compared with the record of the tree that they would be of.
unfoldable pub is_record : ℕ → ℕ → List ℕ → Bool
is_record n k bytes = same_numbers (record_of n (decoded n bytes)) bytes && is_tree n k (decoded n bytes)

unfoldable pub read_tree : ℕ → ℕ → List ℕ → Outcome Tree
read_tree n k bytes = ask (is_record n k bytes) 9 (accepted (decoded n bytes))
