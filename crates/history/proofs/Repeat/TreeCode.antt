-- "There are fewer than 2^63 trees": each tree within the limits has a number below 2^63, and no two have the same. The number
-- says for each of at most eight states whether it is in the tree and which node hosts it (nine possibilities each), the root's
-- active set (four), and of each other node the depth and the active set (eight times four). The number is never computed.
use mathlib.Core.Path.{◌≡◌, refl, sym, ◌∙◌, ap, ap₂}
use mathlib.Core.Logic.{⊎_elim}
use mathlib.Core.Bool.{true, false, cond}
use mathlib.Core.List.{List, ◌∷◌, ◌++◌, map}
use Prim.Native.Nat.{ℕ, zero, suc, ◌+◌, ◌*◌, ◌-◌, ◌/◌, ◌%◌, ◌^◌, ◌≤◌, ◌<◌}
use native.Mathlib.Omega.{arith}
use native.Mathlib.Nat.{pow-le-pow_right}
use native.Mathlib.Decide.{dec_lt}
use lib.Count.{ones-le}
use lib.ListN.{length, get_or, get_or-eq_default}
use lib.Seq.{ext_get_or}
use Rattle.base.specs.BitSet.{member}
use Rattle.base.specs.Lists.{Every}
use Rattle.base.proofs.Every.{every_at, every_append}
use Rattle.base.proofs.Logic.{look, bool_ext}
use Rattle.base.proofs.BitSet.{member_lt, set_ext}
use Rattle.rule.specs.Limits.{max_states, max_sets}
use Rattle.history.specs.Forest.{nil, node, size}
use Rattle.history.specs.Tree.{Tree, labels, is_tree}
use Rattle.history.specs.Record.{host, members, tags, record_of}
use Rattle.history.proofs.Tree.Conditions.{Active, fits_active, IsTree, tree_nested, tree_out}
use Rattle.history.proofs.Tree.Hosts.{host_to, each_hosts, size_labels}
use Rattle.history.proofs.Records.Members.{map_members}
use Rattle.history.proofs.Records.RecordOfTree.{length_tags, root_states}
use Rattle.history.proofs.Records.QuestionNine.{record_injective}
use Rattle.history.proofs.Repeat.Positional.{positional, positional_lt, same_digits}

-- THE NUMBER OF A TREE

-- of a state: 0 where the tree does not hold it, else one more than its host's number
host_digit : Tree → ℕ → ℕ
host_digit T q = cond (member (labels T) q) (suc (host T q)) 0

-- of a tag: 4 times the depth, and the active set counted from 0
tag_digit : ℕ → ℕ
tag_digit m = 4 * (m / 16) + (m % 16 - 1)

-- of a node, by its number
node_digit : Tree → ℕ → ℕ
node_digit T i = tag_digit (get_or (tags 0 T) i 0)

-- of a tree
pub tree_code : ℕ → Tree → ℕ
tree_code n T = (positional 9 (host_digit T) n * 4 + node_digit T 0) * 2 ^ 35 + positional 32 (λ i. node_digit T (suc i)) 7

-- TAGS

-- a tag of a tree within the limits
TagFits : ℕ → Type 0
TagFits m = (m / 16 < max_states) × (1 ≤ m % 16) × (m % 16 ≤ max_sets)

every_tag : (k d : ℕ) (F : Tree) → Active k F → k ≤ max_sets → d + size F ≤ max_states → Every TagFits (tags d F)
unfolding tags size TagFits
every_tag k d nil w h l = tt
every_tag k d (node x below younger) (low, high, down, on) h l = (
  (omega arith, omega arith, omega arith),
  every_append TagFits (tags (suc d) below) (tags d younger) (every_tag k (suc d) below down h (omega arith))
      (every_tag k d younger on h (omega arith)),
)

-- such tags are known from their digits
tag_digit_lt : (m : ℕ) → TagFits m → tag_digit m < 32
unfolding TagFits tag_digit
tag_digit_lt m w = omega arith

same_tag : (m c : ℕ) → TagFits m → TagFits c → tag_digit m ≡ tag_digit c → m ≡ c
unfolding TagFits tag_digit
same_tag m c (deep, low, high) (deep', low', high') e = omega arith

-- IT IS BELOW 2^63

-- its digits are below the bases
module _ (n k : ℕ) (T : Tree) (t : IsTree n k T) (hn : n ≤ max_states) (hk : k ≤ max_sets) where
  few : size T ≤ max_states
  few = omega (arith, size_labels k T t.fits, ones-le n (labels T) t.states)

  host_digit_lt : (q : ℕ) → host_digit T q < 9
  unfolding host_digit host
  host_digit_lt q = ⊎_elim (λ h. rw h (omega (arith, host_to 0 T q h, few))) (λ h. rw h (omega arith)) (look (member (labels T) q))

  all_tags : Every TagFits (tags 0 T)
  all_tags = every_tag k 0 T (fits_active k T t.fits) hk (omega (arith, few))

  node_digit_lt : (i : ℕ) → node_digit T i < 32
  unfolding node_digit tag_digit
  node_digit_lt i = go (dec_lt i (length (tags 0 T)))
    where
      go : Dec (i < length (tags 0 T)) → node_digit T i < 32
      go (yes l) = tag_digit_lt (get_or (tags 0 T) i 0) (every_at TagFits (tags 0 T) i 0 all_tags l)
      go (no l) = rw (get_or-eq_default (tags 0 T) 0 {n = i} (omega arith)) (omega arith)

  root_digit_lt : node_digit T 0 < 4
  unfolding node_digit tag_digit tags
  root_digit_lt = go T (fits_active k T t.fits)
    where
      go : (F : Tree) → Active k F → node_digit F 0 < 4
      go nil w = omega arith
      go (node x below younger) (low, high, down, on) = omega arith

  hosts_lt : positional 9 (host_digit T) n < 9 ^ 8
  hosts_lt = omega (arith, positional_lt 9 (host_digit T) n (λ q _. host_digit_lt q), pow-le-pow_right {n = 9} (omega arith) hn)

  nodes_lt : positional 32 (λ i. node_digit T (suc i)) 7 < 2 ^ 35
  nodes_lt = positional_lt 32 (λ i. node_digit T (suc i)) 7 (λ i _. node_digit_lt (suc i))

-- the number of a tree is below 2^63 − 1
pub code_lt : (n k : ℕ) (T : Tree) → is_tree n k T ≡ true → n ≤ max_states → k ≤ max_sets → tree_code n T < 2 ^ 63 - 1
unfolding tree_code
code_lt n k T t hn hk = let w = tree_out n k T t in
    omega (arith, hosts_lt n k T w hn hk, root_digit_lt n k T w hn hk, nodes_lt n k T w hn hk)

-- NO TWO TREES HAVE THE SAME

-- the digit of a state says whether the tree holds it
held_digit : (T : Tree) (q : ℕ) → member (labels T) q ≡ true → host_digit T q ≡ suc (host T q)
unfolding host_digit
held_digit T q h = rw h

other_digit : (T : Tree) (q : ℕ) → member (labels T) q ≡ false → host_digit T q ≡ 0
unfolding host_digit
other_digit T q h = rw h

-- trees with the same digits of states hold the same states, at the same hosts, and have as many nodes
module _ (n k : ℕ) (T U : Tree) (t : IsTree n k T) (u : IsTree n k U)
    (same : (q : ℕ) → q < n → host_digit T q ≡ host_digit U q) where
  held_too : (q : ℕ) → member (labels T) q ≡ true → member (labels U) q ≡ true
  held_too q h = ⊎_elim (λ g. g)
      (λ g. absurd (omega (arith, same q (member_lt n (labels T) q t.states h), held_digit T q h, other_digit U q g)))
      (look (member (labels U) q))

  same_host : (q : ℕ) → member (labels T) q ≡ true → host T q ≡ host U q
  same_host q h = omega (arith, same q (member_lt n (labels T) q t.states h), held_digit T q h, held_digit U q (held_too q h))

  no_more_nodes : size T ≤ size U
  unfolding host
  no_more_nodes = go (dec_lt (size U) (size T))
    where
      go : Dec (size U < size T) → size T ≤ size U
      go (no h) = omega arith
      go (yes h) = let (q, held, e) = each_hosts k 0 T t.fits (size U) (omega arith) (omega arith) in
          absurd (omega (arith, e, same_host q held, host_to 0 U q (held_too q held)))

-- trees with the same states, hosts and tags have the same record
same_record : (n k : ℕ) (T U : Tree) → IsTree n k T → IsTree n k U → labels T ≡ labels U
    → ((q : ℕ) → member (labels T) q ≡ true → host T q ≡ host U q) → tags 0 T ≡ tags 0 U → record_of n T ≡ record_of n U
unfolding record_of tags
same_record n k nil nil t u s h m = refl
same_record n k nil (node y down others) t u s h m = let z : ◌≡◌ {A = ℕ} 0 1 = cc in absurd (omega arith)
same_record n k (node x below others) nil t u s h m = let z : ◌≡◌ {A = ℕ} 0 1 = cc in absurd (omega arith)
same_record n k (node x below (node z other younger)) (node y down others) t u s h m = absurd t.one_root
same_record n k (node x below nil) (node y down (node z other younger)) t u s h m = absurd u.one_root
same_record n k (node x below nil) (node y down nil) t u s h m =
    let T : Tree = node x below nil in
    let U : Tree = node y down nil in
    let root : x.label ≡ y.label = sym (root_states x below) ∙ s ∙ root_states y down in
    let hosts : map (host T) (members n x.label) ≡ map (host U) (members n x.label) =
    map_members (host T) (host U) n x.label (λ q _ g. h q (rw (root_states x below) g)) in
    ap₂ (λ (a b : List ℕ). x.label ∷ (a ++ b)) hosts m ∙ ap (λ (c : ℕ). c ∷ (map (host U) (members n c) ++ tags 0 U)) root

-- trees with the same number are the same
pub code_injective : (n k : ℕ) (T U : Tree) → is_tree n k T ≡ true → is_tree n k U ≡ true → n ≤ max_states → k ≤ max_sets
    → tree_code n T ≡ tree_code n U → T ≡ U
unfolding tree_code node_digit
code_injective n k T U t u hn hk e =
    record_injective n k T U (tree_nested n k T wt) (tree_nested n k U wu) (omega arith) (same_record n k T U wt wu (set_ext _ _ (λ q. bool_ext _ _ (held_too n k T U wt wu hosts q)
    (held_too n k U T wu wt (λ q l. sym (hosts q l)) q))) (same_host n k T U wt wu hosts) nodes)
  where
    wt : IsTree n k T
    wt = tree_out n k T t

    wu : IsTree n k U
    wu = tree_out n k U u

    states : positional 9 (host_digit T) n ≡ positional 9 (host_digit U) n
    states = omega (arith, nodes_lt n k T wt hn hk, nodes_lt n k U wu hn hk, root_digit_lt n k T wt hn hk, root_digit_lt n k U wu hn hk)

    root : node_digit T 0 ≡ node_digit U 0
    root = omega (arith, states, nodes_lt n k T wt hn hk, nodes_lt n k U wu hn hk)

    others : positional 32 (λ i. node_digit T (suc i)) 7 ≡ positional 32 (λ i. node_digit U (suc i)) 7
    others = omega (arith, states, root)

    hosts : (q : ℕ) → q < n → host_digit T q ≡ host_digit U q
    hosts = same_digits 9 (host_digit T) (host_digit U) n (λ q _. host_digit_lt n k T wt hn hk q)
        (λ q _. host_digit_lt n k U wu hn hk q) states

    digit : (i : ℕ) → i < max_states → node_digit T i ≡ node_digit U i
    digit zero l = root
    digit (suc i) l = same_digits 32 (λ i. node_digit T (suc i)) (λ i. node_digit U (suc i)) 7 (λ i _. node_digit_lt n k T wt hn hk (suc i))
        (λ i _. node_digit_lt n k U wu hn hk (suc i)) others i (omega arith)

    many : size T ≡ size U
    many = omega (arith, no_more_nodes n k T U wt wu hosts, no_more_nodes n k U T wu wt (λ q l. sym (hosts q l)))

    nodes : tags 0 T ≡ tags 0 U
    nodes = ext_get_or 0 (tags 0 T) (tags 0 U) (length_tags 0 T ∙ many ∙ sym (length_tags 0 U)) (λ i l.
        same_tag (get_or (tags 0 T) i 0) (get_or (tags 0 U) i 0) (every_at TagFits (tags 0 T) i 0 (all_tags n k T wt hn hk) l)
        (every_at TagFits (tags 0 U) i 0 (all_tags n k U wu hn hk) (omega (arith, length_tags 0 T, length_tags 0 U, many)))
        (digit i (omega (arith, length_tags 0 T, few n k T wt hn hk))))
