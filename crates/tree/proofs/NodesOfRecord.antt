-- The nodes that are made from the record of a tree are the tree's nodes.
use mathlib.Core.Path.{◌≡◌, refl, sym, ◌∙◌, ap, ap₂, subst}
use mathlib.Core.Bool.{true, false, ◌&&◌}
use mathlib.Core.List.{List, [], ◌∷◌, ◌++◌, map, append_assoc, append-nil}
use Prim.Native.Nat.{ℕ, suc, ◌+◌, ◌-◌, ◌*◌, ◌/◌, ◌%◌, ◌^◌, ◌≤◌, ◌<◌}
use native.Mathlib.Omega.{arith}
use native.Mathlib.Numerals.{one-add}
use borrow.Author.Tests.{lt-ltb, le-ltb, leb-true}
use lib.Count.{ones, ones-le}
use lib.Dec.{leb}
use lib.ListN.{length, get_or, take, drop, length-append, length-drop, length-map}
use lib.Pow.{pow_pos}
use lib.Seq.{take_at, drop_at}
use Rattle.std.specs.Prelude.{Some}
use Rattle.base.specs.Outcome.{refused}
use Rattle.base.proofs.BitSet.{member_lt}
use Rattle.base.proofs.Logic.{and_in}
use Rattle.rule.specs.Limits.{max_states, max_sets}
use Rattle.history.specs.Forest.{nil, node, size}
use Rattle.history.specs.Tree.{Node, Tree, is_tree}
use Rattle.history.specs.Record.{host, members, tags, record_of, hosted_in, decoded, read_tree}
use Rattle.history.specs.Inner.RecordChecks.{record_checks}
use Rattle.history.proofs.Records.HostLabels.{relabelled, ByNumber, labels_relabelled, labels_from_hosts}
use Rattle.history.proofs.Records.RecordOfTree.{Shallower, length_tags, hosted_law, root_states}
use Rattle.history.proofs.Records.Members.{length_members, map_at_rank}
use Rattle.history.proofs.Tree.Conditions.{Active, NestedTree, tree_nested, tree_out}
use Rattle.history.proofs.Records.QuestionNine.{is_record_out}
use Rattle.history.proofs.Records.RecordChecks.{checks_exact, read_by_checks}
use Rattle.history.proofs.Step.TreesKept.{few_nodes}
use Rattle.tree.specs.Inner.Nodes.{nodes_from, nodes_of}
use Rattle.tree.specs.Inner.PackedNodes.{nodes_in}
use Rattle.tree.specs.Inner.Places.{places}
use Rattle.tree.specs.Inner.RecordNodes.{blank_behind, deeper, nodes_of_tags}
use Rattle.tree.specs.Inner.RecordCode.{checked_tree, tree_beside, Checks}
use Rattle.tree.proofs.TreeNodes.{nodes_size}

module _ (k : ℕ) (small : k < 16) where
  -- THE NODES BELOW A NODE

  -- the tags of a forest are all deeper than what is above it
  deeper_over : (d e : ℕ) (F : Tree) (left : List ℕ) → Active k F → d < e → deeper d (tags e F ++ left) ≡ size F + deeper d left
  unfolding deeper tags size
  deeper_over d e nil left w h = omega arith
  deeper_over d e (node x below younger) left w h =
      let depth : (16 * e + x.active) / 16 ≡ e = omega (arith, w.1) in
      let ib = deeper_over d (suc e) below (tags e younger ++ left) w.2 (omega arith) in
      let iy = deeper_over d e younger left w.3 h in
      rw (depth, lt-ltb d e h, append_assoc (tags (suc e) below) (tags e younger) left) (omega arith)

  -- the tags of its siblings and what follows them are not
  deeper_none : (d : ℕ) (left : List ℕ) → Shallower (suc d) left → deeper d left ≡ 0
  unfolding deeper
  deeper_none d [] s = refl
  deeper_none d (m ∷ left) s = rw (le-ltb d (m / 16) (omega arith))

  shallower_over : (d : ℕ) (F : Tree) (left : List ℕ) → Active k F → Shallower (suc d) left → Shallower (suc d) (tags d F ++ left)
  unfolding tags
  shallower_over d nil left w s = s
  shallower_over d (node x below younger) left w s = omega (arith, w.1)

  shallower_more : (d : ℕ) (left : List ℕ) → Shallower d left → Shallower (suc d) left
  shallower_more d [] s = tt
  shallower_more d (m ∷ left) s = omega arith

  -- so as many follow a node's tag as there are number below it
  deeper_below : (d : ℕ) (below younger : Tree) (left : List ℕ) → Active k below → Active k younger → Shallower (suc d) left
      → deeper d (tags (suc d) below ++ (tags d younger ++ left)) ≡ size below
  deeper_below d below younger left w v s =
      let over = deeper_over d (suc d) below (tags d younger ++ left) w (omega arith) in
      let none = deeper_none d (tags d younger ++ left) (shallower_over d younger left v s) in
      omega arith

  -- THE NODES OF A FOREST'S TAGS

  module _ (s : ℕ) (number : ℕ → ℕ) (label : ℕ → ℕ → ℕ) (law : ByNumber s number label) where
    nodes_front : (i d : ℕ) (F : Tree) (left : List ℕ) → Active k F → Shallower (suc d) left
        → nodes_of_tags label i (tags d F ++ left) ≡ nodes_from d (relabelled label i F) ++ nodes_of_tags label (i + size F) left
    unfolding nodes_of_tags tags nodes_from relabelled size
    nodes_front i d nil left w h = let e : i + 0 ≡ i = omega arith in rw e
    nodes_front i d (node x below younger) left w h =
        let depth : (16 * d + x.active) / 16 ≡ d = omega (arith, w.1) in
        let active : (16 * d + x.active) % 16 ≡ x.active = omega (arith, w.1) in
        let end : suc i + size below ≡ suc (i + size below) = omega arith in
        let last : i + suc (size below + size younger) ≡ suc (i + size below) + size younger = omega arith in
        let next = shallower_over d younger left w.3 h in
        rw (
          append_assoc (tags (suc d) below) (tags d younger) left,
          depth,
          active,
          deeper_below d below younger left w.2 w.3 h,
          nodes_front (suc i) (suc d) below (tags d younger ++ left) w.2 (shallower_more (suc d) (tags d younger ++ left) next),
          labels_relabelled s number label law (suc i) below,
          end,
          nodes_front (suc (i + size below)) d younger left w.3 h,
          last,
          append_assoc (nodes_from (suc d) (relabelled label (suc i) below)) (nodes_from d (relabelled label (suc (i + size below)) younger))
              (nodes_of_tags label (suc (i + size below) + size younger) left),
        )

    nodes_all : (i d : ℕ) (F : Tree) → Active k F → nodes_of_tags label i (tags d F) ≡ nodes_from d (relabelled label i F)
    unfolding nodes_of_tags
    nodes_all i d F w = ap (nodes_of_tags label i) (sym (append-nil (tags d F))) ∙ nodes_front i d F [] w tt
        ∙ append-nil (nodes_from d (relabelled label i F))

-- THE NODES OF A RECORD

-- a map, hosts, one for each of its states, and tags, from which the nodes of a tree are made
record Parts (n : ℕ) (T : Tree) (s : ℕ) (hosts left : List ℕ) : Type 0 where
  small : s < 2 ^ n
  many : length hosts ≡ ones s
  counts : length left ≡ size T
  nodes : nodes_of_tags (hosted_in n s hosts) 0 left ≡ nodes_of T

-- the map, the hosts and the tags of a tree's record
live_parts : (n k : ℕ) (x : Node) (below : Tree) → NestedTree n k (node x below nil) → k < 16
    → Parts n (node x below nil) x.label (map (host (node x below nil)) (members n x.label)) (tags 0 (node x below nil))
unfolding host nodes_of
live_parts n k x below t h = record { small = small; many = many; counts = length_tags 0 T; nodes = nodes }
  where
    T : Tree
    T = node x below nil

    hosts : List ℕ
    hosts = map (host T) (members n x.label)

    small : x.label < 2 ^ n
    small = rw (root_states x below) at t.states

    many : length hosts ≡ ones x.label
    many = length-map (members n x.label) (host T) ∙ length_members n x.label small

    law : ByNumber x.label (host T) (hosted_in n x.label hosts)
    law = hosted_law n x.label hosts (host T) small (λ q m. map_at_rank (host T) n x.label q (member_lt n x.label q small m) m)

    nodes : nodes_of_tags (hosted_in n x.label hosts) 0 (tags 0 T) ≡ nodes_from 0 T
    nodes = nodes_all k h x.label (host T) (hosted_in n x.label hosts) law 0 0 T t.active
        ∙ ap (nodes_from 0) (labels_from_hosts 0 T (hosted_in n x.label hosts) t.nested
        (subst (λ (a : ℕ). ByNumber a (host T) (hosted_in n x.label hosts)) (sym (root_states x below)) law))

-- the dead tree's record
no_states : ones 0 ≡ 0
no_states = omega (arith, ones-le 0 0 (omega arith))

dead_parts : (n : ℕ) → Parts n nil 0 [] []
unfolding size nodes_of nodes_from nodes_of_tags
dead_parts n = record { small = pow_pos n; many = sym no_states; counts = refl; nodes = refl }

-- so for the bytes of a record: the map in front, then the hosts, then the tags
record_parts : (n k : ℕ) (T : Tree) → NestedTree n k T → k < 16 → let bytes = record_of n T in let s = get_or bytes 0 0 in
    (1 + ones s ≤ length bytes) × Parts n T s (take (ones s) (drop 1 bytes)) (drop (1 + ones s) bytes)
unfolding record_of
record_parts n k nil t h = rw no_states (omega arith, dead_parts n)
record_parts n k (node x below nil) t h =
    let T : Tree = node x below nil in
    let hosts : List ℕ = map (host T) (members n x.label) in
    let P = live_parts n k x below t h in
    let front : take (ones x.label) (hosts ++ tags 0 T) ≡ hosts = take_at hosts (tags 0 T) (ones x.label) P.many in
    let behind : drop (ones x.label) (hosts ++ tags 0 T) ≡ tags 0 T = drop_at hosts (tags 0 T) (ones x.label) P.many in
    rw (one-add (ones x.label), front, behind) (omega (arith, length-append hosts (tags 0 T), P.many), P)
record_parts n k (node x below (node y other younger)) t h = absurd t.one_root

-- THE CHECK'S ANSWER

module _ (n k : ℕ) (bytes : List ℕ) (h : k < 16) where
  -- bytes that do not pass are refused
  pub checked_no : record_checks n k bytes ≡ false → read_tree n k bytes ≡ refused 9
  checked_no failed = rw (read_by_checks n k bytes h, failed)

module _ (n k : ℕ) (bytes : List ℕ) (h : k < 16) (states : ℕ) (first : states ≡ get_or bytes 0 0) where
  -- bytes that pass are in parts as a record is
  module _ (passed : record_checks n k bytes ≡ true) where
    is_record_lem : (is_tree n k (decoded n bytes) ≡ true) × (record_of n (decoded n bytes) ≡ bytes)
    is_record_lem = is_record_out n k bytes (sym (checks_exact n k bytes h) ∙ passed)

    parts : (1 + ones states ≤ length bytes)
        × Parts n (decoded n bytes) states (take (ones states) (drop 1 bytes)) (drop (1 + ones states) bytes)
    parts = let (t, e) = is_record_lem in rw first (rw e at (record_parts n k (decoded n bytes) (tree_nested n k _ (tree_out n k _ t)) h))

    pub passed_long : 1 + ones states ≤ length bytes
    passed_long = parts.0

    pub passed_parts : (hosts left : List ℕ) → hosts ≡ take (ones states) (drop 1 bytes) → left ≡ drop (1 + ones states) bytes
        → (states < 2 ^ n) × ((ones states ≤ length hosts) × (length left ≤ n))
    passed_parts hosts left is is' = let P = parts.1 in
        rw (is, is') (P.small, (omega (arith, P.many), omega (arith, P.counts, few_nodes n k (decoded n bytes) is_record_lem.0)))

  -- what is answered for them
  pub checked_yes : record_checks n k bytes ≡ true → (hosts left words : List ℕ)
      → hosts ≡ take (ones states) (drop 1 bytes) → left ≡ drop (1 + ones states) bytes
      → nodes_in words ≡ blank_behind (nodes_of_tags (hosted_in n states hosts) 0 left)
      → let number = length bytes - (1 + ones states) in (within : number ≤ places)
      → Checks (read_tree n k bytes) (record { count = Some number; tree = record { nodes = words; count = number; within = within } })
  unfolding tree_beside
  checked_yes passed hosts left words is is' made within =
      let P = (parts passed).1 in
      let T : Tree = decoded n bytes in
      let number : length bytes - (1 + ones states) ≡ size T = sym (length-drop (1 + ones states) bytes) ∙ P.counts in
      let built : nodes_of_tags (hosted_in n states hosts) 0 left ≡ nodes_of T =
      ap₂ (λ (u v : List ℕ). nodes_of_tags (hosted_in n states u) 0 v) is is' ∙ P.nodes in
      rw (read_by_checks n k bytes h, passed) (record {
        count = (T, refl, number);
        tree = record { nodes = made ∙ ap blank_behind built; count = number ∙ sym (nodes_size T) };
      })

-- past the limits no bytes pass, and within them those of question 9
module _ (n k : ℕ) (bytes : List ℕ) where
  pub limits_no : (leb n max_states && leb k max_sets) ≡ false → checked_tree n k bytes ≡ refused 9
  unfolding checked_tree
  limits_no failed = rw failed

  pub limits_fit : (leb n max_states && leb k max_sets) ≡ true → (n ≤ max_states) × (k < 16)
  limits_fit passed = let (states, sets) = and_in (leb n max_states) (leb k max_sets) passed in
      (leb-true n max_states states, omega (arith, leb-true k max_sets sets))

  pub limits_yes : (leb n max_states && leb k max_sets) ≡ true → checked_tree n k bytes ≡ read_tree n k bytes
  unfolding checked_tree
  limits_yes passed = rw passed

-- the part of a list from 1 up to 1 + m
pub behind_first : (m : ℕ) (l : List ℕ) → take (1 + m - 1) (drop 1 l) ≡ take m (drop 1 l)
behind_first m l = let e : 1 + m - 1 ≡ m = omega arith in ap (λ (c : ℕ). take c (drop 1 l)) e
