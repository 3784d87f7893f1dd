-- The checks of specs/Inner/RecordChecks.antt are question 9: bytes pass them exactly where they are the record of some tree.
use mathlib.Core.Path.{◌≡◌, refl, sym, ◌∙◌, ap, ap₂}
use mathlib.Core.Bool.{Bool, true, false, ◌&&◌, cond}
use mathlib.Core.List.{List, [], ◌∷◌, ◌++◌, map}
use Prim.Native.Nat.{ℕ, zero, suc, ◌+◌, ◌-◌, ◌^◌, ◌≤◌, ◌<◌}
use native.Mathlib.Omega.{arith}
use native.Mathlib.Decide.{ℕ_discrete}
use borrow.Author.Tests.{eqb-true, ne_eqb, ltb-true, lt-ltb}
use lib.Count.{ones}
use lib.Dec.{eqb, ltb}
use lib.ListN.{length, get_or, take, drop, length-append, length-map, take-append-drop}
use lib.Seq.{take_at, drop_at, length-take-le}
use Rattle.base.specs.Outcome.{accepted, ask}
use Rattle.base.specs.BitSet.{member}
use Rattle.base.specs.Lists.{all_below}
use Rattle.base.proofs.Every.{below_at, below_in, found_at, found_in}
use Rattle.base.proofs.Logic.{clash, bool_ext, and_both, and_in}
use Rattle.base.proofs.BitSet.{member_lt, set_ext}
use Rattle.history.specs.Forest.{nil, node, size}
use Rattle.history.specs.Tree.{Node, Tree, is_tree}
use Rattle.history.specs.Record.{host, members, rank, tags, record_of, hosted_in, decoded, is_record, read_tree}
use Rattle.history.specs.Inner.RecordChecks.{is_host, all_host, tags_fit, body_fits, record_checks}
use Rattle.history.proofs.Tree.Conditions.{Active, fits_active, IsTree, tree_out, tree_in}
use Rattle.history.proofs.Tree.Hosts.{host_to, each_hosts}
use Rattle.history.proofs.Records.HostLabels.{relabelled, ByNumber, relabelled_host, relabelled_fits}
use Rattle.history.proofs.Records.Members.{rank_all, rank_onto, rank_lt, length_members, map_at_rank, map_members, map_ranks}
use Rattle.history.proofs.Records.RecordOfTree.{length_tags, hosted_law, root_states, record_length}
use Rattle.history.proofs.Records.Tags.{tags_relabelled, tags_in, tags_out}
use Rattle.history.proofs.Records.QuestionNine.{is_record_exact}

-- WHAT THE CHECKS OF HOSTS SAY

-- each number is
all_host_out : (nodes : ℕ) (hosts : List ℕ) → all_host nodes hosts ≡ true → (i : ℕ) → i < nodes → is_host i hosts ≡ true
unfolding all_host
all_host_out zero hosts h i l = absurd (omega arith)
all_host_out (suc nodes) hosts h i l = let (last, rest) = and_in (is_host nodes hosts) _ h in
    go (ℕ_discrete i nodes) last (all_host_out nodes hosts rest i)
  where
    go : Dec (i ≡ nodes) → is_host nodes hosts ≡ true → (i < nodes → is_host i hosts ≡ true) → is_host i hosts ≡ true
    go (yes e) last ih = rw e last
    go (no e) last ih = ih (omega arith)

all_host_in : (nodes : ℕ) (hosts : List ℕ) → ((i : ℕ) → i < nodes → is_host i hosts ≡ true) → all_host nodes hosts ≡ true
unfolding all_host
all_host_in zero hosts h = refl
all_host_in (suc nodes) hosts h = and_both (is_host nodes hosts) _ (h nodes (omega arith))
    (all_host_in nodes hosts (λ i l. h i (omega arith)))

-- what follows the map, in its two parts
body_parts : (k s : ℕ) (hosts left : List ℕ) → length hosts ≡ ones s
    → body_fits k s (hosts ++ left) ≡ ((all_below (length left) hosts && all_host (length left) hosts) && tags_fit k left)
unfolding body_fits
body_parts k s hosts left e =
    let nodes : length (hosts ++ left) - ones s ≡ length left = omega (arith, length-append hosts left) in
    rw (nodes, take_at hosts left (ones s) e, drop_at hosts left (ones s) e)

-- RECORDS PASS

-- the hosts and the tags of a tree
body_in : (n k : ℕ) (x : Node) (below : Tree) → IsTree n k (node x below nil) → k < 16
    → body_fits k x.label (map (host (node x below nil)) (members n x.label) ++ tags 0 (node x below nil)) ≡ true
unfolding host
body_in n k x below t h =
    body_parts k s hosts (tags 0 T) many
    ∙ ap (λ (c : ℕ). (all_below c hosts && all_host c hosts) && tags_fit k (tags 0 T)) (length_tags 0 T)
    ∙ and_both (all_below (size T) hosts && all_host (size T) hosts) _
    (and_both (all_below (size T) hosts) _ (below_in (size T) hosts low) (all_host_in (size T) hosts each))
    (tags_in k x below (fits_active k T t.fits) h)
  where
    T : Tree
    T = node x below nil

    s : ℕ
    s = x.label

    hosts : List ℕ
    hosts = map (host T) (members n s)

    small : s < 2 ^ n
    small = rw (root_states x below) at t.states

    many : length hosts ≡ ones s
    many = length-map (members n s) (host T) ∙ length_members n s small

    low : (r : ℕ) → r < length hosts → get_or hosts r 0 < size T
    low r l = let (q, below-n, m, e) = rank_onto n s r (omega (arith, many, rank_all n s small)) in
        let there = host_to 0 T q (rw (root_states x below) m) in
        omega (arith, there, ap (λ (c : ℕ). get_or hosts c 0) e, map_at_rank (host T) n s q below-n m)

    each : (i : ℕ) → i < size T → is_host i hosts ≡ true
    each i l = let (q, held, e) = each_hosts k 0 T t.fits i (omega arith) (omega arith) in
        let m : member s q ≡ true = rw (root_states x below) at held in
        let below-n = member_lt n s q small m in
        found_in i hosts (rank s q) (omega (arith, many, rank_all n s small, rank_lt n s q below-n m))
        (map_at_rank (host T) n s q below-n m ∙ e)

-- the record of each tree
pub checks_in : (n k : ℕ) (T : Tree) → is_tree n k T ≡ true → k < 16 → record_checks n k (record_of n T) ≡ true
unfolding record_checks record_of size
checks_in n k nil t h = refl
checks_in n k (node x below nil) t h =
    let T : Tree = node x below nil in
    let w = tree_out n k T t in
    let s : ℕ = x.label in
    let small : s < 2 ^ n = rw (root_states x below) at w.states in
    let left : List ℕ = map (host T) (members n s) ++ tags 0 T in
    let long = record_length n x below nil small in
    rw (ne_eqb s 0 w.fits.0.nonempty) (and_both (ltb s (2 ^ n)) _ (lt-ltb s (2 ^ n) small)
    (and_both (ltb (ones s) (length left)) _ (lt-ltb (ones s) (length left) (omega arith)) (body_in n k x below w h)))
checks_in n k (node x below (node y other younger)) t h = absurd (tree_out n k (node x below (node y other younger)) t).one_root

-- WHAT PASSES IS A RECORD

-- the tree of a map, of hosts and of tags that fit
module _ (n k s : ℕ) (hosts left : List ℕ) (small : s < 2 ^ n) (many : length hosts ≡ ones s)
    (below : all_below (length left) hosts ≡ true) (each : all_host (length left) hosts ≡ true)
    (x : Node) (down : Tree) (whole : tags 0 (node x down nil) ≡ left) (active : Active k (node x down nil)) where
  number : ℕ → ℕ
  number q = get_or hosts (rank s q) 0

  law : ByNumber s number (hosted_in n s hosts)
  unfolding number
  law = hosted_law n s hosts number small (λ q m. refl)

  nodes : size (node x down nil) ≡ length left
  nodes = sym (length_tags 0 (node x down nil)) ∙ ap length whole

  number_lt : (q : ℕ) → member s q ≡ true → number q < size (node x down nil)
  unfolding number
  number_lt q m = let h = below_at (length left) hosts below (rank s q)
      (omega (arith, rank_lt n s q (member_lt n s q small m) m, rank_all n s small)) in omega (arith, nodes)

  number_onto : (j : ℕ) → 0 ≤ j → j < 0 + size (node x down nil) → (q : ℕ) × (member s q ≡ true) × (number q ≡ j)
  unfolding number
  number_onto j _ l =
      let (r, short, e) = found_at j hosts (all_host_out (length left) hosts each j (omega (arith, nodes))) in
      let (q, _, m, z) = rank_onto n s r (omega (arith, rank_all n s small)) in
      (q, m, ap (λ (c : ℕ). get_or hosts c 0) z ∙ e)

  -- its root has the states of the map
  root_is : hosted_in n s hosts 0 (suc (0 + size down)) ≡ s
  unfolding size
  root_is = set_ext _ _ (λ q. bool_ext _ _ (λ m. (law.among 0 (suc (0 + size down)) q m).0)
      (λ m. law.all_of 0 (suc (0 + size down)) q m (omega arith) (omega (arith, number_lt q m))))

  -- it is a tree
  tree_fits : is_tree n k (relabelled (hosted_in n s hosts) 0 (node x down nil)) ≡ true
  unfolding relabelled
  tree_fits = tree_in n k (relabelled (hosted_in n s hosts) 0 (node x down nil)) (record {
    one_root = tt;
    states = rw (root_states, root_is) small;
    fits = relabelled_fits s number (hosted_in n s hosts) law k 0 (node x down nil) active number_onto;
  })

  -- its hosts are the hosts, its tags are the tags
  record_is : record_of n (relabelled (hosted_in n s hosts) 0 (node x down nil)) ≡ s ∷ (hosts ++ left)
  unfolding record_of relabelled host number
  record_is = let T : Tree = relabelled (hosted_in n s hosts) 0 (node x down nil) in
      ap (λ (c : ℕ). c ∷ (map (host T) (members n c) ++ tags 0 T)) root_is
      ∙ ap₂ (λ (u v : List ℕ). s ∷ (u ++ v)) (map_members (host T) number n s host_is ∙ hosts_are)
      (tags_relabelled (hosted_in n s hosts) 0 0 (node x down nil) ∙ whole)
    where
      host_is : (q : ℕ) → q < n → member s q ≡ true → host (relabelled (hosted_in n s hosts) 0 (node x down nil)) q ≡ number q
      host_is q _ m = relabelled_host s number (hosted_in n s hosts) law 0 (node x down nil) q m (omega arith) (omega (arith, number_lt q m))

      hosts_are : map number (members n s) ≡ hosts
      hosts_are = map_ranks n s hosts small many

-- bytes that pass the checks are the record of some tree
pub checks_out : (n k : ℕ) (bytes : List ℕ) → record_checks n k bytes ≡ true
    → (T : Tree) × (is_tree n k T ≡ true) × (record_of n T ≡ bytes)
unfolding record_checks record_of is_tree
checks_out n k [] h = clash refl h
checks_out n k (s ∷ left) h = go (eqb s 0) refl h
  where
    go : (b : Bool) → eqb s 0 ≡ b → cond b (eqb (length left) 0) (ltb s (2 ^ n) && (ltb (ones s) (length left) && body_fits k s left)) ≡ true
        → (T : Tree) × (is_tree n k T ≡ true) × (record_of n T ≡ s ∷ left)
    go true e h = (nil, refl, ap₂ (λ (c : ℕ) (v : List ℕ). c ∷ v) (sym (eqb-true s 0 e)) (sym (nothing left (eqb-true (length left) 0 h))))
      where
        nothing : (v : List ℕ) → length v ≡ 0 → v ≡ []
        nothing [] z = refl
        nothing (c ∷ v) z = absurd (omega arith)
    go false e h =
        let (small, rest) = and_in (ltb s (2 ^ n)) _ h in
        let (long, fits) = and_in (ltb (ones s) (length left)) _ rest in
        let hosts : List ℕ = take (ones s) left in
        let ends : List ℕ = drop (ones s) left in
        let many : length hosts ≡ ones s = length-take-le (ones s) left (omega (arith, ltb-true (ones s) (length left) long)) in
        let parts : hosts ++ ends ≡ left = take-append-drop (ones s) left in
        let (numbers, marked) = and_in (all_below (length ends) hosts && all_host (length ends) hosts) _
        (sym (body_parts k s hosts ends many) ∙ ap (body_fits k s) parts ∙ fits) in
        let (low, each) = and_in (all_below (length ends) hosts) _ numbers in
        let (x, down, whole, active) = tags_out k ends marked in
        let all = ltb-true s (2 ^ n) small in (
          relabelled (hosted_in n s hosts) 0 (node x down nil),
          tree_fits n k s hosts ends all many low each x down whole active,
          record_is n k s hosts ends all many low each x down whole active ∙ ap (λ (v : List ℕ). s ∷ v) parts,
        )

-- the checks are question 9, and reading goes by them
pub checks_exact : (n k : ℕ) (bytes : List ℕ) → k < 16 → record_checks n k bytes ≡ is_record n k bytes
checks_exact n k bytes h = bool_ext _ _ (λ c. (is_record_exact n k bytes h).1 (checks_out n k bytes c))
    (λ c. let (T, t, e) = (is_record_exact n k bytes h).0 c in ap (record_checks n k) (sym e) ∙ checks_in n k T t h)

pub read_by_checks : (n k : ℕ) (bytes : List ℕ) → k < 16 → read_tree n k bytes ≡ ask (record_checks n k bytes) 9 (accepted (decoded n bytes))
unfolding read_tree
read_by_checks n k bytes h = ap (λ (b : Bool). ask b 9 (accepted (decoded n bytes))) (sym (checks_exact n k bytes h))
