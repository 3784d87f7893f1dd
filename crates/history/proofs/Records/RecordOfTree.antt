-- The record of a tree gives the tree back: planting its tags, with the labels that its hosts give, is the tree. And how long
-- a record is.
use mathlib.Core.Path.{◌≡◌, refl, sym, ◌∙◌, ap, ap₂, subst}
use mathlib.Core.Logic.{◌⊎◌, inl, inr}
use mathlib.Core.Bool.{Bool, true, ◌&&◌}
use mathlib.Core.List.{List, [], ◌∷◌, ◌++◌, map, append_assoc, append-nil}
use Prim.Native.Nat.{ℕ, zero, suc, ◌+◌, ◌*◌, ◌/◌, ◌%◌, ◌^◌, ◌≤◌, ◌<◌}
use native.Mathlib.Omega.{arith}
use native.Mathlib.Numerals.{one-add}
use borrow.Author.Tests.{eq-eqb, ne_eqb, leb-true, le-leb, ltb-true, lt-ltb}
use lib.Bits.{or_zero_r}
use lib.Count.{ones, ones-le}
use lib.Dec.{leb, ltb}
use lib.ListN.{length, get_or, drop, length-append, length-map}
use lib.Seq.{take_at, drop_at}
use Rattle.base.specs.BitSet.{member}
use Rattle.base.proofs.Logic.{and_both, and_in}
use Rattle.base.proofs.BitSet.{member_lt, member_collect}
use Rattle.history.specs.Forest.{nil, node, size}
use Rattle.history.specs.Tree.{Node, Tree, labels, is_tree}
use Rattle.history.specs.Record.{host, members, tags, record_of, rank, hosted_in, planted, decoded}
use Rattle.history.proofs.Tree.Conditions.{Active, NestedTree, tree_nested, tree_out}
use Rattle.history.proofs.Tree.Hosts.{size_labels}
use Rattle.history.proofs.Records.HostLabels.{relabelled, size_relabelled, ByNumber, labels_from_hosts}
use Rattle.history.proofs.Records.Members.{length_members, map_at_rank}

-- PLANTING THE TAGS

-- one tag for each node
pub length_tags : (d : ℕ) (F : Tree) → length (tags d F) ≡ size F
unfolding tags size
length_tags d nil = refl
length_tags d (node x below younger) =
    omega (arith, length-append (tags (suc d) below) (tags d younger), length_tags (suc d) below, length_tags d younger)

-- the first tag, if any, is of less depth than d: there is no further sibling at depth d or below
abbrev pub Shallower : ℕ → List ℕ → Type 0
Shallower d [] = Unit {0}
Shallower d (m ∷ left) = m / 16 < d

module _ (k : ℕ) (h : k < 16) where
  shallower_next : (d : ℕ) (F : Tree) (left : List ℕ) → Active k F → Shallower d left → Shallower (suc d) (tags d F ++ left)
  unfolding tags
  shallower_next d nil [] w s = tt
  shallower_next d nil (m ∷ left) w s = omega arith
  shallower_next d (node x below younger) left w s = omega (arith, w.1)

  -- the tags of a forest plant its nodes, each with the label of its numbers
  planted_front : (label : ℕ → ℕ → ℕ) (fuel d i : ℕ) (F : Tree) (left : List ℕ) → size F ≤ fuel → Active k F → Shallower d left
      → planted fuel label d i (tags d F ++ left) ≡ (relabelled label i F, left)
  unfolding planted tags relabelled size
  planted_front label zero d i nil left l w s = refl
  planted_front label (suc fuel) d i nil [] l w s = refl
  planted_front label (suc fuel) d i nil (m ∷ left) l w s = rw (ne_eqb (m / 16) d (λ e. omega arith))
  planted_front label zero d i (node x below younger) left l w s = absurd (omega arith)
  planted_front label (suc fuel) d i (node x below younger) left l w s =
      let depth : (16 * d + x.active) / 16 ≡ d = omega (arith, w.1) in
      let active : (16 * d + x.active) % 16 ≡ x.active = omega (arith, w.1) in
      let end : suc i + size below ≡ suc (i + size below) = omega arith in
      let next = shallower_next d younger left w.3 s in
      rw (
        append_assoc (tags (suc d) below) (tags d younger) left,
        eq-eqb _ _ depth,
        active,
        planted_front label fuel (suc d) (suc i) below (tags d younger ++ left) (omega arith) w.2 next,
        size_relabelled label (suc i) below,
        end,
        planted_front label fuel d (suc (i + size below)) younger left (omega arith) w.3 s,
      )

  pub planted_tags : (label : ℕ → ℕ → ℕ) (d i : ℕ) (F : Tree) → Active k F
      → planted (length (tags d F)) label d i (tags d F) ≡ (relabelled label i F, [])
  planted_tags label d i F w = ap (planted (length (tags d F)) label d i) (sym (append-nil (tags d F)))
      ∙ planted_front label (length (tags d F)) d i F [] (omega (arith, length_tags d F)) w tt

-- THE LABELS FROM THE HOSTS

-- the labels that a list of hosts gives, where the host of each state of s is its number
pub hosted_law : (n s : ℕ) (hosts : List ℕ) (number : ℕ → ℕ) → s < 2 ^ n
    → ((q : ℕ) → member s q ≡ true → get_or hosts (rank s q) 0 ≡ number q) → ByNumber s number (hosted_in n s hosts)
unfolding hosted_in
hosted_law n s hosts number small e = record {
  among = λ lo hi q m.
      let (below, rest) = and_in (ltb q n) _ (sym (member_collect n (test lo hi) q) ∙ m) in
      let (has, within) = and_in (member s q) _ rest in
      let (low, high) = and_in (leb lo (get_or hosts (rank s q) 0)) _ within in
      let from = leb-true lo (get_or hosts (rank s q) 0) low in
      let to = ltb-true (get_or hosts (rank s q) 0) hi high in
      (has, omega (arith, e q has), omega (arith, e q has));
  all_of = λ lo hi q m l h. member_collect n (test lo hi) q ∙ and_both (ltb q n) _ (lt-ltb q n (member_lt n s q small m))
      (and_both (member s q) _ m (and_both (leb lo (get_or hosts (rank s q) 0)) _
      (le-leb lo (get_or hosts (rank s q) 0) (omega (arith, e q m))) (lt-ltb (get_or hosts (rank s q) 0) hi (omega (arith, e q m)))));
}
  where
    test : ℕ → ℕ → ℕ → Bool
    test lo hi q = member s q && (leb lo (get_or hosts (rank s q) 0) && ltb (get_or hosts (rank s q) 0) hi)

-- THE TREE OF A RECORD

-- decoding a live record: its map, its hosts and its tags
decoded_parts : (n s : ℕ) (hosts left : List ℕ) → length hosts ≡ ones s
    → decoded n (s ∷ (hosts ++ left)) ≡ (planted (length left) (hosted_in n s hosts) 0 0 left).0
unfolding decoded
decoded_parts n s hosts left e = ap₂ (λ (h l : List ℕ). (planted (length l) (hosted_in n s h) 0 0 l).0)
    (take_at hosts left (ones s) e)
    (ap (λ (j : ℕ). drop j (s ∷ (hosts ++ left))) (one-add (ones s)) ∙ drop_at hosts left (ones s) e)

-- the states of a tree are its root's
pub root_states : (x : Node) (below : Tree) → labels (node x below nil) ≡ x.label
unfolding labels
root_states x below = or_zero_r x.label

-- decoding a tree's record gives the tree, where the labels are nested
pub decoded_nested : (n k : ℕ) (T : Tree) → NestedTree n k T → k < 16 → decoded n (record_of n T) ≡ T
unfolding record_of planted host
decoded_nested n k nil w h = decoded_parts n 0 [] [] (omega (arith, ones-le 0 0 (omega arith)))
decoded_nested n k (node x below nil) w h =
    let T : Tree = node x below nil in
    let s : ℕ = x.label in
    let small : s < 2 ^ n = rw (root_states x below) at w.states in
    let hosts : List ℕ = map (host T) (members n s) in
    let many : length hosts ≡ ones s = length-map (members n s) (host T) ∙ length_members n s small in
    let law = hosted_law n s hosts (host T) small (λ q m. map_at_rank (host T) n s q (member_lt n s q small m) m) in
    decoded_parts n s hosts (tags 0 T) many
    ∙ ap (λ (p : Tree × List ℕ). p.0) (planted_tags k h (hosted_in n s hosts) 0 0 T w.active)
    ∙ labels_from_hosts 0 T (hosted_in n s hosts) w.nested
    (subst (λ (a : ℕ). ByNumber a (host T) (hosted_in n s hosts)) (sym (root_states x below)) law)
decoded_nested n k (node x below (node y other younger)) w h = absurd w.one_root

-- as in every tree
pub decoded_record : (n k : ℕ) (T : Tree) → is_tree n k T ≡ true → k < 16 → decoded n (record_of n T) ≡ T
decoded_record n k T t h = decoded_nested n k T (tree_nested n k T (tree_out n k T t)) h

-- THE LENGTH OF A RECORD

-- the dead tree's record is one byte; any other has the map, a byte for each state and a byte for each node
pub dead_length : (n : ℕ) → length (record_of n nil) ≡ 1
unfolding record_of
dead_length n = refl

pub record_length : (n : ℕ) (x : Node) (below younger : Tree) → x.label < 2 ^ n
    → length (record_of n (node x below younger)) ≡ 1 + ones x.label + size (node x below younger)
unfolding record_of
record_length n x below younger small = let T : Tree = node x below younger in
    omega (
      arith,
      length-append (map (host T) (members n x.label)) (tags 0 T),
      length-map (members n x.label) (host T),
      length_members n x.label small,
      length_tags 0 T,
    )

-- "A record has 1, or 3 to 17, bytes": 17 is 1 + 2 · 8
pub record_bounds : (n k : ℕ) (T : Tree) → is_tree n k T ≡ true
    → (length (record_of n T) ≡ 1) ⊎ ((3 ≤ length (record_of n T)) × (length (record_of n T) ≤ 1 + 2 * n))
unfolding size
record_bounds n k nil t = inl (dead_length n)
record_bounds n k (node x below nil) t =
    let w = tree_out n k (node x below nil) t in
    let small : x.label < 2 ^ n = rw (root_states x below) at w.states in
    let few : size (node x below nil) ≤ ones x.label = rw (root_states x below) at (size_labels k (node x below nil) w.fits) in
    let most : ones x.label ≤ n = ones-le n x.label small in
    inr (rw (record_length n x below nil small) (omega arith, omega arith))
record_bounds n k (node x below (node y other younger)) t = absurd (tree_out n k (node x below (node y other younger)) t).one_root
