-- Maps of old numbers carried to the new ones node by node: one map, and two in one word, where a node takes its bit of each at once.
use mathlib.Core.Path.{◌≡◌, refl, sym, ◌∙◌, ap, ap₂}
use mathlib.Core.Logic.{⊎_elim}
use mathlib.Core.Bool.{Bool, true, false, cond}
use mathlib.Core.List.{List, map}
use Prim.Native.Nat.{ℕ, suc, ◌+◌, ◌*◌, ◌/◌, ◌%◌, ◌^◌, ◌≤◌, ◌<◌, min}
use native.Mathlib.Nat.{add-mul, add_comm, mul_right_comm, mod-lt, lt_of_lt_of_le}
use native.Mathlib.Numerals.{add-one}
use native.Mathlib.Omega.{arith}
use borrow.Author.Tests.{eqb-true, eqb-false}
use lib.Bits.{bit_and, bit_or, and_block, and_mask, or_block}
use lib.Dec.{eqb}
use lib.ListN.{length, get_or, length-map, get_or-map}
use lib.Pow.{pow_mono, shl_lt, shl_exact, shr-shr, split, high, low, mod-mod-pow}
use Rattle.base.specs.BitSet.{member, collect}
use Rattle.base.proofs.BitSet.{member_lt, member_mod, collect_lt, collect_ext, collect_more}
use Rattle.base.proofs.Logic.{look, bool_ext}
use Rattle.history.specs.Inner.Following.{carried}
use Rattle.tree.specs.Inner.Nodes.{blank_node}
use Rattle.tree.specs.Inner.PackedNodes.{nodes_in, counted_nodes, counted_words}
use Rattle.tree.specs.declared.nodes.Node.{Node as CodeNode}
use Rattle.tree.specs.declared.nodes.Tree.{Tree as CodeTree}
use Rattle.tree.proofs.PackedWords.{nodes_many}
use Rattle.tree.proofs.TreeNodes.{counted_in}
use Rattle.letters.specs.Inner.Names.{carried_maps}
use Rattle.letters.specs.declared.follow.Maps.{Maps}

-- ONE MAP

-- the binary digit at a place
abbrev bit : ℕ → ℕ → ℕ
bit m q = cond (member m q) 1 0

digit : (m q : ℕ) → m / 2 ^ q % 2 ≡ bit m q
unfolding member
digit m q = let n = m / 2 ^ q in
    ⊎_elim (λ e. rw e (eqb-true (n % 2) 1 e)) (λ e. rw e (omega (arith, eqb-false (n % 2) 1 e))) (look (eqb (n % 2) 1))

bit_small : (m q : ℕ) → bit m q < 2
bit_small m q = rw (← digit m q) (omega arith)

-- no map has a digit at place 31 or above, so each such place may be read at 31
capped : (m q : ℕ) → m < 2 ^ 16 → member m (min q 31) ≡ member m q
capped m q small =
    let low : min q 31 < 16 → min q 31 ≡ q = λ h. omega arith in
    bool_ext _ _ (λ h. ap (member m) (sym (low (member_lt 16 m _ small h))) ∙ h)
    (λ h. ap (member m) (low (omega (arith, member_lt 16 m q small h))) ∙ h)

-- the first j nodes whose old numbers are in a map
unfoldable pub carried_to : List CodeNode → ℕ → ℕ → ℕ
carried_to nodes chosen j = collect j (λ i. member chosen (get_or nodes i blank_node).old)

-- one node more: its bit is the old number's
carried_more : (nodes : List CodeNode) (chosen j : ℕ)
    → bit_or (carried_to nodes chosen j) (bit chosen (get_or nodes j blank_node).old * 2 ^ j) ≡ carried_to nodes chosen (suc j)
unfolding carried_to
carried_more nodes chosen j = rw (← placed (member chosen (get_or nodes j blank_node).old)) (sym (collect_more j _))
  where
    placed : (b : Bool) → cond b (2 ^ j) 0 ≡ cond b 1 0 * 2 ^ j
    placed true = omega arith
    placed false = omega arith

-- few nodes make a small map
carried_small : (nodes : List CodeNode) (chosen j : ℕ) → j ≤ 16 → carried_to nodes chosen j < 2 ^ 16
unfolding carried_to
carried_small nodes chosen j h = lt_of_lt_of_le (collect_lt j _) (pow_mono h)

-- all nodes
carried_all : (nodes : List CodeNode) (chosen : ℕ) → carried_to nodes chosen (length nodes) ≡ carried (map (λ x. x.old) nodes) chosen
unfolding carried carried_to
carried_all nodes chosen =
    let olds : List ℕ = map (λ (x : CodeNode). x.old) nodes in
    sym (ap (λ (n : ℕ). collect n (λ i. member chosen (get_or olds i 0))) (length-map nodes (λ (x : CodeNode). x.old))
    ∙ collect_ext (length nodes) _ _ (λ i l. ap (member chosen) (get_or-map (λ (x : CodeNode). x.old) nodes i blank_node)))

-- TWO MAPS IN ONE WORD

-- the second 32 bits above the first
abbrev pub both : ℕ → ℕ → ℕ
both a b = b * 2 ^ 32 + a

-- the digits at a place of each, at once
both_bits : (a b q : ℕ) → a < 2 ^ 32 → q < 32 → bit_and (both a b / 2 ^ q) (2 ^ 32 + 1) ≡ both (bit a q) (bit b q)
both_bits a b q small h =
    let n = both a b / 2 ^ q in
    let parts : bit_and n (2 ^ 32 + 1) ≡ both (bit_and (n % 2 ^ 32) 1) (bit_and (n / 2 ^ 32) 1) =
    rw (split n 32) at (and_block 32 (n / 2 ^ 32) 1 (n % 2 ^ 32) 1 (mod-lt n (omega arith)) (omega arith)) in
    let above : n / 2 ^ 32 ≡ b / 2 ^ q =
    shr-shr (both a b) q 32 ∙ ap (λ (x : ℕ). both a b / 2 ^ x) (add_comm q 32) ∙ sym (shr-shr (both a b) 32 q)
    ∙ ap (λ (x : ℕ). x / 2 ^ q) (high b 32 small) in
    let below : member (both a b) q ≡ member a q = sym (member_mod 32 (both a b) q h) ∙ ap (λ (x : ℕ). member x q) (low b 32 small) in
    parts ∙ ap₂ both
    (and_mask (n % 2 ^ 32) 1 ∙ mod-mod-pow n 31 1 ∙ digit (both a b) q ∙ ap (λ (x : Bool). cond x 1 0) below)
    (and_mask (n / 2 ^ 32) 1 ∙ ap (λ (x : ℕ). x % 2) above ∙ digit b q)

-- two digits put to a place of each
both_placed : (x y j : ℕ) → x < 2 → y < 2 → j ≤ 16 → both x y * 2 ^ j % 2 ^ 64 ≡ both (x * 2 ^ j) (y * 2 ^ j)
both_placed x y j hx hy h = shl_exact 33 j 64 (omega arith) (omega arith) ∙ add-mul (y * 2 ^ 32) x (2 ^ j)
    ∙ ap (λ (n : ℕ). n + x * 2 ^ j) (mul_right_comm y (2 ^ 32) (2 ^ j))

-- both maps of the first j nodes
abbrev pub both_to : List CodeNode → Maps → ℕ → ℕ
both_to nodes m j = both (carried_to nodes m.kept j) (carried_to nodes m.witnesses j)

-- one node more for both
pub both_more : (nodes : List CodeNode) (m : Maps) (j : ℕ) → m.kept < 2 ^ 16 → m.witnesses < 2 ^ 16 → j < 16
    → (x : CodeNode) → x ≡ get_or nodes j blank_node → (shift : ℕ) → shift ≡ min x.old 31
    → bit_or (both_to nodes m j) (bit_and (both m.kept m.witnesses / 2 ^ shift) (2 ^ 32 + 1) * 2 ^ j % 2 ^ 64) ≡ both_to nodes m (j + 1)
both_more nodes m j hk hw h x is shift e =
    let old = x.old in
    let kept = m.kept in
    let seen = m.witnesses in
    let taken : bit_and (both kept seen / 2 ^ shift) (2 ^ 32 + 1) ≡ both (bit kept old) (bit seen old) =
    rw e (both_bits kept seen (min old 31) (omega arith) (omega arith) ∙ rw (capped kept old hk, capped seen old hw)) in
    rw (taken, both_placed (bit kept old) (bit seen old) j (bit_small kept old) (bit_small seen old) (omega arith))
    (or_block 32 (carried_to nodes seen j) (bit seen old * 2 ^ j) (carried_to nodes kept j) (bit kept old * 2 ^ j)
    (omega (arith, carried_small nodes kept j (omega arith))) (lt_of_lt_of_le (shl_lt 1 j (bit_small kept old)) (pow_mono {j = 32} (omega arith)))
    ∙ rw (add-one, is, carried_more nodes kept j, carried_more nodes seen j))

-- both after all nodes
pub both_all : (x : CodeTree) (m : Maps) (words : List ℕ) → length words ≤ 16 → words ≡ counted_words x
    → let word = both_to (nodes_in words) m (length words) in record { kept = word % 2 ^ 16; witnesses = word / 2 ^ 32 % 2 ^ 16 } ≡ carried_maps x m
unfolding carried_maps
both_all x m words few are =
    let nodes = nodes_in words in
    let many : length nodes ≡ length words = nodes_many words refl in
    let kept = carried_to nodes m.kept (length words) in
    let seen = carried_to nodes m.witnesses (length words) in
    let all : nodes ≡ counted_nodes x = ap nodes_in are ∙ counted_in x in
    let carries : (chosen : ℕ) → carried_to nodes chosen (length words) ≡ carried (map (λ x. x.old) (counted_nodes x)) chosen =
    λ chosen. rw (← many, ← all) (carried_all nodes chosen) in
    let parts : (both kept seen % 2 ^ 16 ≡ kept) × (both kept seen / 2 ^ 32 % 2 ^ 16 ≡ seen) =
    (omega (arith, carried_small nodes m.kept (length words) (omega arith)), omega (arith, carried_small nodes m.kept (length words) (omega arith), carried_small nodes m.witnesses (length words) (omega arith))) in
    rw (parts.0, parts.1, carries m.kept, carries m.witnesses)
