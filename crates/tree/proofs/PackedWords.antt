-- A node and its word: the word's parts are the node's numbers. A word written among others is one node written among the nodes.
use mathlib.Core.Path.{◌≡◌, refl, sym, ◌∙◌, ap}
use mathlib.Core.List.{List, [], ◌∷◌}
use Prim.Native.Nat.{ℕ, zero, suc, ◌+◌, ◌*◌, ◌/◌, ◌%◌, ◌^◌, ◌<◌}
use native.Mathlib.Omega.{arith}
use native.Mathlib.Nat.{add_comm, mul_comm, mod-eq_of_lt, div-div-eq-div-mul, mod-lt}
use lib.Arith.{digits_div, digits_mod, mod-mul}
use lib.ListN.{length, get_or, set, length-map, get_or-map}
use Rattle.tree.specs.Inner.Nodes.{blank_node, without_old}
use Rattle.tree.specs.Inner.PackedNodes.{unpacked, nodes_in}
use Rattle.tree.specs.declared.nodes.Node.{Node as CodeNode}

-- a number by its lowest digit and what stands above it
low_part : (c q r : ℕ) → r < c → (r + c * q) % c ≡ r
low_part c q r h = ap (λ (n : ℕ). n % c) (add_comm r (c * q) ∙ ap (λ (n : ℕ). n + r) (mul_comm c q)) ∙ digits_mod q h

high_part : (c q r : ℕ) → r < c → (r + c * q) / c ≡ q
high_part c q r h = ap (λ (n : ℕ). n / c) (add_comm r (c * q) ∙ ap (λ (n : ℕ). n + r) (mul_comm c q)) ∙ digits_div q h

-- the word that the code makes of a node whose numbers fit: no shift loses a bit
pub node_packed : (x : CodeNode) → x.depth < 2 ^ 16 → x.label < 2 ^ 16 → x.kids < 2 ^ 16 → x.active < 2 ^ 8 → x.old < 2 ^ 8
    → unpacked (x.depth + x.label * 65536 % 18446744073709551616
    + (x.kids + x.active * 65536 % 18446744073709551616 + x.old * 16777216 % 18446744073709551616) * 4294967296 % 18446744073709551616) ≡ x
unfolding unpacked
node_packed x d l c a o = ap unpacked joined ∙ rw (depth_is, label_is, kids_is, active_is, old_is)
  where
    above_kids : ℕ
    above_kids = x.active + 256 * x.old

    above_label : ℕ
    above_label = x.kids + 65536 * above_kids

    above_depth : ℕ
    above_depth = x.label + 65536 * above_label

    word : ℕ
    word = x.depth + 65536 * above_depth

    joined : x.depth + x.label * 65536 % 18446744073709551616
        + (x.kids + x.active * 65536 % 18446744073709551616 + x.old * 16777216 % 18446744073709551616) * 4294967296 % 18446744073709551616 ≡ word
    joined =
        let label : x.label * 65536 % 18446744073709551616 ≡ x.label * 65536 = mod-eq_of_lt (omega arith) in
        let active : x.active * 65536 % 18446744073709551616 ≡ x.active * 65536 = mod-eq_of_lt (omega arith) in
        let old : x.old * 16777216 % 18446744073709551616 ≡ x.old * 16777216 = mod-eq_of_lt (omega arith) in
        let upper : (x.kids + x.active * 65536 + x.old * 16777216) * 4294967296 % 18446744073709551616
        ≡ (x.kids + x.active * 65536 + x.old * 16777216) * 4294967296 = mod-eq_of_lt (omega arith) in
        rw (label, active, old, upper) (omega arith)

    first : word / 65536 ≡ above_depth
    first = high_part 65536 above_depth x.depth d

    second : word / 4294967296 ≡ above_label
    second = sym (div-div-eq-div-mul word 65536 65536) ∙ ap (λ (n : ℕ). n / 65536) first ∙ high_part 65536 above_label x.label l

    third : word / 281474976710656 ≡ above_kids
    third = sym (div-div-eq-div-mul word 4294967296 65536) ∙ ap (λ (n : ℕ). n / 65536) second ∙ high_part 65536 above_kids x.kids c

    depth_is : word % 65536 ≡ x.depth
    depth_is = low_part 65536 above_depth x.depth d

    label_is : word / 65536 % 65536 ≡ x.label
    label_is = ap (λ (n : ℕ). n % 65536) first ∙ low_part 65536 above_label x.label l

    kids_is : word / 4294967296 % 65536 ≡ x.kids
    kids_is = ap (λ (n : ℕ). n % 65536) second ∙ low_part 65536 above_kids x.kids c

    active_is : word / 281474976710656 % 256 ≡ x.active
    active_is = ap (λ (n : ℕ). n % 256) third ∙ low_part 256 x.old x.active a

    old_is : word / 72057594037927936 % 256 ≡ x.old
    old_is = ap (λ (n : ℕ). n % 256) (sym (div-div-eq-div-mul word 281474976710656 256) ∙ ap (λ (n : ℕ). n / 256) third
        ∙ high_part 256 x.old x.active a) ∙ mod-eq_of_lt o

-- the part of a number below m·c, by its digits to the base c
mod_div : (m c n : ℕ) → 0 < m → 0 < c → n % (m * c) / c ≡ n / c % m
mod_div m c n hm hc = ap (λ (x : ℕ). x / c) (mod-mul n hm hc) ∙ digits_div (n / c % m) (mod-lt n hc)

mod_mod : (m c n : ℕ) → 0 < m → 0 < c → n % (m * c) % c ≡ n % c
mod_mod m c n hm hc = ap (λ (x : ℕ). x % c) (mod-mul n hm hc) ∙ digits_mod (n / c % m) (mod-lt n hc)

-- the lowest 56 bits of a word are the node but for its old number,
low_node : (w : ℕ) → without_old (unpacked (w % 2 ^ 56)) ≡ without_old (unpacked w)
unfolding unpacked
low_node w =
    let depth_is : w % 72057594037927936 % 65536 ≡ w % 65536 = mod_mod 1099511627776 65536 w (omega arith) (omega arith) in
    let label_is : w % 72057594037927936 / 65536 % 65536 ≡ w / 65536 % 65536 =
    ap (λ (x : ℕ). x % 65536) (mod_div 1099511627776 65536 w (omega arith) (omega arith)) ∙ mod_mod 16777216 65536 (w / 65536) (omega arith) (omega arith) in
    let kids_is : w % 72057594037927936 / 4294967296 % 65536 ≡ w / 4294967296 % 65536 =
    ap (λ (x : ℕ). x % 65536) (mod_div 16777216 4294967296 w (omega arith) (omega arith)) ∙ mod_mod 256 65536 (w / 4294967296) (omega arith) (omega arith) in
    let active_is : w % 72057594037927936 / 281474976710656 % 256 ≡ w / 281474976710656 % 256 =
    ap (λ (x : ℕ). x % 256) (mod_div 256 281474976710656 w (omega arith) (omega arith)) ∙ mod_mod 1 256 (w / 281474976710656) (omega arith) (omega arith) in
    rw (depth_is, label_is, kids_is, active_is)

abbrev low_word : CodeNode → ℕ
low_word x = x.active * 281474976710656 + (x.kids * 4294967296 + (x.label * 65536 + x.depth))

-- and are known from it
word_low : (w : ℕ) → w % 2 ^ 56 ≡ low_word (without_old (unpacked w))
unfolding unpacked
word_low w = mod-mul w {m = 256} {c = 281474976710656} (omega arith) (omega arith)
    ∙ ap (λ (x : ℕ). w / 281474976710656 % 256 * 281474976710656 + x) (mod-mul w {m = 65536} {c = 4294967296} (omega arith) (omega arith)
    ∙ ap (λ (x : ℕ). w / 4294967296 % 65536 * 4294967296 + x) (mod-mul w {m = 65536} {c = 65536} (omega arith) (omega arith)))

-- so two words' lowest 56 bits are the same just if their nodes are, but for the old numbers
pub low_same : (a b : ℕ) → a % 2 ^ 56 ≡ b % 2 ^ 56 → without_old (unpacked a) ≡ without_old (unpacked b)
low_same a b e = sym (low_node a) ∙ ap (λ (w : ℕ). without_old (unpacked w)) e ∙ low_node b

pub same_low : (a b : ℕ) → without_old (unpacked a) ≡ without_old (unpacked b) → a % 2 ^ 56 ≡ b % 2 ^ 56
same_low a b e = word_low a ∙ ap low_word e ∙ sym (word_low b)

-- one word written
nodes_set : (words : List ℕ) (j word : ℕ) → nodes_in (set words j word) ≡ set (nodes_in words) j (unpacked word)
nodes_set [] j word = refl
nodes_set (x ∷ words) zero word = refl
nodes_set (x ∷ words) (suc j) word = ap (λ (l : List CodeNode). unpacked x ∷ l) (nodes_set words j word)

pub node_written : (words : List ℕ) (j word : ℕ) {x : CodeNode} → unpacked word ≡ x → nodes_in (set words j word) ≡ set (nodes_in words) j x
node_written words j word is = nodes_set words j word ∙ ap (set (nodes_in words) j) is

-- one word read; the word 0 is the blank node
node_in : (words : List ℕ) (i : ℕ) → get_or (nodes_in words) i blank_node ≡ unpacked (get_or words i 0)
unfolding unpacked
node_in words i = get_or-map unpacked words i 0

pub node_read : (words : List ℕ) (i : ℕ) {x : CodeNode} → x ≡ unpacked (get_or words i 0) → x ≡ get_or (nodes_in words) i blank_node
node_read words i is = is ∙ sym (node_in words i)

-- as many nodes as words
pub nodes_many : (words : List ℕ) {n : ℕ} → length words ≡ n → length (nodes_in words) ≡ n
nodes_many words is = length-map words unpacked ∙ is
