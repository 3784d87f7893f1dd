-- The look-up that the code makes from the words of a letter's states is the letter's look-up (specs/Inner/Lookup.antt), and the steps by
-- which it makes it (specs/Inner/LookupSteps.antt).
use mathlib.Core.Path.{◌≡◌, refl, sym, ◌∙◌, ap, ap₂}
use mathlib.Core.Logic.{◌⊎◌, inl, inr, ⊎_elim}
use mathlib.Core.Bool.{Bool, true, false, not, ◌&&◌, cond, and-false}
use mathlib.Core.List.{List, [], ◌∷◌, ◌++◌}
use Prim.Native.Nat.{ℕ, zero, suc, ◌+◌, ◌*◌, ◌-◌, ◌/◌, ◌%◌, ◌^◌, ◌≤◌, ◌<◌}
use native.Mathlib.Decide.{dec_lt, ℕ_discrete}
use native.Mathlib.Nat.{pow-suc}
use native.Mathlib.Omega.{arith}
use borrow.Author.Tests.{eqb-true, eq-eqb, lt-ltb}
use lib.Bits.{bit_or, or_zero_l, or_zero_r}
use lib.Dec.{eqb, ltb}
use lib.ListN.{length, get_or, set, take, drop, length-set}
use lib.Pow.{pow_mono}
use lib.Seq.{ext_get_or, get_or-set_same, get_or-set_other}
use Rattle.base.specs.BitSet.{member, collect, some, image}
use Rattle.base.specs.Lists.{tabulate}
use Rattle.base.proofs.BitSet.{member_zero, member_suc, member_none, member_single, member_below, union_assoc, union_above, member_collect, collect_ext, some_in, some_out, image_none}
use Rattle.base.proofs.Logic.{and_in, and_both, bool_ext}
use Rattle.base.proofs.Tabulate.{length_tabulate, get_d_tabulate, tabulate_ext}
use Rattle.rule.specs.Limits.{no_transition}
use Rattle.rule.specs.Inner.Lanes.{lane_width, set_lanes}
use Rattle.rule.specs.Rule.{Grid, cell_at, edge, edge_in}
use Rattle.rule.specs.Inner.Lookup.{relations_of, relation, row_word, square_words, grid_words, images, Lookup, letter_lookup, joined_word, joined_lookup}
use Rattle.rule.specs.Inner.LookupSteps.{StateAdded}
use Rattle.rule.proofs.ByRelation.{relations_ext, relations_none}
use Rattle.rule.proofs.LookupLaws.{images_union}
use Rattle.rule.proofs.RowWords.{word_at, words_at}

-- a byte's map of relations says which relations its transition stands in
relation_byte : (square : List (List ℕ)) (i q r : ℕ)
    → relation square i q r ≡ member (relations_of (get_or (get_or square q []) r no_transition)) i
unfolding relation edge edge_in cell_at relations_of
relation_byte square zero q r = go (eqb (get_or (get_or square q []) r no_transition) no_transition) (get_or (get_or square q []) r no_transition)
  where
    go : (b : Bool) (x : ℕ) → not b ≡ member (cond b 0 (1 + 2 * (x % 2 ^ set_lanes))) 0
    go true x = sym (member_none 0)
    go false x = let e : (1 + 2 * (x % 2 ^ set_lanes)) % 2 ≡ 1 = omega arith in
        sym (member_zero (1 + 2 * (x % 2 ^ set_lanes)) ∙ ap (λ (d : ℕ). eqb d 1) e)
relation_byte square (suc i) q r = go (eqb (get_or (get_or square q []) r no_transition) no_transition) (get_or (get_or square q []) r no_transition)
  where
    go : (b : Bool) (x : ℕ) → (ltb i set_lanes && (not b && member x i)) ≡ member (cond b 0 (1 + 2 * (x % 2 ^ set_lanes))) (suc i)
    go true x = and-false (ltb i set_lanes) ∙ sym (member_none (suc i))
    go false x = let e : (1 + 2 * (x % 2 ^ set_lanes)) / 2 ≡ x % 2 ^ set_lanes = omega arith in
        sym (member_suc (1 + 2 * (x % 2 ^ set_lanes)) i ∙ ap (λ (d : ℕ). member d i) e ∙ member_below set_lanes x i)

-- THE IMAGES OF A SET

-- one state leads to its next states
image_single : (n : ℕ) (E : ℕ → ℕ → Bool) (q : ℕ) → q < n → image n E (2 ^ q) ≡ collect n (E q)
unfolding image
image_single n E q h = collect_ext n _ _ (λ r l. bool_ext _ _ (into r) (from r))
  where
    into : (r : ℕ) → some n (λ p. member (2 ^ q) p && E p r) ≡ true → E q r ≡ true
    into r k =
        let (p, l, both) = some_out n (λ p. member (2 ^ q) p && E p r) k in
        let (m, e) = and_in (member (2 ^ q) p) (E p r) both in
        let same : q ≡ p = eqb-true q p (sym (member_single q p) ∙ m) in
        rw same e

    from : (r : ℕ) → E q r ≡ true → some n (λ p. member (2 ^ q) p && E p r) ≡ true
    from r e = some_in n _ q h (and_both (member (2 ^ q) q) (E q r) (member_single q q ∙ eq-eqb q q refl) e)

-- of the empty set
images_none : (square : List (List ℕ)) → images square 0 ≡ 0
unfolding images
images_none square = relations_ext _ _ (λ i r h l. ap (λ (x : ℕ). member x r) (image_none lane_width (relation square i)) ∙ member_none r)
    ∙ relations_none

-- of one state
images_single : (square : List (List ℕ)) (q : ℕ) → q < lane_width → images square (2 ^ q) ≡ row_word (get_or square q [])
unfolding images row_word
images_single square q h = relations_ext _ _ (λ i r k l. ap (λ (x : ℕ). member x r) (image_single lane_width (relation square i) q h)
    ∙ member_collect lane_width (relation square i q) r ∙ rw (lt-ltb r lane_width l) (relation_byte square i q r))

-- of a set with highest state q
images_more : (square : List (List ℕ)) (q j : ℕ) → q < lane_width → j < 2 ^ q
    → bit_or (images square j) (row_word (get_or square q [])) ≡ images square (2 ^ q + j)
images_more square q j l h = ap (bit_or (images square j)) (sym (images_single square q l)) ∙ sym (images_union square j (2 ^ q))
    ∙ ap (images square) (union_above q j h)

-- THE UNION OF THE WORDS OF A SET'S MEMBERS

-- of no state
joined_none : (words : List ℕ) → joined_word words 0 ≡ 0
unfolding joined_word
joined_none [] = refl
joined_none (word ∷ words) = ap (bit_or 0) (joined_none words)

-- of a set with highest state q
joined_more : (words : List ℕ) (q j : ℕ) → j < 2 ^ q → joined_word words (2 ^ q + j) ≡ bit_or (joined_word words j) (get_or words q 0)
unfolding joined_word
joined_more [] q j h = refl
joined_more (word ∷ words) zero j h =
    let e : j ≡ 0 = omega arith in
    rw (e, joined_none words) (or_zero_r word ∙ sym (or_zero_l word))
joined_more (word ∷ words) (suc q) j h =
    let low : (2 ^ suc q + j) % 2 ≡ j % 2 = omega (arith, pow-suc 2 q) in
    let half : (2 ^ suc q + j) / 2 ≡ 2 ^ q + j / 2 = omega (arith, pow-suc 2 q) in
    rw (low, half, joined_more words q (j / 2) (omega (arith, pow-suc 2 q)))
    (union_assoc (cond (eqb (j % 2) 1) word 0) (joined_word words (j / 2)) (get_or words q 0))

-- the words of a letter's states give the images of each set
joined_images : (square : List (List ℕ)) (q : ℕ) → q ≤ lane_width → (s : ℕ) → s < 2 ^ q → joined_word (square_words square) s ≡ images square s
joined_images square zero h s small = let e : s ≡ 0 = omega arith in rw e (joined_none (square_words square) ∙ sym (images_none square))
joined_images square (suc q) h s small = go (dec_lt s (2 ^ q)) (joined_images square q (omega arith))
  where
    go : Dec (s < 2 ^ q) → ((t : ℕ) → t < 2 ^ q → joined_word (square_words square) t ≡ images square t)
        → joined_word (square_words square) s ≡ images square s
    go (yes l) below = below s l
    go (no l) below =
        let j : ℕ = s - 2 ^ q in
        let few : j < 2 ^ q = omega (arith, pow-suc 2 q) in
        let e : s ≡ 2 ^ q + j = omega arith in
        rw e (joined_more (square_words square) q j few ∙ ap₂ bit_or (below j few) (word_at square q)
        ∙ images_more square q j (omega arith) few)

-- so they give the letter's look-up
pub joined_lookup_lem : (square : List (List ℕ)) → joined_lookup (square_words square) ≡ letter_lookup square
unfolding joined_lookup letter_lookup
joined_lookup_lem square = ap₂ (λ (l r : Lookup). l ++ r)
    (tabulate_ext 16 _ _ (λ j h. joined_images square lane_width (omega arith) j (omega arith)))
    (tabulate_ext 16 _ _ (λ j h. joined_images square lane_width (omega arith) (16 * j) (omega arith)))

-- of the letter a of the arrays, from the words that stand beside them
pub lookup_made : (cells : Grid) {words : List (List ℕ)} → words ≡ grid_words cells → (a : ℕ) {lookup : Lookup}
    → lookup ≡ joined_lookup (get_or words a []) → lookup ≡ letter_lookup (get_or cells a [])
lookup_made cells are a made = made ∙ ap joined_lookup (rw are (words_at cells a)) ∙ joined_lookup_lem (get_or cells a [])

-- ONE MORE STATE

-- before the first set
pub added_none : (word q : ℕ) (half : List ℕ) → length half ≡ 16 → StateAdded word q 0 half half
added_none word q half size = record { entries = size; joined = λ j h. absurd (omega arith); others = λ i out. refl }

-- one more set
pub added_more : (word q made j : ℕ) (before half : List ℕ) → StateAdded word q j before half → made ≡ 2 ^ q → q < 4 → j < made
    → StateAdded word q (j + 1) before (set half (made + j) (bit_or (get_or half j 0) word))
added_more word q made j before half v em hq hj = rw em
    (record { entries = length-set half c x ∙ v.entries; joined = more; others = stay })
  where
    c : ℕ
    c = 2 ^ q + j

    small : c < 16
    small = omega (arith, pow-suc 2 q, pow_mono {i = suc q} {j = 4} (omega arith))

    x : ℕ
    x = bit_or (get_or half j 0) word

    more : (i : ℕ) → i < j + 1 → get_or (set half c x) (2 ^ q + i) 0 ≡ bit_or (get_or before i 0) word
    more i h = go (ℕ_discrete i j)
      where
        go : Dec (i ≡ j) → get_or (set half c x) (2 ^ q + i) 0 ≡ bit_or (get_or before i 0) word
        go (yes e) = rw e (get_or-set_same half c x 0 (omega (arith, small, v.entries))
            ∙ ap (λ (z : ℕ). bit_or z word) (v.others j (inl (omega arith))))
        go (no e) = get_or-set_other half c (2 ^ q + i) x 0 (λ z. e (omega arith)) ∙ v.joined i (omega arith)

    stay : (i : ℕ) → (i < 2 ^ q) ⊎ (2 ^ q + (j + 1) ≤ i) → get_or (set half c x) i 0 ≡ get_or before i 0
    stay i out = get_or-set_other half c i x 0 (λ e. ⊎_elim (λ l. omega arith) (λ l. omega arith) out)
        ∙ v.others i (⊎_elim inl (λ l. inr (omega arith)) out)

-- ALL STATES

-- the first c entries of a half are made from its states' words
pub record Filled (words : List ℕ) (c : ℕ) (half : List ℕ) : Type 0 where
  pub entries : length half ≡ 16
  pub made : (j : ℕ) → j < c → get_or half j 0 ≡ joined_word words j

-- before the first state: the empty set
pub filled_none : (words half : List ℕ) → length half ≡ 16 → Filled words (2 ^ 0) (set half 0 0)
filled_none words half size = record {
  entries = length-set half 0 0 ∙ size;
  made = λ j h. let e : j ≡ 0 = omega arith in rw e (get_or-set_same half 0 0 0 (omega arith) ∙ sym (joined_none words));
}

-- with one more state there are twice as many
pub filled_more : (words : List ℕ) (q : ℕ) (before after : List ℕ) → Filled words (2 ^ q) before
    → StateAdded (get_or words q 0) q (2 ^ q) before after → Filled words (2 ^ suc q) after
filled_more words q before after v add = record { entries = add.entries; made = λ i h. more i h (dec_lt i (2 ^ q)) }
  where
    more : (i : ℕ) → i < 2 ^ suc q → Dec (i < 2 ^ q) → get_or after i 0 ≡ joined_word words i
    more i h (yes l) = add.others i (inl l) ∙ v.made i l
    more i h (no l) =
        let j : ℕ = i - 2 ^ q in
        let few : j < 2 ^ q = omega (arith, pow-suc 2 q) in
        let e : i ≡ 2 ^ q + j = omega arith in
        rw e (add.joined j few ∙ ap (λ (z : ℕ). bit_or z (get_or words q 0)) (v.made j few) ∙ sym (joined_more words q j few))

-- all sixteen entries
pub filled_all : (words half : List ℕ) → Filled words 16 half → half ≡ tabulate 16 (joined_word words)
filled_all words half v = ext_get_or 0 half (tabulate 16 (joined_word words)) (v.entries ∙ sym (length_tabulate 16 (joined_word words)))
    (λ i h. let few : i < 16 = omega (arith, v.entries) in v.made i few ∙ sym (get_d_tabulate 16 (joined_word words) i 0 few))

-- BOTH HALVES

-- sets of the first k states, and sets without these
joined_front : (k : ℕ) (words : List ℕ) (s : ℕ) → s < 2 ^ k → joined_word (take k words) s ≡ joined_word words s
unfolding joined_word
joined_front zero words s h = let e : s ≡ 0 = omega arith in rw e (sym (joined_none words))
joined_front (suc k) [] s h = refl
joined_front (suc k) (word ∷ words) s h =
    ap (bit_or (cond (eqb (s % 2) 1) word 0)) (joined_front k words (s / 2) (omega (arith, pow-suc 2 k)))

joined_behind : (k : ℕ) (words : List ℕ) (s : ℕ) → joined_word words (2 ^ k * s) ≡ joined_word (drop k words) s
unfolding joined_word
joined_behind zero words s = let e : 2 ^ 0 * s ≡ s = omega arith in rw e
joined_behind (suc k) [] s = refl
joined_behind (suc k) (word ∷ words) s =
    let twice : 2 ^ suc k * s ≡ 2 * (2 ^ k * s) = rw (pow-suc 2 k) (omega arith) in
    let low : 2 ^ suc k * s % 2 ≡ 0 = omega (arith, twice) in
    let half : 2 ^ suc k * s / 2 ≡ 2 ^ k * s = omega (arith, twice) in
    rw (low, half) (or_zero_l (joined_word words (2 ^ k * s)) ∙ joined_behind k words s)

-- the look-up, half by half
pub halves_joined : (words : List ℕ) → tabulate 16 (joined_word (take 4 words)) ++ tabulate 16 (joined_word (drop 4 words)) ≡ joined_lookup words
unfolding joined_lookup
halves_joined words = ap₂ (λ (l r : Lookup). l ++ r) (tabulate_ext 16 _ _ (λ j h. joined_front 4 words j h))
    (tabulate_ext 16 _ _ (λ j h. sym (joined_behind 4 words j)))
