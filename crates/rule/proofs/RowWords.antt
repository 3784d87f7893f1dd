-- The word of a row (specs/Inner/Lookup.antt): each transition that is read adds its relations, and the words of the rows are held
-- beside the rows.
use mathlib.Core.Path.{◌≡◌, refl, sym, ◌∙◌, ap, ap₂}
use mathlib.Core.Bool.{Bool, true, false, ◌&&◌, ◌||◌, and-false, and-true, or-false}
use mathlib.Core.List.{List, [], map}
use Prim.Native.Nat.{ℕ, zero, suc, ◌+◌, ◌*◌, ◌-◌, ◌/◌, ◌%◌, ◌^◌, ◌≤◌, ◌<◌}
use native.Mathlib.Decide.{ℕ_discrete}
use native.Mathlib.Omega.{arith}
use borrow.Author.Tests.{eq-eqb, ne_eqb}
use lib.Bits.{bit_and, bit_or, and_le_l, or_zero_l, or_zero_r}
use lib.Count.{count_trailing_zeros}
use lib.Dec.{eqb, eqb-suc-zero}
use lib.ListN.{length, get_or, set, replicate, get_or-map}
use lib.Pow.{pow-lt}
use Rattle.std.proofs.lemmas.List.{map-set}
use lib.Seq.{get_or-set_same, get_or-set_other}
use Rattle.base.specs.BitSet.{member}
use Rattle.base.proofs.BitSet.{member_none, member_zero, member_suc, member_single}
use Rattle.base.proofs.LowestBit.{lowest_inside, lowest_stands, cleared_member, cleared_others}
use Rattle.rule.specs.Limits.{max_states, max_letters, no_transition}
use Rattle.rule.specs.Rule.{Grid}
use Rattle.rule.specs.Inner.Padded.{blank_row, blank_cells}
use Rattle.rule.specs.Inner.Lanes.{lane_width, set_lanes, spread, in_lane, with_state}
use Rattle.rule.specs.Inner.Lookup.{relations_of, row_word, square_words, grid_words}
use Rattle.rule.proofs.ByRelation.{relations_ext, relations_none, relations_union, relations_in, relations_in_one}
use Rattle.rule.proofs.Padding.{blank_row_lem}

-- A ROW

-- without a transition
pub word_blank : row_word blank_row ≡ 0
unfolding row_word relations_of
word_blank = relations_ext _ _ (λ i r h l. rw (blank_row_lem r) (member_none i)) ∙ relations_none

word_empty : row_word [] ≡ 0
unfolding row_word relations_of
word_empty = relations_ext _ _ (λ i r h l. member_none i) ∙ relations_none

-- `made` is the word of the row with the bits that still stand in lane 0, and the places of these are blank
pub record WordSoFar (row : List ℕ) (rest made : ℕ) : Type 0 where
  pub blank : (r : ℕ) → member rest r ≡ true → get_or row r no_transition ≡ no_transition
  pub is : made ≡ bit_or (row_word row) (in_lane rest 0)

-- at the start
pub word_start : (standing made : ℕ) → made ≡ in_lane standing 0 → WordSoFar blank_row standing made
word_start standing made e = record {
  blank = λ r m. blank_row_lem r;
  is = e ∙ sym (ap (λ (x : ℕ). bit_or x (in_lane standing 0)) word_blank ∙ or_zero_l (in_lane standing 0));
}

-- the transition of the lowest standing bit is there, with the sets x
module _ {row : List ℕ} {rest made : ℕ} (v : WordSoFar row rest made) (room : lane_width ≤ length row) (some : 0 < rest) (few : rest < 2 ^ lane_width)
    (width : ℕ) (wide : lane_width ≤ width) (x : ℕ) (small : x < 2 ^ set_lanes) where
  abbrev r : ℕ
  r = count_trailing_zeros width rest

  inside : r < lane_width
  inside = lowest_inside width lane_width rest wide some few

  -- the bits that stand before and after it
  abbrev before : ℕ → ℕ → Bool
  before i q = (member (relations_of (get_or row q no_transition)) i || (eqb i 0 && member rest q)) || (member (2 * x) i && member (2 ^ r) q)

  abbrev after : ℕ → ℕ → Bool
  after i q = member (relations_of (get_or (set row r x) q no_transition)) i || (eqb i 0 && member (bit_and rest (rest - 1)) q)

  same : (i q : ℕ) → Dec (q ≡ r) → before i q ≡ after i q
  unfolding relations_of
  same i q (yes e) = rw (
    e,
    v.blank r (lowest_stands width lane_width rest wide some few),
    get_or-set_same row r x no_transition (omega (arith, inside)),
    ne_eqb x no_transition (λ z. omega arith),
    cleared_member width lane_width rest wide some few r,
    lowest_stands width lane_width rest wide some few,
    member_single r r,
    eq-eqb r r refl,
    member_none i,
  ) (go i)
    where
      go : (i : ℕ) → ((eqb i 0 && true) || (member (2 * x) i && true)) ≡ (member (1 + 2 * (x % 2 ^ set_lanes)) i || (eqb i 0 && false))
      go zero = let e : (1 + 2 * (x % 2 ^ set_lanes)) % 2 ≡ 1 = omega arith in
          sym (ap (λ (b : Bool). b || false) (member_zero (1 + 2 * (x % 2 ^ set_lanes)) ∙ ap (λ (d : ℕ). eqb d 1) e))
      go (suc j) =
          let half : 2 * x / 2 ≡ x = omega arith in
          let half' : (1 + 2 * (x % 2 ^ set_lanes)) / 2 ≡ x = omega arith in
          rw (eqb-suc-zero j, member_suc (2 * x) j, half, member_suc (1 + 2 * (x % 2 ^ set_lanes)) j, half', and-true (member x j)) (sym (or-false (member x j)))
  same i q (no e) = rw (
    get_or-set_other row r q x no_transition e,
    cleared_member width lane_width rest wide some few q,
    ne_eqb q r e,
    member_single r q,
    ne_eqb r q (λ z. e (sym z)),
    and-true (member rest q),
    and-false (member (2 * x) i),
  ) (or-false _)

  pub word_take : WordSoFar (set row r x) (bit_and rest (rest - 1)) (with_state made r (spread (2 * x)))
  unfolding with_state spread row_word
  word_take = record {
    blank = λ q m. let (stands, other) = cleared_others width lane_width rest wide some few q m in
        get_or-set_other row r q x no_transition other ∙ v.blank q stands;
    is = ap₂ bit_or (v.is ∙ ap (bit_or (row_word row)) (relations_in_one rest 0 few (omega arith)) ∙ relations_union _ _)
        (relations_in (2 ^ r) (member (2 * x)) (pow-lt inside)) ∙ relations_union _ _
        ∙ relations_ext before after (λ i q h l. same i q (ℕ_discrete q r))
        ∙ sym (ap (bit_or (row_word (set row r x))) (relations_in_one (bit_and rest (rest - 1)) 0
        (omega (arith, and_le_l rest (rest - 1))) (omega arith)) ∙ relations_union _ _);
  }

-- no bit stands any more
pub word_done : {row : List ℕ} {rest made : ℕ} → WordSoFar row rest made → rest ≡ 0 → made ≡ row_word row
unfolding in_lane
word_done {row} v z = v.is ∙ rw z (or_zero_r (row_word row))

-- WORDS BESIDE ROWS

-- the word of one row, and the words of one letter
pub word_at : (square : List (List ℕ)) (q : ℕ) → get_or (square_words square) q 0 ≡ row_word (get_or square q [])
unfolding square_words
word_at square q = ap (get_or (map row_word square) q) (sym word_empty) ∙ get_or-map row_word square q []

pub words_at : (cells : Grid) (a : ℕ) → get_or (grid_words cells) a [] ≡ square_words (get_or cells a [])
unfolding grid_words square_words
words_at cells a = get_or-map square_words cells a []

-- a row is stored with its word, and a letter's square with its words
pub word_stored : (square : List (List ℕ)) {words : List ℕ} → words ≡ square_words square → (q : ℕ) (row : List ℕ) {word : ℕ}
    → word ≡ row_word row → set words q word ≡ square_words (set square q row)
unfolding square_words
word_stored square are q row is = rw (are, is) (sym (map-set row_word square q row))

pub words_stored : (cells : Grid) {words : List (List ℕ)} → words ≡ grid_words cells → (a : ℕ) (square : List (List ℕ)) {more : List ℕ}
    → more ≡ square_words square → set words a more ≡ grid_words (set cells a square)
unfolding grid_words
words_stored cells are a square is = rw (are, is) (sym (map-set square_words cells a square))

-- blank cells lead nowhere
pub words_blank : replicate max_letters (replicate max_states 0) ≡ grid_words blank_cells
unfolding grid_words square_words
words_blank = rw word_blank
