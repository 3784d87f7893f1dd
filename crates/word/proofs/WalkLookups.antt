-- The look-ups of a walk: the letters that occur in it, the look-ups made from their words, and that each letter has its look-up.
use mathlib.Core.Path.{◌≡◌, refl, sym, ◌∙◌, ap, ap₂}
use mathlib.Core.Logic.{⊎_elim}
use mathlib.Core.Bool.{Bool, true, ◌&&◌, ◌||◌, cond, or_assoc, or-false}
use mathlib.Core.List.{List, [], ◌∷◌, ◌++◌}
use Prim.Native.Nat.{ℕ, zero, suc, ◌+◌, ◌-◌, ◌/◌, ◌%◌, ◌^◌, ◌≤◌, ◌<◌}
use native.Mathlib.Decide.{ℕ_discrete}
use native.Mathlib.Numerals.{add-one}
use native.Mathlib.Omega.{arith}
use borrow.Author.Tests.{eqb-true, eq-eqb, ne_eqb, lt-ltb}
use lib.Bits.{bit_or, or_zero_r}
use lib.Dec.{eqb, ltb}
use lib.ListN.{length, get_or, take, set, length-set}
use lib.Seq.{take-suc, ext_get_or, get_or-set_same, get_or-set_other}
use Rattle.base.specs.BitSet.{member, Subset, collect}
use Rattle.base.specs.Lists.{Every, tabulate}
use Rattle.base.proofs.BitSet.{
  member_none,
  member_union,
  subset_antisym,
  union_subset,
  union_assoc,
  member_collect,
  collect_ext,
  collect_union,
  collect_single,
  member_all,
}
use Rattle.base.proofs.Every.{every_weaker, every_both}
use Rattle.base.proofs.Logic.{clash, and_both, and_in, or_l, or_r, or_in}
use Rattle.base.proofs.Tabulate.{length_tabulate, get_d_tabulate, tabulate_ext}
use Rattle.rule.specs.Limits.{max_letters}
use Rattle.rule.specs.Rule.{Rule}
use Rattle.rule.specs.Inner.Padded.{padded}
use Rattle.rule.specs.Inner.Lookup.{joined_lookup}
use Rattle.rule.proofs.LookupSteps.{lookup_made}
use Rattle.table.specs.Inner.ReadRule.{HoldsRule}
use Rattle.table.specs.declared.header.Header.{Header}
use Rattle.word.specs.Inner.Prepared.{Prepared}
use Rattle.word.specs.Inner.WalkLookups.{Lookups, occurs, refilled, lookups_after, HasLookup}

-- THE LETTERS THAT OCCUR

-- the map of the letters of a word
abbrev letters_of : List ℕ → ℕ
letters_of w = collect max_letters (occurs w)

-- in a word with one letter more
occurs_more : (w : List ℕ) (b a : ℕ) → occurs (w ++ (b ∷ [])) a ≡ (occurs w a || eqb (b % max_letters) a)
unfolding occurs
occurs_more [] b a = or-false _
occurs_more (c ∷ w) b a =
    ap (λ (t : Bool). eqb (c % max_letters) a || t) (occurs_more w b a) ∙ sym (or_assoc (eqb (c % max_letters) a) (occurs w a) _)

-- each letter of a word does
occurs_all : (w : List ℕ) → Every (λ a. occurs w (a % max_letters) ≡ true) w
unfolding occurs
occurs_all [] = tt
occurs_all (a ∷ w) = (
  or_l (eqb (a % max_letters) (a % max_letters)) _ (eq-eqb (a % max_letters) (a % max_letters) refl),
  every_weaker _ _ w (λ b m. or_r (eqb (a % max_letters) (b % max_letters)) _ m) (occurs_all w),
)

-- and is joined to their map
letters_more : (w : List ℕ) (b : ℕ) → letters_of (w ++ (b ∷ [])) ≡ bit_or (letters_of w) (2 ^ (b % max_letters))
letters_more w b = collect_ext max_letters _ _ (λ a l. occurs_more w b a) ∙ sym (collect_union max_letters (occurs w) (λ a. eqb (b % max_letters) a))
    ∙ ap (bit_or (letters_of w)) (collect_single max_letters (b % max_letters) (omega arith))

-- a letter of the map is below the limit, and occurs
letter_occurs : (w : List ℕ) (a : ℕ) → member (letters_of w) a ≡ true → (ltb a max_letters ≡ true) × (occurs w a ≡ true)
letter_occurs w a h = and_in (ltb a max_letters) _ (sym (member_collect max_letters (occurs w) a) ∙ h)

-- the letters at the front of a word are among its letters
letters_front : (at : ℕ) (w : List ℕ) → Subset (letters_of (take at w)) (letters_of w)
unfolding occurs
letters_front at w a h =
    let (low, comes) = letter_occurs (take at w) a h in
    member_collect max_letters (occurs w) a ∙ and_both (ltb a max_letters) _ low (front at w a comes)
  where
    front : (at : ℕ) (w : List ℕ) (a : ℕ) → occurs (take at w) a ≡ true → occurs w a ≡ true
    front zero w a h = clash refl h
    front (suc at) [] a h = clash refl h
    front (suc at) (b ∷ w) a h = ⊎_elim (or_l (eqb (b % max_letters) a) (occurs w a))
        (λ later. or_r (eqb (b % max_letters) a) (occurs w a) (front at w a later))
        (or_in (eqb (b % max_letters) a) (occurs (take at w) a) h)

-- the map of the first `at` letters of w, joined to the others: at the start, and after one letter more
abbrev pub LettersUpTo : ℕ → List ℕ → ℕ → ℕ → Type 0
LettersUpTo others w at letters = letters ≡ bit_or others (letters_of (take at w))

pub letters_none : (others : ℕ) (w : List ℕ) → LettersUpTo others w 0 others
unfolding occurs collect
letters_none others w = sym (or_zero_r others)

module _ (others : ℕ) (w : List ℕ) (at letters : ℕ) (upto : LettersUpTo others w at letters) where
  pub letters_next : at < length w → LettersUpTo others w (at + 1) (bit_or letters (2 ^ (get_or w at 0 % max_letters)))
  letters_next h =
      rw (upto, add-one, take-suc w at 0 h, letters_more (take at w) (get_or w at 0)) (sym (union_assoc others (letters_of (take at w)) _))

  -- when all that can come have come, no other comes
  pub letters_all : (all : ℕ) → Subset (bit_or others (letters_of w)) all → letters ≡ all → letters ≡ bit_or others (letters_of w)
  letters_all all inside e = subset_antisym letters (bit_or others (letters_of w)) (rw upto so_far) (rw e inside)
    where
      so_far : Subset (bit_or others (letters_of (take at w))) (bit_or others (letters_of w))
      so_far = union_subset others (letters_of (take at w)) (bit_or others (letters_of w))
          (λ a m. member_union others (letters_of w) a ∙ or_l (member others a) _ m)
          (λ a m. member_union others (letters_of w) a ∙ or_r (member others a) _ (letters_front at w a m))

-- all that can come: where a rule has m letters, those below m
module _ (m all : ℕ) (few : m ≤ max_letters) (is : all ≡ 2 ^ m - 1) where
  occurs_below : (w : List ℕ) → Every (λ b. b < m) w → (a : ℕ) → occurs w a ≡ true → a < m
  unfolding occurs
  occurs_below [] below a h = clash refl h
  occurs_below (b ∷ w) (less, below) a h = ⊎_elim (λ e. omega (arith, eqb-true (b % max_letters) a e)) (occurs_below w below a)
      (or_in (eqb (b % max_letters) a) (occurs w a) h)

  letters_among : (w : List ℕ) → Every (λ b. b < m) w → Subset (letters_of w) all
  letters_among w below a h = rw is (member_all m a (occurs_below w below a (letter_occurs w a h).1))

  -- the letters of u, and those of v joined to them
  module _ (u : List ℕ) (lead : Every (λ b. b < m) u) where
    pub lead_among : Subset (bit_or 0 (letters_of u)) all
    lead_among = union_subset 0 (letters_of u) all (λ a h. clash (member_none a) h) (letters_among u lead)

    pub walk_among : (v : List ℕ) → Every (λ b. b < m) v → (lead-letters : ℕ) → lead-letters ≡ bit_or 0 (letters_of u)
        → Subset (bit_or lead-letters (letters_of v)) all
    walk_among v tail lead-letters lead-are = union_subset lead-letters (letters_of v) all (rw lead-are lead_among) (letters_among v tail)

-- THEIR LOOK-UPS

-- what the look-up of a letter becomes
abbrev entry : ℕ → List (List ℕ) → Lookups → ℕ → List ℕ
entry letters words before a = cond (member letters a) (joined_lookup (get_or words a [])) (get_or before a [])

-- look-ups as they were, but for those of the letters below `at` that are in a map
pub record LookupsUpTo (letters : ℕ) (words : List (List ℕ)) (before : Lookups) (at : ℕ) (lookups : Lookups) : Type 0 where
  pub places : length lookups ≡ max_letters
  pub made : (a : ℕ) → a < at → get_or lookups a [] ≡ entry letters words before a
  pub stays : (a : ℕ) → at ≤ a → get_or lookups a [] ≡ get_or before a []

module _ (letters : ℕ) (words : List (List ℕ)) (before : Lookups) (at : ℕ) (lookups : Lookups) (v : LookupsUpTo letters words before at lookups) where
  -- the next letter is in the map, and its look-up is made
  pub lookups_made : at < max_letters → letters / 2 ^ at % 2 ≡ 1 → (lookup : List ℕ) → lookup ≡ joined_lookup (get_or words at [])
      → LookupsUpTo letters words before (at + 1) (set lookups at lookup)
  unfolding member
  lookups_made inside chosen lookup is = record {
    places = length-set lookups at lookup ∙ v.places;
    made = λ a l. go a l (ℕ_discrete a at);
    stays = λ a l. get_or-set_other lookups at a lookup [] (λ e. omega arith) ∙ v.stays a (omega arith);
  }
    where
      go : (a : ℕ) → a < at + 1 → Dec (a ≡ at) → get_or (set lookups at lookup) a [] ≡ entry letters words before a
      go a l (yes e) = rw (e, eq-eqb _ 1 chosen) (get_or-set_same lookups at lookup [] (omega (arith, v.places, inside)) ∙ is)
      go a l (no e) = get_or-set_other lookups at a lookup [] e ∙ v.made a (omega arith)

  -- or it is not, and its look-up stays
  pub lookups_kept : (letters / 2 ^ at % 2 ≡ 1 → ⊥) → LookupsUpTo letters words before (at + 1) lookups
  unfolding member
  lookups_kept out = record { places = v.places; made = λ a l. go a l (ℕ_discrete a at); stays = λ a l. v.stays a (omega arith) }
    where
      go : (a : ℕ) → a < at + 1 → Dec (a ≡ at) → get_or lookups a [] ≡ entry letters words before a
      go a l (yes e) = rw (e, ne_eqb _ 1 out) (v.stays at (omega arith))
      go a l (no e) = v.made a (omega arith)

  -- at the end
  pub lookups_end : max_letters ≤ at → lookups ≡ refilled (member letters) words before
  unfolding refilled
  lookups_end over = ext_get_or [] lookups (tabulate max_letters (entry letters words before)) (v.places ∙ sym (length_tabulate max_letters _))
      (λ a l. v.made a (omega (arith, v.places)) ∙ sym (get_d_tabulate max_letters _ a [] (omega (arith, v.places))))

-- THE LETTERS OF A WALK

-- the look-ups of the letters of u and of v
pub lookups_walk : (words : List (List ℕ)) (u v : List ℕ) (lead-letters letters : ℕ) (before : Lookups)
    → lead-letters ≡ bit_or 0 (letters_of u) → letters ≡ bit_or lead-letters (letters_of v)
    → refilled (member letters) words before ≡ lookups_after words u v before
unfolding lookups_after refilled
lookups_walk words u v lead-letters letters before lead-are are = tabulate_ext max_letters _ _ (λ a l.
    ap (λ (t : Bool). cond t (joined_lookup (get_or words a [])) (get_or before a [])) (same a l))
  where
    of : (w : List ℕ) (a : ℕ) → a < max_letters → member (letters_of w) a ≡ occurs w a
    of w a l = member_collect max_letters (occurs w) a ∙ ap (λ (t : Bool). t && occurs w a) (lt-ltb a max_letters l)

    same : (a : ℕ) → a < max_letters → member letters a ≡ (occurs u a || occurs v a)
    same a l = ap (λ (x : ℕ). member x a) are ∙ member_union lead-letters (letters_of v) a
        ∙ ap₂ ◌||◌ (ap (λ (x : ℕ). member x a) lead-are ∙ member_union 0 (letters_of u) a
        ∙ ap₂ ◌||◌ (member_none a) (of u a l)) (of v a l)

-- so each letter of a walk over a rule that the words are of has its look-up
module _ {R : Rule} {header : Header} {words : List (List ℕ)} (h : HoldsRule R header words) (u v : List ℕ)
    (lead : Every (λ a. a < header.letters) u) (tail : Every (λ a. a < header.letters) v)
    (before lookups : Lookups) (made : lookups ≡ lookups_after words u v before) where
  has_lookup : (a : ℕ) → a < header.letters → (occurs u (a % max_letters) || occurs v (a % max_letters)) ≡ true → HasLookup R lookups a
  unfolding lookups_after refilled
  has_lookup a less m =
      let below : a < R.letters = rw h.numbers.letters at less in
      let small : a < max_letters = omega (arith, h.limits.letters) in
      let same : a % max_letters ≡ a = omega arith in
      record {
        below = below;
        entries = lookup_made (padded R.grid) h.images a (rw made (get_d_tabulate max_letters _ a [] small ∙ rw (rw same at m)));
      }

  -- and the walk can be judged
  pub walk_prepared : Prepared R header lookups u v
  walk_prepared = record {
    numbers = h.numbers;
    limits = h.limits;
    lead = every_weaker _ _ u (λ a (less, m). has_lookup a less (or_l _ _ m)) (every_both _ _ u lead (occurs_all u));
    tail = every_weaker _ _ v (λ a (less, m). has_lookup a less (or_r (occurs u (a % max_letters)) _ m)) (every_both _ _ v tail (occurs_all v));
  }
