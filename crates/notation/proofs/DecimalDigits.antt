-- Digits, and numbers in decimal.
use Rattle.std.proofs.Common.{◌≡◌, refl, sym, ◌∙◌, ap, ap₂, List, [], ◌∷◌, ℕ, zero, suc, ◌+◌, ◌*◌, ◌<◌, ◌≤◌, length, drop, get_or, drop_of_length-le, drop-cons, add-one, arith, map, cond, Option, Some, None, Bool, true, false, not, leb, nat_eq}
use Rattle.std.proofs.lemmas.Bool.{le-leb, lt-leb, leb-true, eqb-true, eqb-false, not-true, not-false}
use Rattle.std.proofs.lemmas.Option.{none-some, same_Some}
use Rattle.std.proofs.lemmas.List.{length-map}
use Rattle.std.specs.Option.{option_and_then, option_eq}
use Rattle.notation.specs.Decimal.{digit_value, no_larger, digits_value, decimal}

-- DIGITS FROM THE LEFT

pub no_letter : (limit : ℕ) (text : List ℕ) → length text ≡ 0 → no_larger limit (decimal text) ≡ None
unfolding decimal no_larger
no_letter limit [] e = refl
no_letter limit (letter ∷ rest) e = absurd (omega arith)

pub first_place : (text : List ℕ) → (length text ≡ 0 → ⊥) → decimal text ≡ digits_value 0 text
unfolding decimal
first_place [] n = absurd (n refl)
first_place (letter ∷ rest) n = refl

-- more digits make no smaller number
pub too_large : (limit before : ℕ) (text : List ℕ) → limit < before → no_larger limit (digits_value before text) ≡ None
unfolding digits_value no_larger
too_large limit before [] h = rw (lt-leb before limit h)
too_large limit before (letter ∷ rest) h = go (no_larger 9 (digit_value letter)) (λ d. too_large limit (10 * before + d) rest (omega arith))
  where
    go : (digit : Option ℕ) → ((d : ℕ) → no_larger limit (digits_value (10 * before + d) rest) ≡ None)
        → no_larger limit (option_and_then (λ d. digits_value (10 * before + d) rest) digit) ≡ None
    go None large = refl
    go (Some d) large = large d

-- AT A PLACE

module _ (text : List ℕ) (value at : ℕ) where
  there : at < length text → digits_value value (drop at text)
      ≡ option_and_then (λ d. digits_value (10 * value + d) (drop (at + 1) text)) (no_larger 9 (digit_value (get_or text at 0)))
  unfolding digits_value
  there h = rw (add-one at, drop-cons text at 0 h)

  -- another letter than a digit
  pub no_digit : at < length text → digit_value (get_or text at 0) ≡ None → digits_value value (drop at text) ≡ None
  unfolding no_larger
  no_digit h e = there h ∙ rw e

  -- a digit that has no value in decimal
  pub large_digit : at < length text → (d : ℕ) → digit_value (get_or text at 0) ≡ Some d → 9 < d → digits_value value (drop at text) ≡ None
  unfolding no_larger
  large_digit h d e large = there h ∙ rw (e, lt-leb d 9 large)

  -- one digit more
  pub one_digit : at < length text → (d : ℕ) → digit_value (get_or text at 0) ≡ Some d → d ≤ 9
      → digits_value value (drop at text) ≡ digits_value (10 * value + d) (drop (at + 1) text)
  unfolding no_larger
  one_digit h d e small = there h ∙ rw (e, le-leb d 9 small)

  -- the whole text
  pub all_digits : length text ≤ at → digits_value value (drop at text) ≡ Some value
  unfolding digits_value
  all_digits h = rw (drop_of_length-le text h)

  -- too large with the next digit
  pub too_large_next : (limit : ℕ) → decimal text ≡ digits_value value (drop at text) → at < length text → (d : ℕ)
      → digit_value (get_or text at 0) ≡ Some d → d ≤ 9 → limit < 10 * value + d → no_larger limit (decimal text) ≡ None
  too_large_next limit so h d e small large =
      ap (λ o. no_larger limit o) (so ∙ one_digit h d e small) ∙ too_large limit (10 * value + d) (drop (at + 1) text) large

-- SEVERAL NUMBERS

-- each stands in its part
pub has_number : (texts : List (List ℕ)) (numbers : List ℕ) → map decimal texts ≡ map (λ n. Some n) numbers → (k : ℕ) → k < length numbers
    → decimal (get_or texts k []) ≡ Some (get_or numbers k 0)
has_number [] [] e k h = absurd (omega arith)
has_number [] (n ∷ numbers) e k h = absurd (omega (arith, ap length e))
has_number (text ∷ texts) [] e k h = absurd (omega arith)
has_number (text ∷ texts) (n ∷ numbers) e zero h = cc
has_number (text ∷ texts) (n ∷ numbers) e (suc k) h =
    let behind : map decimal texts ≡ map (λ n. Some n) numbers = cc in
    has_number texts numbers behind k (omega arith)

-- and there are as many parts
pub has_count : (texts : List (List ℕ)) (numbers : List ℕ) → map decimal texts ≡ map (λ n. Some n) numbers → length texts ≡ length numbers
has_count texts numbers e = sym (length-map texts decimal) ∙ ap length e ∙ length-map numbers (λ n. Some n)

-- that is all
pub all_numbers : (texts : List (List ℕ)) (numbers : List ℕ) → length texts ≤ length numbers
    → ((k : ℕ) → k < length numbers → decimal (get_or texts k []) ≡ Some (get_or numbers k 0)) → map decimal texts ≡ map (λ n. Some n) numbers
unfolding decimal
all_numbers [] [] h each = refl
all_numbers [] (n ∷ numbers) h each = absurd (none-some n (each 0 (omega arith)))
all_numbers (text ∷ texts) [] h each = absurd (omega arith)
all_numbers (text ∷ texts) (n ∷ numbers) h each =
    ap₂ {C = List (Option ℕ)} (λ x l. x ∷ l) (each 0 (omega arith)) (all_numbers texts numbers (omega arith) (λ k less. each (suc k) (omega arith)))

-- a number within a limit
pub limit_kept : (limit : ℕ) (o : Option ℕ) (n : ℕ) → no_larger limit o ≡ Some n → (o ≡ Some n) × (n ≤ limit)
unfolding no_larger
limit_kept limit None n e = absurd (none-some n e)
limit_kept limit (Some m) n e = go (leb m limit) refl e
  where
    go : (t : Bool) → leb m limit ≡ t → cond t (Some m) None ≡ Some n → (Some m ≡ Some n) × (n ≤ limit)
    go true t e = (e, omega (arith, same_Some m n e, leb-true m limit t))
    go false t e = absurd (none-some n e)

pub limit_met : (limit : ℕ) (o : Option ℕ) (n : ℕ) → o ≡ Some n → n ≤ limit → no_larger limit o ≡ Some n
unfolding no_larger
limit_met limit o n e h = rw (e, le-leb n limit h)

-- a number compared with another
same_number : (o : Option ℕ) (n : ℕ) → not (option_eq nat_eq o (Some n)) ≡ false → o ≡ Some n
same_number None n e = cc
same_number (Some m) n e = ap {B = Option ℕ} Some (eqb-true m n (not-false _ e))

other_number : (o : Option ℕ) (n : ℕ) → not (option_eq nat_eq o (Some n)) ≡ true → o ≡ Some n → ⊥
other_number None n e s = none-some n s
other_number (Some m) n e s = eqb-false m n (not-true _ e) (same_Some m n s)

-- one part and its number
module _ (limit : ℕ) (text : List ℕ) (number : Option ℕ) (n : ℕ) (is : number ≡ no_larger limit (decimal text)) where
  pub part_same : not (option_eq nat_eq number (Some n)) ≡ false → decimal text ≡ Some n
  part_same e = (limit_kept limit (decimal text) n (sym is ∙ same_number number n e)).0

  pub part_other : n ≤ limit → not (option_eq nat_eq number (Some n)) ≡ true → decimal text ≡ Some n → ⊥
  part_other small e has = other_number number n e (is ∙ limit_met limit (decimal text) n has small)
