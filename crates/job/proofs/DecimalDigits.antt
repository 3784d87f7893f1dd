-- Decimal digits: the two equations that fix them for every number, and how many there are.
use mathlib.Core.Path.{◌≡◌, refl, sym, ◌∙◌, ap}
use mathlib.Core.Bool.{true, false}
use mathlib.Core.Logic.{⊎_elim}
use mathlib.Core.List.{List, [], ◌∷◌, ◌++◌, append_assoc, append-nil}
use Prim.Native.Nat.{ℕ, zero, suc, ◌+◌, ◌-◌, ◌/◌, ◌%◌, ◌^◌, ◌≤◌, ◌<◌}
use native.Mathlib.Nat.{pow-suc}
use native.Mathlib.Omega.{arith}
use borrow.Author.Tests.{ltb-true, ltb-false, lt-ltb, le-ltb}
use lib.Dec.{ltb}
use lib.ListN.{length, take, drop, set, length-append, length-set, length-drop, drop_of_length-le}
use lib.Seq.{set_split, drop_at, take_all, length-take-le}
use Rattle.base.proofs.Logic.{look}
use Rattle.job.specs.JobCall.{digits, digits_within}

-- any bound will do
within_same : (a b n : ℕ) → n ≤ a → n ≤ b → digits_within a n ≡ digits_within b n
unfolding digits_within
within_same zero zero n ha hb = refl
within_same zero (suc b) n ha hb = rw (lt-ltb n 10 (omega arith))
within_same (suc a) zero n ha hb = rw (lt-ltb n 10 (omega arith))
within_same (suc a) (suc b) n ha hb = ⊎_elim
    (λ low. rw low)
    (λ high. let tens : 10 ≤ n = ltb-false n 10 high in
    rw high (ap (λ (l : List ℕ). l ++ ((48 + n % 10) ∷ [])) (within_same a b (n / 10) (omega arith) (omega arith))))
    (look (ltb n 10))

-- a number below 10 is one digit
pub digits_last : (n : ℕ) → n < 10 → digits n ≡ (48 + n) ∷ []
unfolding digits digits_within
digits_last zero h = refl
digits_last (suc n) h = rw (lt-ltb (suc n) 10 h)

-- any other has the digits of its tenth part in front of its last one
pub digits_more : (n : ℕ) → 10 ≤ n → digits n ≡ digits (n / 10) ++ ((48 + n % 10) ∷ [])
unfolding digits digits_within
digits_more zero h = absurd (omega arith)
digits_more (suc n) h = rw (le-ltb (suc n) 10 h)
    (ap (λ (l : List ℕ). l ++ ((48 + suc n % 10) ∷ [])) (within_same n (suc n / 10) (suc n / 10) (omega arith) (omega arith)))

module _ (n : ℕ) where
  length_last : ltb n 10 ≡ true → length (digits n) ≡ 1
  length_last low = rw (digits_last n (ltb-true n 10 low))

  length_more : ltb n 10 ≡ false → length (digits n) ≡ length (digits (n / 10)) + 1
  length_more high = rw (digits_more n (ltb-false n 10 high)) (length-append (digits (n / 10)) ((48 + n % 10) ∷ []))

-- there is at least one
pub digits_some : (n : ℕ) → 1 ≤ length (digits n)
digits_some n = ⊎_elim (λ low. omega (arith, length_last n low)) (λ high. omega (arith, length_more n high)) (look (ltb n 10))

-- a number below 10 ^ (k + 1) has at most k + 1
pub digits_short : (k n : ℕ) → n < 10 ^ suc k → length (digits n) ≤ suc k
digits_short zero n h = ⊎_elim
    (λ low. omega (arith, length_last n low))
    (λ high. absurd (omega (arith, pow-suc 10 0, ltb-false n 10 high)))
    (look (ltb n 10))
digits_short (suc k) n h = ⊎_elim
    (λ low. omega (arith, length_last n low))
    (λ high. omega (arith, length_more n high, digits_short k (n / 10) (omega (arith, pow-suc 10 (suc k)))))
    (look (ltb n 10))

-- DIGITS FROM THE BACK OF AN ARRAY

-- the places behind `at` hold the digits behind those of `rest`, which go in front of them
pub record DigitsFrom (number rest : ℕ) (places : List ℕ) (at : ℕ) : Type 0 where
  pub within : at < length places
  pub room : length (digits rest) ≤ suc at
  pub same : digits number ≡ digits rest ++ drop (suc at) places

-- what stands from the place of a store on
drop_set : (l : List ℕ) (i x : ℕ) → i < length l → drop i (set l i x) ≡ x ∷ drop (suc i) l
drop_set l i x h = ap (drop i) (set_split l i x h) ∙ drop_at (take i l) (x ∷ drop (suc i) l) i (length-take-le i l (omega arith))

pub places_start : (number : ℕ) (places : List ℕ) (at : ℕ) → number < 10 ^ suc at → length places ≡ suc at → DigitsFrom number number places at
places_start number places at h size =
    let all : length places ≤ suc at = omega arith in
    record {
      within = omega arith;
      room = digits_short at number h;
      same = sym (append-nil (digits number)) ∙ ap (digits number ++◌) (sym (drop_of_length-le places all));
    }

module _ {number rest : ℕ} {places : List ℕ} {at : ℕ} (v : DigitsFrom number rest places at) where
  -- there is a place for the next digit, and one in front of it
  pub places_left : 10 ≤ rest → 1 ≤ at
  places_left tens = omega (arith, v.room, length_more rest (le-ltb rest 10 tens), digits_some (rest / 10))

  pub places_turn : 10 ≤ rest → DigitsFrom number (rest / 10) (set places at (48 + rest % 10)) (at - 1)
  places_turn tens =
      let before : suc (at - 1) ≡ at = omega (arith, places_left tens) in
      record {
        within = omega (arith, v.within, length-set places at (48 + rest % 10));
        room = omega (arith, v.room, length_more rest (le-ltb rest 10 tens));
        same = v.same ∙ rw (digits_more rest tens, before, drop_set places at (48 + rest % 10) v.within)
            (append_assoc (digits (rest / 10)) ((48 + rest % 10) ∷ []) (drop (suc at) places));
      }

  -- the first digit: the array from its place on
  pub places_done : rest < 10 → (width : ℕ) → length places ≡ width → take (width - at) (drop at (set places at (48 + rest))) ≡ digits number
  places_done low width size =
      let stored = set places at (48 + rest) in
      take_all (width - at) (drop at stored) (omega (arith, length-drop at stored, length-set places at (48 + rest)))
      ∙ drop_set places at (48 + rest) v.within ∙ sym (v.same ∙ rw (digits_last rest low))
