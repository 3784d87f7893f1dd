-- The lowest standing bit of a map: its place, and the map without it. The map and its width are any.
use mathlib.Core.Path.{◌≡◌, refl, sym, ◌∙◌, ap}
use mathlib.Core.Bool.{true, false, not, ◌&&◌, and-false, and-true}
use Prim.Native.Nat.{ℕ, zero, suc, ◌-◌, ◌/◌, ◌%◌, ◌^◌, ◌≤◌, ◌<◌}
use native.Mathlib.Omega.{arith}
use native.Mathlib.Nat.{pow-suc}
use native.Mathlib.Decide.{dec_lt}
use borrow.Author.Tests.{eqb-false, ne_eqb}
use lib.Arith.{bin_ind}
use lib.Bits.{bit_and, and_step, and_self}
use lib.Count.{ones, ones_step, count_trailing_zeros}
use lib.Dec.{eqb, eqb-suc-suc, eqb-suc-zero}
use Rattle.base.specs.BitSet.{member}
use Rattle.base.proofs.BitSet.{member_zero, member_suc}
use Rattle.base.proofs.Logic.{and_in, not_in}

-- bit 0 stands: it is the lowest
pub lowest_here : (w n : ℕ) → n % 2 ≡ 1 → count_trailing_zeros (suc w) n ≡ 0
unfolding count_trailing_zeros
lowest_here w n odd = rw odd

-- bit 0 does not stand: the lowest is one place above that of the half
pub lowest_above : (w n : ℕ) → n % 2 ≡ 0 → count_trailing_zeros (suc w) n ≡ suc (count_trailing_zeros w (n / 2))
unfolding count_trailing_zeros
lowest_above w n even = rw even

-- the place is inside the map
pub lowest_inside : (w i n : ℕ) → i ≤ w → 0 < n → n < 2 ^ i → count_trailing_zeros w n < i
lowest_inside w zero n le some small = absurd (omega arith)
lowest_inside zero (suc i) n le some small = absurd (omega arith)
lowest_inside (suc w) (suc i) n le some small =
    go (dec_lt (n % 2) 1) (λ half. lowest_inside w i (n / 2) (omega arith) half (omega (arith, pow-suc 2 i)))
  where
    go : Dec (n % 2 < 1) → (0 < n / 2 → count_trailing_zeros w (n / 2) < i) → count_trailing_zeros (suc w) n < suc i
    go (yes even) ih = omega (arith, ih (omega arith), lowest_above w n (omega arith))
    go (no odd) ih = omega (arith, lowest_here w n (omega arith))

-- the lowest bit stands
pub lowest_stands : (w i n : ℕ) → i ≤ w → 0 < n → n < 2 ^ i → member n (count_trailing_zeros w n) ≡ true
lowest_stands w zero n le some small = absurd (omega arith)
lowest_stands zero (suc i) n le some small = absurd (omega arith)
lowest_stands (suc w) (suc i) n le some small =
    go (dec_lt (n % 2) 1) (λ half. lowest_stands w i (n / 2) (omega arith) half (omega (arith, pow-suc 2 i)))
  where
    go : Dec (n % 2 < 1) → (0 < n / 2 → member (n / 2) (count_trailing_zeros w (n / 2)) ≡ true) → member n (count_trailing_zeros (suc w) n) ≡ true
    go (yes even) ih = rw (lowest_above w n (omega arith), member_suc n) (ih (omega arith))
    go (no odd) ih = let one : n % 2 ≡ 1 = omega arith in rw (lowest_here w n one, member_zero n, one)

-- THE MAP WITHOUT ITS LOWEST STANDING BIT

-- bit 0 does not stand in it
pub cleared_even : (n : ℕ) → bit_and n (n - 1) % 2 ≡ 0
cleared_even zero = refl
cleared_even (suc n) = omega (arith, and_step (suc n) (suc n - 1))

-- bit 0 was the lowest: the other bits stay
pub cleared_here : (n : ℕ) → n % 2 ≡ 1 → bit_and n (n - 1) / 2 ≡ n / 2
cleared_here n odd =
    let e : (n - 1) / 2 ≡ n / 2 = omega arith in
    omega (arith, and_step n (n - 1), ap (bit_and (n / 2)) e, and_self (n / 2))

-- the lowest is above bit 0: it goes from the half
pub cleared_above : (n : ℕ) → 0 < n → n % 2 ≡ 0 → bit_and n (n - 1) / 2 ≡ bit_and (n / 2) (n / 2 - 1)
cleared_above n some even =
    let e : (n - 1) / 2 ≡ n / 2 - 1 = omega arith in
    omega (arith, and_step n (n - 1), ap (bit_and (n / 2)) e)

-- one bit less stands
pub cleared_ones : (n : ℕ) → 0 < n → ones n ≡ suc (ones (bit_and n (n - 1)))
cleared_ones =
    bin_ind (λ n. 0 < n → ones n ≡ suc (ones (bit_and n (n - 1)))) (λ some. absurd (omega arith)) (λ n ih some.
    go n ih some (dec_lt (n % 2) 1))
  where
    go : (n : ℕ) → (0 < n / 2 → ones (n / 2) ≡ suc (ones (bit_and (n / 2) (n / 2 - 1)))) → 0 < n → Dec (n % 2 < 1)
        → ones n ≡ suc (ones (bit_and n (n - 1)))
    go n ih some (yes even) =
        omega (
          arith,
          ones_step n,
          ih (omega arith),
          ones_step (bit_and n (n - 1)),
          cleared_even n,
          ap ones (cleared_above n some (omega arith)),
        )
    go n ih some (no odd) =
        omega (arith, ones_step n, ones_step (bit_and n (n - 1)), cleared_even n, ap ones (cleared_here n (omega arith)))

-- its members: those of the map but for the lowest
pub cleared_member : (w i n : ℕ) → i ≤ w → 0 < n → n < 2 ^ i → (q : ℕ)
    → member (bit_and n (n - 1)) q ≡ (member n q && not (eqb q (count_trailing_zeros w n)))
cleared_member w zero n le some small q = absurd (omega arith)
cleared_member zero (suc i) n le some small q = absurd (omega arith)
cleared_member (suc w) (suc i) n le some small q =
    go q (dec_lt (n % 2) 1) (λ half. cleared_member w i (n / 2) (omega arith) half (omega (arith, pow-suc 2 i)))
  where
    rest : ℕ
    rest = bit_and n (n - 1)

    half_rest : ℕ
    half_rest = bit_and (n / 2) (n / 2 - 1)

    go : (q : ℕ) → Dec (n % 2 < 1) → (0 < n / 2 → (p : ℕ) → member half_rest p ≡ (member (n / 2) p && not (eqb p (count_trailing_zeros w (n / 2)))))
        → member rest q ≡ (member n q && not (eqb q (count_trailing_zeros (suc w) n)))
    go zero (yes h) ih =
        let even : n % 2 ≡ 0 = omega arith in
        let out : member n 0 ≡ false = member_zero n ∙ rw even in
        member_zero rest ∙ rw (cleared_even n, out)
    go (suc p) (yes h) ih =
        let even : n % 2 ≡ 0 = omega arith in
        member_suc rest p ∙ ap (λ (x : ℕ). member x p) (cleared_above n some even) ∙ ih (omega arith) p
        ∙ sym (rw (lowest_above w n even, member_suc n p, eqb-suc-suc p (count_trailing_zeros w (n / 2))))
    go zero (no h) ih =
        let odd : n % 2 ≡ 1 = omega arith in
        member_zero rest ∙ rw (cleared_even n) (sym (rw (lowest_here w n odd) (and-false (member n 0))))
    go (suc p) (no h) ih =
        let odd : n % 2 ≡ 1 = omega arith in
        member_suc rest p ∙ ap (λ (x : ℕ). member x p) (cleared_here n odd)
        ∙ sym (rw (lowest_here w n odd, member_suc n p, eqb-suc-zero p) (and-true (member (n / 2) p)))

module _ (w i n : ℕ) (le : i ≤ w) (some : 0 < n) (small : n < 2 ^ i) where
  -- each stands in the map, and is another
  pub cleared_others : (q : ℕ) → member (bit_and n (n - 1)) q ≡ true → (member n q ≡ true) × (q ≡ count_trailing_zeros w n → ⊥)
  cleared_others q m =
      let (stands, other) = and_in (member n q) _ (sym (cleared_member w i n le some small q) ∙ m) in
      (stands, eqb-false q (count_trailing_zeros w n) (not_in _ other))

  -- and each other one stays
  pub cleared_keeps : (q : ℕ) → member n q ≡ true → (q ≡ count_trailing_zeros w n → ⊥) → member (bit_and n (n - 1)) q ≡ true
  cleared_keeps q stands other = cleared_member w i n le some small q ∙ rw (stands, ne_eqb q (count_trailing_zeros w n) other)
