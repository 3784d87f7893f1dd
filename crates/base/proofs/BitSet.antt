-- The laws of sets as bit maps and of the image of a set under a relation (specs/BitSet.antt): members of each operation's
-- result, sets with the same members are the same number, a smaller set has fewer members.
use mathlib.Core.Path.{◌≡◌, refl, sym, ◌∙◌, ap, ap₂}
use mathlib.Core.Logic.{◌⊎◌, inl, inr, ⊎_elim}
use mathlib.Core.Bool.{Bool, true, false, not, ◌&&◌, ◌||◌, cond, or_assoc}
use Prim.Native.Nat.{ℕ, zero, suc, ◌+◌, ◌*◌, ◌-◌, ◌/◌, ◌%◌, ◌^◌, ◌≤◌, ◌<◌, min, max}
use native.Mathlib.Omega.{arith}
use native.Mathlib.Nat.{mod-lt, pow-suc, one-mul}
use native.Mathlib.Numerals.{one-add}
use native.Mathlib.Decide.{dec_lt}
use borrow.Author.Tests.{eqb-true, eqb-false, ltb-true, lt-ltb, le-ltb}
use lib.Arith.{bin_ind}
use lib.Bits.{bit_and, bit_or, bit_xor, differ, and_step, or_step, xor_step, and_shr, or_shr, xor_shr, or_shifted_r, or_zero_r}
use lib.Count.{ones, ones_in, ones_step}
use lib.Dec.{eqb, ltb, eqb-zero-suc, eqb-suc-zero, eqb-suc-suc, leb-suc-suc}
use lib.Pow.{pow_pos, shl_exact, shr-shr, field, mod-mod-pow}
use Rattle.base.specs.BitSet.{member, minus, Subset, ProperSubset, collect, some, image}
use Rattle.base.proofs.Logic.{look, clash, never, bool_ext, and_both, and_in, or_l, or_r, or_in}

-- THE DIGITS OF A NUMBER

-- a fact about two binary digits holds if it holds for 0 and 1
digits : (P : ℕ → ℕ → Type 0) → P 0 0 → P 0 1 → P 1 0 → P 1 1 → (a b : ℕ) → P (a % 2) (b % 2)
digits P p q r s a b = go (dec_lt (a % 2) 1) (dec_lt (b % 2) 1)
  where
    zero_digit : (x : ℕ) → x % 2 < 1 → x % 2 ≡ 0
    zero_digit x h = omega arith

    one_digit : (x : ℕ) → (x % 2 < 1 → ⊥) → x % 2 ≡ 1
    one_digit x h = omega arith

    go : Dec (a % 2 < 1) → Dec (b % 2 < 1) → P (a % 2) (b % 2)
    go (yes x) (yes y) = rw (zero_digit a x, zero_digit b y) p
    go (yes x) (no y) = rw (zero_digit a x, one_digit b y) q
    go (no x) (yes y) = rw (one_digit a x, zero_digit b y) r
    go (no x) (no y) = rw (one_digit a x, one_digit b y) s

-- the lowest place, and the places above it
pub member_zero : (s : ℕ) → member s 0 ≡ eqb (s % 2) 1
unfolding member
member_zero s = let e : s / 2 ^ 0 ≡ s = omega arith in rw e

pub member_suc : (s q : ℕ) → member s (suc q) ≡ member (s / 2) q
unfolding member
member_suc s q = rw (shr-shr s 1 q, one-add)

lowest_in : (s : ℕ) → member s 0 ≡ true → s % 2 ≡ 1
lowest_in s h = eqb-true (s % 2) 1 (sym (member_zero s) ∙ h)

lowest_out : (s : ℕ) → member s 0 ≡ false → s % 2 ≡ 0
lowest_out s h = omega (arith, eqb-false (s % 2) 1 (sym (member_zero s) ∙ h))

-- a place's digit: 1 for a member, otherwise 0
pub bit_member : (s q : ℕ) → s / 2 ^ q % 2 ≡ cond (member s q) 1 0
unfolding member
bit_member s q = go (eqb (s / 2 ^ q % 2) 1) refl
  where
    go : (b : Bool) → eqb (s / 2 ^ q % 2) 1 ≡ b → s / 2 ^ q % 2 ≡ cond b 1 0
    go true e = eqb-true (s / 2 ^ q % 2) 1 e
    go false e = omega (arith, eqb-false (s / 2 ^ q % 2) 1 e)

-- 1 shifted to place j of a word
pub one_shifted : (width j : ℕ) → j < width → 1 * 2 ^ j % 2 ^ width ≡ 2 ^ j
one_shifted width j h = shl_exact 1 j width (omega arith) (omega arith) ∙ one-mul (2 ^ j)

-- THE OPERATIONS

-- the empty set has no members
pub member_none : (q : ℕ) → member 0 q ≡ false
member_none zero = member_zero 0
member_none (suc q) = member_suc 0 q ∙ member_none q

-- union, intersection, difference
pub member_union : (a b q : ℕ) → member (bit_or a b) q ≡ (member a q || member b q)
unfolding member
member_union a b q = let x = a / 2 ^ q in let y = b / 2 ^ q in
    let low : bit_or x y % 2 ≡ max (x % 2) (y % 2) = omega (arith, or_step x y) in
    rw (or_shr a b q, low) (digits (λ i j. eqb (max i j) 1 ≡ (eqb i 1 || eqb j 1)) refl refl refl refl x y)

pub member_inter : (a b q : ℕ) → member (bit_and a b) q ≡ (member a q && member b q)
unfolding member
member_inter a b q = let x = a / 2 ^ q in let y = b / 2 ^ q in
    let low : bit_and x y % 2 ≡ min (x % 2) (y % 2) = omega (arith, and_step x y) in
    rw (and_shr a b q, low) (digits (λ i j. eqb (min i j) 1 ≡ (eqb i 1 && eqb j 1)) refl refl refl refl x y)

pub member_minus : (a b q : ℕ) → member (minus a b) q ≡ (member a q && not (member b q))
unfolding member minus
member_minus a b q = let x = a / 2 ^ q in let y = b / 2 ^ q in
    let small : differ (x % 2) (min (x % 2) (y % 2)) < 2 =
    digits (λ i j. differ i (min i j) < 2) (omega arith) (omega arith) (omega arith) (omega arith) x y in
    let both : bit_and x y % 2 ≡ min (x % 2) (y % 2) = omega (arith, and_step x y) in
    let low : bit_xor x (bit_and x y) % 2 ≡ differ (x % 2) (min (x % 2) (y % 2)) =
    omega (arith, xor_step x (bit_and x y), ap (differ (x % 2)) both) in
    rw (xor_shr a (bit_and a b) q, and_shr a b q, low)
    (digits (λ i j. eqb (differ i (min i j)) 1 ≡ (eqb i 1 && not (eqb j 1))) refl refl refl refl x y)

-- the set of one number
pub member_single : (p q : ℕ) → member (2 ^ p) q ≡ eqb p q
member_single zero zero = member_zero 1
member_single zero (suc q) = member_suc 1 q ∙ member_none q ∙ sym (eqb-zero-suc q)
member_single (suc p) zero = let e : 2 ^ suc p % 2 ≡ 0 = omega (arith, pow-suc 2 p) in
    member_zero (2 ^ suc p) ∙ ap (λ (x : ℕ). eqb x 1) e ∙ sym (eqb-suc-zero p)
member_single (suc p) (suc q) = let e : 2 ^ suc p / 2 ≡ 2 ^ p = omega (arith, pow-suc 2 p) in
    member_suc (2 ^ suc p) q ∙ ap (λ (x : ℕ). member x q) e ∙ member_single p q ∙ sym (eqb-suc-suc p q)

-- SETS AND NUMBERS

-- a set that is not the number 0 has a member; one without members is 0
pub some_member : (a : ℕ) → (a ≡ 0 → ⊥) → (q : ℕ) × (member a q ≡ true)
some_member = bin_ind (λ a. (a ≡ 0 → ⊥) → (q : ℕ) × (member a q ≡ true)) (λ h. absurd (h refl)) (λ a ih h. go a ih h (look (member a 0)))
  where
    go : (a : ℕ) → ((a / 2 ≡ 0 → ⊥) → (q : ℕ) × (member (a / 2) q ≡ true)) → (a ≡ 0 → ⊥)
        → (member a 0 ≡ true) ⊎ (member a 0 ≡ false) → (q : ℕ) × (member a q ≡ true)
    go a ih h (inl e) = (0, e)
    go a ih h (inr e) = let (q, k) = ih (λ z. h (omega (arith, lowest_out a e))) in (suc q, member_suc a q ∙ k)

pub empty_set : (a : ℕ) → ((q : ℕ) → member a q ≡ false) → a ≡ 0
empty_set a h = go (dec_lt 0 a)
  where
    go : Dec (0 < a) → a ≡ 0
    go (yes l) = let (q, k) = some_member a (λ z. omega arith) in clash (h q) k
    go (no l) = omega arith

-- the numbers below 2^n are the sets of numbers below n
pub member_lt : (n s q : ℕ) → s < 2 ^ n → member s q ≡ true → q < n
member_lt zero s q h m = let e : s ≡ 0 = omega arith in clash (member_none q) (rw e at m)
member_lt (suc n) s zero h m = omega arith
member_lt (suc n) s (suc q) h m =
    let l : q < n = member_lt n (s / 2) q (omega (arith, pow-suc 2 n)) (sym (member_suc s q) ∙ m) in omega arith

pub lt_member : (n s : ℕ) → ((q : ℕ) → member s q ≡ true → q < n) → s < 2 ^ n
lt_member zero s h = let e : s ≡ 0 = empty_set s (λ q. never _ (λ m. omega (arith, h q m))) in omega arith
lt_member (suc n) s h =
    let l : s / 2 < 2 ^ n = lt_member n (s / 2) (λ q m. omega (arith, h (suc q) (member_suc s q ∙ m))) in omega (arith, pow-suc 2 n)

-- sets with the same members are the same
pub set_ext : (a b : ℕ) → ((q : ℕ) → member a q ≡ member b q) → a ≡ b
set_ext = bin_ind (λ a. (b : ℕ) → ((q : ℕ) → member a q ≡ member b q) → a ≡ b)
    (λ b h. sym (empty_set b (λ q. sym (h q) ∙ member_none q)))
    (λ a ih b h. let e : a / 2 ≡ b / 2 = ih (b / 2) (λ q. sym (member_suc a q) ∙ h (suc q) ∙ member_suc b q) in
    omega (arith, lowest a b (h 0)))
  where
    lowest : (a b : ℕ) → member a 0 ≡ member b 0 → a % 2 ≡ b % 2
    lowest a b e = ⊎_elim (λ t. lowest_in a t ∙ sym (lowest_in b (sym e ∙ t)))
        (λ f. lowest_out a f ∙ sym (lowest_out b (sym e ∙ f))) (look (member a 0))

pub set_ext_below : (n a b : ℕ) → a < 2 ^ n → b < 2 ^ n → ((q : ℕ) → q < n → member a q ≡ member b q) → a ≡ b
set_ext_below n a b ha hb h = set_ext a b (λ q. bool_ext (member a q) (member b q)
    (λ m. sym (h q (member_lt n a q ha m)) ∙ m) (λ m. h q (member_lt n b q hb m) ∙ m))

-- and so are sets that are subsets of one another
pub subset_antisym : (a b : ℕ) → Subset a b → Subset b a → a ≡ b
subset_antisym a b h k = set_ext a b (λ q. bool_ext (member a q) (member b q) (h q) (k q))

-- a union is included where both sets are
pub union_subset : (a b c : ℕ) → Subset a c → Subset b c → Subset (bit_or a b) c
union_subset a b c h k q m = ⊎_elim (h q) (k q) (or_in (member a q) (member b q) (sym (member_union a b q) ∙ m))

-- union is associative
pub union_assoc : (a b c : ℕ) → bit_or a (bit_or b c) ≡ bit_or (bit_or a b) c
union_assoc a b c = set_ext _ _ (λ q. member_union a (bit_or b c) q ∙ ap (λ (x : Bool). member a q || x) (member_union b c q)
    ∙ sym (or_assoc (member a q) (member b q) (member c q)) ∙ ap (λ (x : Bool). x || member c q) (sym (member_union a b q))
    ∙ sym (member_union (bit_or a b) c q))

-- a number above all members, joined
pub union_above : (n s : ℕ) → s < 2 ^ n → bit_or s (2 ^ n) ≡ 2 ^ n + s
union_above n s h = ap (bit_or s) (sym (one-mul (2 ^ n))) ∙ or_shifted_r 1 n s h ∙ ap (λ (x : ℕ). x + s) (one-mul (2 ^ n))

-- the members from place k up
pub member_from : (k s q : ℕ) → member (s / 2 ^ k) q ≡ member s (k + q)
unfolding member
member_from k s q = ap (λ (x : ℕ). eqb (x % 2) 1) (shr-shr s k q)

-- the members below n of a set are those of its remainder by 2^n
pub member_mod : (n s q : ℕ) → q < n → member (s % 2 ^ n) q ≡ member s q
unfolding member
member_mod n s q h =
    let e : n ≡ suc (n - suc q) + q = omega arith in
    let w : suc (n - suc q) ≡ (n - suc q) + 1 = omega arith in
    rw e (ap (λ (x : ℕ). eqb (x % 2) 1) (field s (suc (n - suc q)) q)
    ∙ ap (λ (x : ℕ). eqb (s / 2 ^ q % 2 ^ x % 2) 1) w ∙ ap (λ (x : ℕ). eqb x 1) (mod-mod-pow (s / 2 ^ q) (n - suc q) 1))

-- and no others are
pub member_below : (n s q : ℕ) → member (s % 2 ^ n) q ≡ (ltb q n && member s q)
member_below n s q = go (dec_lt q n)
  where
    go : Dec (q < n) → member (s % 2 ^ n) q ≡ (ltb q n && member s q)
    go (yes l) = rw (lt-ltb q n l) (member_mod n s q l)
    go (no l) = rw (le-ltb q n (omega arith)) (never _ (λ m. l (member_lt n (s % 2 ^ n) q (mod-lt s (pow_pos n)) m)))

-- COMPREHENSION

-- the members of a comprehension
pub member_collect : (n : ℕ) (f : ℕ → Bool) (q : ℕ) → member (collect n f) q ≡ (ltb q n && f q)
unfolding collect
member_collect zero f q = member_none q ∙ ap (λ (b : Bool). b && f q) (sym (le-ltb q 0 (omega arith)))
member_collect (suc n) f zero = member_zero _ ∙ go (f 0) (collect n (λ q. f (suc q)))
    ∙ ap (λ (b : Bool). b && f 0) (sym (lt-ltb 0 (suc n) (omega arith)))
  where
    go : (b : Bool) (c : ℕ) → eqb ((cond b 1 0 + 2 * c) % 2) 1 ≡ b
    go true c = let e : (1 + 2 * c) % 2 ≡ 1 = omega arith in rw e
    go false c = let e : (0 + 2 * c) % 2 ≡ 0 = omega arith in rw e
member_collect (suc n) f (suc q) = member_suc _ q ∙ ap (λ (x : ℕ). member x q) (go (f 0) (collect n (λ q. f (suc q))))
    ∙ member_collect n (λ q. f (suc q)) q ∙ ap (λ (b : Bool). b && f (suc q)) (sym (leb-suc-suc (suc q) n))
  where
    go : (b : Bool) (c : ℕ) → (cond b 1 0 + 2 * c) / 2 ≡ c
    go true c = omega arith
    go false c = omega arith

pub collect_lt : (n : ℕ) (f : ℕ → Bool) → collect n f < 2 ^ n
collect_lt n f = lt_member n (collect n f) (λ q m. ltb-true q n (and_in (ltb q n) (f q) (sym (member_collect n f q) ∙ m)).0)

pub collect_ext : (n : ℕ) (f g : ℕ → Bool) → ((q : ℕ) → q < n → f q ≡ g q) → collect n f ≡ collect n g
unfolding collect
collect_ext zero f g h = refl
collect_ext (suc n) f g h = ap₂ (λ (b : Bool) (c : ℕ). cond b 1 0 + 2 * c) (h 0 (omega arith))
    (collect_ext n (λ q. f (suc q)) (λ q. g (suc q)) (λ q l. h (suc q) (omega arith)))

-- of a set's own members
pub collect_members : (n s : ℕ) → s < 2 ^ n → collect n (member s) ≡ s
collect_members n s h = set_ext_below n _ _ (collect_lt n (member s)) h (λ q l. member_collect n (member s) q
    ∙ ap (λ (b : Bool). b && member s q) (lt-ltb q n l))

-- comprehension of a union
pub collect_union : (n : ℕ) (f g : ℕ → Bool) → bit_or (collect n f) (collect n g) ≡ collect n (λ q. f q || g q)
collect_union n f g = set_ext _ _ λ q. member_union (collect n f) (collect n g) q
    ∙ ap₂ (λ (a b : Bool). a || b) (member_collect n f q) (member_collect n g q)
    ∙ go (ltb q n) (f q) (g q) ∙ sym (member_collect n (λ q. f q || g q) q)
  where
    go : (a b c : Bool) → ((a && b) || (a && c)) ≡ (a && (b || c))
    go true b c = refl
    go false b c = refl

-- of one number
pub collect_single : (n p : ℕ) → p < n → collect n (λ q. eqb p q) ≡ 2 ^ p
collect_single n p h = set_ext _ _ λ q. member_collect n (λ q. eqb p q) q
    ∙ bool_ext _ (eqb p q) (λ m. (and_in (ltb q n) (eqb p q) m).1)
    (λ e. let same : p ≡ q = eqb-true p q e in and_both (ltb q n) (eqb p q) (lt-ltb q n (omega arith)) e)
    ∙ sym (member_single p q)

-- of all numbers below n, and of none
pub collect_all : (n : ℕ) → collect n (λ i. true) ≡ 2 ^ n - 1
unfolding collect
collect_all zero = refl
collect_all (suc n) = omega (arith, collect_all n, pow-suc 2 n, pow_pos n)

pub collect_none : (n : ℕ) → collect n (λ i. false) ≡ 0
unfolding collect
collect_none zero = refl
collect_none (suc n) = omega (arith, collect_none n)

-- so each number below n is a member of the first
pub member_all : (n q : ℕ) → q < n → member (2 ^ n - 1) q ≡ true
member_all n q h = ap (λ (s : ℕ). member s q) (sym (collect_all n)) ∙ member_collect n (λ i. true) q ∙ ap (λ (b : Bool). b && true) (lt-ltb q n h)

-- one more number, above the others
pub collect_more : (n : ℕ) (f : ℕ → Bool) → collect (suc n) f ≡ bit_or (collect n f) (cond (f n) (2 ^ n) 0)
unfolding collect
collect_more n f = counts n f ∙ joins (f n)
  where
    counts : (n : ℕ) (f : ℕ → Bool) → collect (suc n) f ≡ cond (f n) (2 ^ n) 0 + collect n f
    counts zero f = omega arith
    counts (suc n) f = omega (arith, counts n (λ q. f (suc q)), doubled (f (suc n)))
      where
        doubled : (b : Bool) → 2 * cond b (2 ^ n) 0 ≡ cond b (2 ^ suc n) 0
        doubled true = omega (arith, pow-suc 2 n)
        doubled false = refl

    joins : (b : Bool) → cond b (2 ^ n) 0 + collect n f ≡ bit_or (collect n f) (cond b (2 ^ n) 0)
    joins true = sym (union_above n (collect n f) (collect_lt n f))
    joins false = omega (arith, or_zero_r (collect n f))

-- what `some` says
pub some_in : (n : ℕ) (f : ℕ → Bool) (q : ℕ) → q < n → f q ≡ true → some n f ≡ true
unfolding some
some_in zero f q l h = absurd (omega arith)
some_in (suc n) f zero l h = or_l (f 0) _ h
some_in (suc n) f (suc q) l h = or_r (f 0) _ (some_in n (λ q. f (suc q)) q (omega arith) h)

pub some_out : (n : ℕ) (f : ℕ → Bool) → some n f ≡ true → (q : ℕ) × (q < n) × (f q ≡ true)
unfolding some
some_out zero f h = clash refl h
some_out (suc n) f h = ⊎_elim (λ e. (0, omega arith, e))
    (λ e. let (q, l, k) = some_out n (λ q. f (suc q)) e in (suc q, omega arith, k)) (or_in (f 0) _ h)

pub some_ext : (n : ℕ) (f g : ℕ → Bool) → ((q : ℕ) → q < n → f q ≡ g q) → some n f ≡ some n g
unfolding some
some_ext zero f g h = refl
some_ext (suc n) f g h = ap₂ (λ (a b : Bool). a || b) (h 0 (omega arith))
    (some_ext n (λ q. f (suc q)) (λ q. g (suc q)) (λ q l. h (suc q) (omega arith)))

-- SIZE: THE NUMBER OF MEMBERS

half_subset : (a b : ℕ) → Subset a b → Subset (a / 2) (b / 2)
half_subset a b h q m = sym (member_suc b q) ∙ h (suc q) (member_suc a q ∙ m)

lowest_le : (a b : ℕ) → Subset a b → a % 2 ≤ b % 2
lowest_le a b h = ⊎_elim (λ e. omega (arith, lowest_in a e, lowest_in b (h 0 e))) (λ e. omega (arith, lowest_out a e)) (look (member a 0))

-- a subset has at most as many members, a strict one fewer
pub size_subset : (a b : ℕ) → Subset a b → ones a ≤ ones b
unfolding ones ones_in
size_subset = bin_ind (λ a. (b : ℕ) → Subset a b → ones a ≤ ones b) (λ b h. omega arith)
    (λ a ih b h. omega (arith, ones_step a, ones_step b, ih (b / 2) (half_subset a b h), lowest_le a b h))

pub size_proper : (a b : ℕ) → ProperSubset a b → ones a < ones b
size_proper a b (h, (q, in_b, out_a)) = missing q a b h in_b out_a
  where
    missing : (q a b : ℕ) → Subset a b → member b q ≡ true → member a q ≡ false → ones a < ones b
    missing zero a b h i o = omega (
      arith,
      ones_step a,
      ones_step b,
      lowest_in b i,
      lowest_out a o,
      size_subset (a / 2) (b / 2) (half_subset a b h),
    )
    missing (suc q) a b h i o = omega (
      arith,
      ones_step a,
      ones_step b,
      lowest_le a b h,
      missing q (a / 2) (b / 2) (half_subset a b h) (sym (member_suc b q) ∙ i) (sym (member_suc a q) ∙ o),
    )

-- THE IMAGE OF A SET

module _ (n : ℕ) (E : ℕ → ℕ → Bool) where
  -- the members of an image are the numbers that the relation leads to
  pub image_in : (s q r : ℕ) → q < n → r < n → member s q ≡ true → E q r ≡ true → member (image n E s) r ≡ true
  unfolding image
  image_in s q r hq hr m e = member_collect n _ r ∙ and_both (ltb r n) _ (lt-ltb r n hr)
      (some_in n (λ q. member s q && E q r) q hq (and_both (member s q) (E q r) m e))

  pub image_out : (s r : ℕ) → member (image n E s) r ≡ true → (q : ℕ) × (q < n) × (r < n) × (member s q ≡ true) × (E q r ≡ true)
  unfolding image
  image_out s r h =
      let f : ℕ → Bool = λ r. some n (λ q. member s q && E q r) in
      let (small, has) = and_in (ltb r n) (f r) (sym (member_collect n f r) ∙ h) in
      let (q, l, both) = some_out n (λ q. member s q && E q r) has in
      let (m, e) = and_in (member s q) (E q r) both in
      (q, l, ltb-true r n small, m, e)

  pub image_lt : (s : ℕ) → image n E s < 2 ^ n
  unfolding image
  image_lt s = collect_lt n _

  -- members from n up add nothing
  pub image_mod : (s : ℕ) → image n E (s % 2 ^ n) ≡ image n E s
  unfolding image
  image_mod s = collect_ext n _ _ (λ r hr. some_ext n _ _ (λ q hq. ap (λ (b : Bool). b && E q r) (member_mod n s q hq)))

  -- the empty set leads nowhere; a union leads where its parts lead
  pub image_none : image n E 0 ≡ 0
  image_none = empty_set _ (λ r. never _ (λ h. let (q, hq, hr, m, e) = image_out 0 r h in clash (member_none q) m))

  pub image_union : (a b : ℕ) → image n E (bit_or a b) ≡ bit_or (image n E a) (image n E b)
  image_union a b = set_ext _ _ (λ r. bool_ext _ _ (apart r)
      (λ h. joined r (or_in (member (image n E a) r) _ (sym (member_union _ _ r) ∙ h))))
    where
      apart : (r : ℕ) → member (image n E (bit_or a b)) r ≡ true → member (bit_or (image n E a) (image n E b)) r ≡ true
      apart r h = let (q, hq, hr, m, e) = image_out (bit_or a b) r h in
          member_union (image n E a) (image n E b) r ∙ ⊎_elim
          (λ i. or_l (member (image n E a) r) (member (image n E b) r) (image_in a q r hq hr i e))
          (λ i. or_r (member (image n E a) r) (member (image n E b) r) (image_in b q r hq hr i e))
          (or_in (member a q) (member b q) (sym (member_union a b q) ∙ m))

      joined : (r : ℕ) → (member (image n E a) r ≡ true) ⊎ (member (image n E b) r ≡ true) → member (image n E (bit_or a b)) r ≡ true
      joined r (inl h) = let (q, hq, hr, m, e) = image_out a r h in
          image_in (bit_or a b) q r hq hr (member_union a b q ∙ or_l (member a q) (member b q) m) e
      joined r (inr h) = let (q, hq, hr, m, e) = image_out b r h in
          image_in (bit_or a b) q r hq hr (member_union a b q ∙ or_r (member a q) (member b q) m) e
