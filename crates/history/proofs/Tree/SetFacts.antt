-- Emptiness, disjointness and strict inclusion of sets, as tests and as statements about members.
use mathlib.Core.Path.{◌≡◌, sym, ◌∙◌, ap}
use mathlib.Core.Logic.{⊎_elim}
use mathlib.Core.Bool.{Bool, true, false, not, ◌&&◌}
use Prim.Native.Nat.{ℕ, suc, ◌+◌, ◌/◌, ◌%◌, ◌≤◌}
use native.Mathlib.Omega.{arith}
use borrow.Author.Tests.{eqb-true, eqb-false, eq-eqb, ne_eqb}
use lib.Arith.{bin_ind}
use lib.Bits.{bit_and, bit_or, or_step}
use lib.Count.{ones, ones_in, ones_step}
use lib.Dec.{eqb}
use Rattle.base.specs.BitSet.{member, minus, Subset, ProperSubset}
use Rattle.base.proofs.Logic.{look, clash, never, and_both, and_in, not_out, not_in}
use Rattle.base.proofs.BitSet.{member_zero, member_suc, member_none, member_inter, member_minus, some_member, empty_set, subset_antisym}
use Rattle.history.specs.Tree.{disjoint, strictly_inside}

-- a set that tests empty has no member
none_in_empty : (a : ℕ) → eqb a 0 ≡ true → (q : ℕ) → member a q ≡ false
none_in_empty a e q = ap (λ (s : ℕ). member s q) (eqb-true a 0 e) ∙ member_none q

-- there is nothing to take from the empty set
pub nothing_minus : (a : ℕ) → minus 0 a ≡ 0
nothing_minus a = empty_set (minus 0 a) (λ q. member_minus 0 a q ∙ ap (λ (b : Bool). b && not (member a q)) (member_none q))

-- a is a subset of b where nothing of a is left without b
subset_minus : (a b : ℕ) → Subset a b → minus a b ≡ 0
subset_minus a b h = empty_set (minus a b) (λ q. never _ (λ m.
    let (in_a, out_b) = and_in (member a q) _ (sym (member_minus a b q) ∙ m) in clash (not_in (member b q) out_b) (h q in_a)))

minus_subset : (a b : ℕ) → minus a b ≡ 0 → Subset a b
minus_subset a b e q m = ⊎_elim (λ h. h)
    (λ h. clash (ap (λ (s : ℕ). member s q) e ∙ member_none q)
    (member_minus a b q ∙ and_both (member a q) (not (member b q)) m (not_out (member b q) h)))
    (look (member b q))

-- a subset that is not the whole leaves a member out
pub subset_proper : (a b : ℕ) → Subset a b → (a ≡ b → ⊥) → ProperSubset a b
subset_proper a b h other =
    let (q, m) = some_member (minus b a) (λ e. other (subset_antisym a b h (minus_subset b a e))) in
    let (in_b, out_a) = and_in (member b q) _ (sym (member_minus b a q) ∙ m) in
    (h, (q, in_b, not_in (member a q) out_a))

-- the empty set is strictly inside every other
pub none_proper : (a : ℕ) → (a ≡ 0 → ⊥) → ProperSubset 0 a
none_proper a other = subset_proper 0 a (λ q m. clash (member_none q) m) (λ e. other (sym e))

-- the test of disjointness: no member of the one is a member of the other
pub disjoint_out : (a b : ℕ) → disjoint a b ≡ true → (q : ℕ) → member a q ≡ true → member b q ≡ false
unfolding disjoint
disjoint_out a b e q m = never (member b q) (λ h.
    clash (none_in_empty (bit_and a b) e q) (member_inter a b q ∙ and_both (member a q) (member b q) m h))

pub disjoint_in : (a b : ℕ) → ((q : ℕ) → member a q ≡ true → member b q ≡ false) → disjoint a b ≡ true
unfolding disjoint
disjoint_in a b h = eq-eqb (bit_and a b) 0 (empty_set (bit_and a b) (λ q. never _ (λ m.
    let (in_a, in_b) = and_in (member a q) (member b q) (sym (member_inter a b q) ∙ m) in clash (h q in_a) in_b)))

-- the test of strict inclusion
pub inside_out : (a b : ℕ) → strictly_inside a b ≡ true → ProperSubset a b
unfolding strictly_inside
inside_out a b h = let (sub, other) = and_in (eqb (minus a b) 0) _ h in
    subset_proper a b (minus_subset a b (eqb-true (minus a b) 0 sub)) (eqb-false a b (not_in (eqb a b) other))

pub inside_in : (a b : ℕ) → ProperSubset a b → strictly_inside a b ≡ true
unfolding strictly_inside
inside_in a b (h, (q, in_b, out_a)) = and_both (eqb (minus a b) 0) _ (eq-eqb (minus a b) 0 (subset_minus a b h))
    (not_out (eqb a b) (ne_eqb a b (λ e. clash out_a (ap (λ (s : ℕ). member s q) e ∙ in_b))))

-- disjoint sets have together as many members as one by one
pub size_disjoint : (a b : ℕ) → ((q : ℕ) → member a q ≡ true → member b q ≡ false) → ones (bit_or a b) ≡ ones a + ones b
unfolding ones ones_in
size_disjoint = bin_ind (λ a. (b : ℕ) → ((q : ℕ) → member a q ≡ true → member b q ≡ false) → ones (bit_or a b) ≡ ones a + ones b)
    (λ b h. omega arith)
    (λ a ih b h. let halves : bit_or a b / 2 ≡ bit_or (a / 2) (b / 2) = omega (arith, or_step a b) in
    omega (
      arith,
      or_step a b,
      ones_step a,
      ones_step b,
      ones_step (bit_or a b),
      ap ones halves,
      lowest a b h,
      ih (b / 2) (λ q m. sym (member_suc b q) ∙ h (suc q) (member_suc a q ∙ m)),
    ))
  where
    -- not both have the lowest place
    lowest : (a b : ℕ) → ((q : ℕ) → member a q ≡ true → member b q ≡ false) → a % 2 + b % 2 ≤ 1
    lowest a b h = ⊎_elim
        (λ e. let odd : a % 2 ≡ 1 = eqb-true (a % 2) 1 (sym (member_zero a) ∙ e) in
        let other : b % 2 ≡ 1 → ⊥ = eqb-false (b % 2) 1 (sym (member_zero b) ∙ h 0 e) in omega arith)
        (λ e. let other : a % 2 ≡ 1 → ⊥ = eqb-false (a % 2) 1 (sym (member_zero a) ∙ e) in omega arith)
        (look (member a 0))
