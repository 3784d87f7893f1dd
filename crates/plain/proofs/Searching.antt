-- The search for a loop (specs/Inner/Search.antt), as the code makes it.
use mathlib.Core.Path.{◌≡◌, refl, sym, ◌∙◌, ap}
use mathlib.Core.Logic.{inl, inr, ⊎_elim}
use mathlib.Core.Bool.{Bool, true, false, ◌&&◌, ◌||◌}
use mathlib.Core.List.{List}
use Prim.Native.Nat.{ℕ, zero, suc, ◌*◌, ◌/◌, ◌%◌, ◌^◌, ◌≤◌, ◌<◌}
use native.Mathlib.Decide.{ℕ_discrete}
use native.Mathlib.Omega.{arith}
use borrow.Author.Tests.{eqb-true, eq-eqb}
use lib.ListN.{length, get_or}
use Rattle.std.specs.Bool.{MatchBool}
use Rattle.std.specs.List.{AllWithin, HoldsAt, range_with_len}
use Rattle.std.specs.Prelude.{◌↔◌}
use Rattle.std.proofs.lemmas.List.FromFn.{length-range_with_len, get_or-range_with_len}
use Rattle.base.specs.BitSet.{member}
use Rattle.base.proofs.BitSet.{bit_member, member_none, member_union}
use Rattle.base.proofs.Logic.{clash, and_both, and_in, or_l, or_r, or_in}
use Rattle.rule.specs.Inner.Lanes.{lane_width, map_of, each_lane, lanes_with}
use Rattle.rule.specs.Limits.{max_sets}
use Rattle.rule.proofs.LaneLaws.{kept, kept_in, each_out, each_in}
use Rattle.plain.specs.Inner.Ways.{ways}
use Rattle.plain.specs.Inner.Search.{reached, Reaches, SomeLasso}

-- THE STATES REACHED

module _ (rows : List ℕ) (from t : ℕ) where
  -- from one state
  next_at : (s : ℕ) → member (map_of (get_or rows s 0) 0 * (from / 2 ^ s % 2)) t ≡ (member from s && ways rows s t 0)
  unfolding ways
  next_at s =
      let next = map_of (get_or rows s 0) 0 in
      ap (λ (x : ℕ). member x t) (ap (next *◌) (bit_member from s) ∙ kept next (member from s))
      ∙ kept_in (λ x. member x t) (member_none t) next (member from s)

  pub reached_out : (n : ℕ) → member (reached n rows from) t ≡ true → Reaches (ways rows) n from t
  unfolding reached
  reached_out zero h = inl h
  reached_out (suc n) h = ⊎_elim
      (λ k. ⊎_elim inl (λ (s, small, m, w). inr (s, omega arith, m, w)) (reached_out n k))
      (λ k. let (m, w) = and_in (member from n) (ways rows n t 0) (sym (next_at n) ∙ k) in inr (n, omega arith, m, w))
      (or_in (member (reached n rows from) t) _ (sym (member_union (reached n rows from) _ t) ∙ h))

  pub reached_in : (n : ℕ) → Reaches (ways rows) n from t → member (reached n rows from) t ≡ true
  unfolding reached
  reached_in zero (inl h) = h
  reached_in zero (inr (s, small, m, w)) = absurd (omega arith)
  reached_in (suc n) (inl h) = member_union (reached n rows from) _ t ∙ or_l _ _ (reached_in n (inl h))
  reached_in (suc n) (inr (s, small, m, w)) = member_union (reached n rows from) _ t
      ∙ go (ℕ_discrete s n) (λ l. reached_in n (inr (s, l, m, w)))
    where
      go : Dec (s ≡ n) → (s < n → member (reached n rows from) t ≡ true)
          → (member (reached n rows from) t || member (map_of (get_or rows n 0) 0 * (from / 2 ^ n % 2)) t) ≡ true
      go (yes e) below = or_r (member (reached n rows from) t) _
          (next_at n ∙ and_both (member from n) (ways rows n t 0) (rw e at m) (rw e at w))
      go (no other) below = or_l (member (reached n rows from) t) _ (below (omega arith))

-- THE SEARCH

-- what the search among the states below n answers, where each of them is tested for P
pub some_below : (n : ℕ) (P : ℕ → Type 0) (found : Bool)
    → MatchBool found ((k : ℕ) × (k < length (range_with_len 0 n)) × HoldsAt P (range_with_len 0 n) k)
    (AllWithin (λ t. P t → ⊥) (range_with_len 0 n) 0 (length (range_with_len 0 n)))
    → (found ≡ true) ↔ ((t : ℕ) × (t < n) × P t)
some_below n P true (k, k-lt, h) =
    let small : k < n = omega (arith, length-range_with_len 0 n) in
    let at : get_or (range_with_len 0 n) k 0 ≡ k = get_or-range_with_len 0 n k 0 small ∙ omega arith in
    (λ _. (k, small, rw at at (h 0)), λ _. refl)
some_below n P false none = (
  λ no. clash refl no,
  λ (t, t-lt, h).
      let at : get_or (range_with_len 0 n) t 0 ≡ t = get_or-range_with_len 0 n t 0 t-lt ∙ omega arith in
      absurd (none t 0 (omega arith) (omega (arith, length-range_with_len 0 n)) (rw at h)),
)

-- the test of a state: all lanes of its row have it, and it is reached
abbrev pub Tested : List ℕ → ℕ → ℕ → ℕ → Type 0
Tested rows full all t = (lanes_with (get_or rows t 0) t full ≡ full) × (all / 2 ^ t % 2 ≡ 1)

-- a state that is tested so has a loop, and one that has a loop is tested so
pub tested_lasso : (n k from : ℕ) (rows : List ℕ) (full all : ℕ) → n ≤ lane_width → k ≤ max_sets → full ≡ each_lane (suc k) → all ≡ reached n rows from
    → ((t : ℕ) × (t < n) × Tested rows full all t) ↔ SomeLasso (ways rows) n k from
unfolding ways member
tested_lasso n k from rows full all few sets lanes states = (
  λ (t, t-lt, (own, here)).
      let stands = each_out _ _ _ (omega arith) (rw lanes at own) in
      (t, t-lt, (reached_out rows from t n (rw states at (eq-eqb _ _ here)), λ i h. stands i (omega arith))),
  λ (t, t-lt, (reaches, stands)).
      (t, t-lt, (rw lanes (each_in _ _ _ (omega arith) (λ i h. stands i (omega arith))), eqb-true _ _ (rw states (reached_in rows from t n reaches)))),
)
