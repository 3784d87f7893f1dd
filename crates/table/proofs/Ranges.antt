-- What questions 2 and 3 say as facts about the numbers.
use mathlib.Core.Path.{◌≡◌}
use mathlib.Core.Bool.{true, not, ◌&&◌}
use Prim.Native.Nat.{ℕ, ◌^◌, ◌≤◌, ◌<◌}
use native.Mathlib.Omega.{arith}
use borrow.Author.Tests.{leb-true, ltb-true, eqb-false}
use lib.Dec.{leb, eqb}
use lib.Pow.{pow_mono}
use Rattle.base.proofs.Logic.{and_in, not_in}
use Rattle.rule.specs.Limits.{max_states, max_letters, max_sets, no_transition}
use Rattle.rule.specs.WellFormed.{start_fits}
use Rattle.table.specs.Table.{in_range}

-- n, m, k within their limits
pub record InRange (n m k : ℕ) : Type 0 where
  pub some_state : 1 ≤ n
  pub states : n ≤ max_states
  pub some_letter_lem : 1 ≤ m
  pub letters : m ≤ max_letters
  pub some_set : 1 ≤ k
  pub sets : k ≤ max_sets

pub in_range_lem : {n m k : ℕ} → in_range n m k ≡ true → InRange n m k
unfolding in_range
in_range_lem {n} {m} {k} h =
    let (a, b) = and_in (leb 1 n && leb n max_states) _ h in
    let (c, d) = and_in (leb 1 m && leb m max_letters) _ b in
    let (n₁, n₂) = and_in (leb 1 n) _ a in
    let (m₁, m₂) = and_in (leb 1 m) _ c in
    let (k₁, k₂) = and_in (leb 1 k) _ d in
    record {
      some_state = leb-true _ _ n₁;
      states = leb-true _ _ n₂;
      some_letter_lem = leb-true _ _ m₁;
      letters = leb-true _ _ m₂;
      some_set = leb-true _ _ k₁;
      sets = leb-true _ _ k₂;
    }

-- so no set byte is the byte of "no transition"
pub sets_small : (n m k : ℕ) → in_range n m k ≡ true → 2 ^ k ≤ no_transition
sets_small n m k h = omega (arith, pow_mono (in_range_lem h).sets)

pub start_fits_lem : (n start : ℕ) → start_fits n start ≡ true → (start ≡ 0 → ⊥) × (start < 2 ^ n)
unfolding start_fits
start_fits_lem n start h =
    let (a, b) = and_in (not (eqb start 0)) _ h in
    (eqb-false start 0 (not_in (eqb start 0) a), ltb-true _ _ b)
