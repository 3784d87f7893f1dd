-- Finding the period of a sequence in constant memory. Brent's search holds one value, t(power − 1), and goes on from it: after lam
-- places that value has not come back; where it does, the distance is the period. If it has not come back after `power` places, the
-- value reached is saved instead, and the power doubled.
use mathlib.Core.Path.{◌≡◌, sym}
use Prim.Native.Nat.{ℕ, suc, ◌+◌, ◌*◌, ◌-◌, ◌^◌, ◌≤◌, ◌<◌, max}
use native.Mathlib.Omega.{arith}
use native.Mathlib.Decide.{dec_le, ℕ_discrete}
use Rattle.history.specs.Rounds.{FirstRepeat}
use Rattle.history.proofs.Repeat.FirstRepeats.{periodic, repeat_only, brent}

-- Brent's search at the head of its loop: it holds t(power − 1) and has gone lam places on from there
pub record BrentSoFar {A : Type 0} (t : ℕ → A) (power lam : ℕ) : Type 0 where
  pub short : lam < power
  -- the value that is saved has not come back
  pub apart : (m : ℕ) → 1 ≤ m → m ≤ lam → t (power - 1) ≡ t (power - 1 + m) → ⊥
  -- the power is at most twice the larger of entry and period
  pub bounded : (entry period : ℕ) → FirstRepeat t entry period → power ≤ 2 * max entry period

-- t(half − 1) was saved before, and had not come back after `half` places: a period as short as that begins later
abbrev pub Skips : {A : Type 0} → (ℕ → A) → ℕ → Type 0
Skips t half = (entry period : ℕ) → FirstRepeat t entry period → period ≤ half → half ≤ entry

module _ {A : Type 0} (t : ℕ → A) where
  -- at the start t(0) is saved
  pub brent_start : BrentSoFar t 1 0
  brent_start = record {
    short = omega arith;
    apart = λ m low high same. omega arith;
    bounded = λ entry period F. omega (arith, F.positive);
  }

  -- and nothing was saved before t(0)
  pub none_skips : Skips t 0
  none_skips entry period F short = omega arith

  -- one place more, and the value has still not come back
  pub unseen : (i l : ℕ) → ((m : ℕ) → 1 ≤ m → m ≤ l → t i ≡ t (i + m) → ⊥) → (t i ≡ t (i + (l + 1)) → ⊥)
      → (m : ℕ) → 1 ≤ m → m ≤ l + 1 → t i ≡ t (i + m) → ⊥
  unseen i l before new m low high same = go (ℕ_discrete m (l + 1))
    where
      go : Dec (m ≡ l + 1) → ⊥
      go (yes e) = new (rw e at same)
      go (no e) = before m low (omega arith) same

  pub brent_more : (power lam : ℕ) → BrentSoFar t power lam → (t (power - 1) ≡ t (power - 1 + (lam + 1)) → ⊥)
      → (lam + 1 ≡ power → ⊥) → BrentSoFar t power (lam + 1)
  brent_more power lam B new more =
      record { short = omega (arith, B.short); apart = unseen (power - 1) lam B.apart new; bounded = B.bounded }

module _ {A : Type 0} (t : ℕ → A) (f : A → A) (next : (r : ℕ) → t (suc r) ≡ f (t r)) where
  -- a period no longer than a power after which t(power − 1) has not come back begins later
  pub reset_skips : (power lam : ℕ) → BrentSoFar t power lam → (t (power - 1) ≡ t (power - 1 + (lam + 1)) → ⊥) → lam + 1 ≡ power
      → Skips t power
  reset_skips power lam B new full entry period F short = go (dec_le power entry)
    where
      go : Dec (power ≤ entry) → power ≤ entry
      go (yes h) = h
      go (no h) =
          let one : 1 * period ≡ period = omega arith in
          absurd (unseen t (power - 1) lam B.apart new period F.positive (omega arith)
          (rw one at (periodic t f next entry period F 1 (power - 1) (omega arith))))

  -- so that power is no larger than entry or than period
  reset_due : (power lam : ℕ) → BrentSoFar t power lam → (t (power - 1) ≡ t (power - 1 + (lam + 1)) → ⊥) → lam + 1 ≡ power
      → (entry period : ℕ) → FirstRepeat t entry period → power ≤ max entry period
  reset_due power lam B new full entry period F = go (dec_le period power)
    where
      go : Dec (period ≤ power) → power ≤ max entry period
      go (yes h) = omega (arith, reset_skips power lam B new full entry period F h)
      go (no h) = omega arith

  -- then the value reached is saved
  pub brent_reset : (power lam : ℕ) → BrentSoFar t power lam → (t (power - 1) ≡ t (power - 1 + (lam + 1)) → ⊥) → lam + 1 ≡ power
      → BrentSoFar t (power + power) 0
  brent_reset power lam B new full = record {
    short = omega arith;
    apart = λ m low high same. omega arith;
    bounded = λ entry period F. omega (arith, reset_due power lam B new full entry period F);
  }

  module _ (entry period : ℕ) (F : FirstRepeat t entry period) where
    -- where the value comes back, the distance is the period, and the value is on the cycle
    pub brent_found : (power lam : ℕ) → BrentSoFar t power lam → t (power - 1) ≡ t (power - 1 + (lam + 1))
        → (lam + 1 ≡ period) × (entry ≤ power - 1)
    brent_found power lam B same = (
      sym (brent t f next entry period F (power - 1) (lam + 1) (omega arith) same (λ m low high. B.apart m low (omega arith))),
      (repeat_only t f next entry period F (power - 1) (power - 1 + (lam + 1)) (omega arith) same).0,
    )

    -- how large the numbers get
    pub brent_bound : (power lam : ℕ) → BrentSoFar t power lam → (power ≤ 2 * max entry period) × (power + lam < 4 * (entry + period))
    brent_bound power lam B = let h = B.bounded entry period F in (h, omega (arith, B.short))

    module _ (small : entry + period < 2 ^ 63) where
      -- the two sums of a turn fit 64 bits where they are computed
      pub lam_steps : (power lam : ℕ) → BrentSoFar t power lam → lam + 1 < 2 ^ 64
      lam_steps power lam B = omega (arith, B.short, (brent_bound power lam B).0)

      pub power_doubles : (power lam : ℕ) → BrentSoFar t power lam → (t (power - 1) ≡ t (power - 1 + (lam + 1)) → ⊥) → lam + 1 ≡ power
          → power + power < 2 ^ 64
      power_doubles power lam B new full = omega (arith, reset_due power lam B new full entry period F)

      -- the loop ends: power + lam grows by one each turn, and stays below this
      pub brent_measure : (power lam : ℕ) → BrentSoFar t power lam → power + lam < 2 ^ 65
      brent_measure power lam B = omega (arith, (brent_bound power lam B).1)
