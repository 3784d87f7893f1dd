-- The pigeonhole principle: of n + 1 numbers below n two are equal. The two places are given, by search and induction.
use mathlib.Core.Path.{◌≡◌, sym, ap, ◌∙◌}
use mathlib.Core.Logic.{◌⊎◌, inl, inr, ◌≢◌}
use Prim.Native.Nat.{ℕ, zero, suc, ◌+◌, ◌-◌, ◌≤◌, ◌<◌, min}
use native.Mathlib.Omega.{arith}
use native.Mathlib.Decide.{ℕ_discrete}

-- a value of f below n: found, or nowhere there
find : (f : ℕ → ℕ) (x n : ℕ) → ((i : ℕ) × (i < n) × (f i ≡ x)) ⊎ ((i : ℕ) → i < n → f i ≢ x)
find f x zero = inr (λ i h. absurd (omega arith))
find f x (suc n) = go (find f x n) (ℕ_discrete (f n) x)
  where
    go : ((i : ℕ) × (i < n) × (f i ≡ x)) ⊎ ((i : ℕ) → i < n → f i ≢ x) → Dec (f n ≡ x)
        → ((i : ℕ) × (i < suc n) × (f i ≡ x)) ⊎ ((i : ℕ) → i < suc n → f i ≢ x)
    go (inl (i, h, e)) d = inl (i, omega arith, e)
    go (inr none) (yes e) = inl (n, omega arith, e)
    go (inr none) (no e) = inr (λ i h. last i h (ℕ_discrete i n))
      where
        last : (i : ℕ) → i < suc n → Dec (i ≡ n) → f i ≢ x
        last i h (yes q) = rw q e
        last i h (no q) = none i (omega arith)

-- the numbers without v: those above v move down by one
squeeze : ℕ → ℕ → ℕ
squeeze v x = x - min 1 (x - v)

squeeze_lt : (n v x : ℕ) → v < suc n → x < suc n → x ≢ v → squeeze v x < n
unfolding squeeze
squeeze_lt n v x hv hx ne = omega arith

-- and back: those from v up move up again
widen : ℕ → ℕ → ℕ
widen v y = y + min 1 (suc y - v)

widen_squeeze : (v x : ℕ) → x ≢ v → widen v (squeeze v x) ≡ x
unfolding squeeze widen
widen_squeeze v x ne = omega arith

squeeze_injective : (v x y : ℕ) → x ≢ v → y ≢ v → squeeze v x ≡ squeeze v y → x ≡ y
squeeze_injective v x y nx ny e = sym (widen_squeeze v x nx) ∙ ap (widen v) e ∙ widen_squeeze v y ny

-- of the n + 1 values f 0 to f n, all below n, two are equal
pub pigeonhole : (n : ℕ) (f : ℕ → ℕ) → ((i : ℕ) → i ≤ n → f i < n) → (i : ℕ) × (j : ℕ) × (i < j) × (j ≤ n) × (f i ≡ f j)
pigeonhole zero f below = absurd (omega (arith, below 0 (omega arith)))
pigeonhole (suc n) f below = go (find f (f (suc n)) (suc n)) (pigeonhole n (λ i. squeeze (f (suc n)) (f i)))
  where
    v : ℕ
    v = f (suc n)

    Twice : ℕ → (ℕ → ℕ) → Type 0
    Twice m g = (i : ℕ) × (j : ℕ) × (i < j) × (j ≤ m) × (g i ≡ g j)

    go : ((i : ℕ) × (i < suc n) × (f i ≡ v)) ⊎ ((i : ℕ) → i < suc n → f i ≢ v)
        → (((i : ℕ) → i ≤ n → squeeze v (f i) < n) → Twice n (λ i. squeeze v (f i))) → Twice (suc n) f
    go (inl (i, h, e)) smaller = (i, suc n, h, omega arith, e)
    go (inr none) smaller =
        let (i, j, l, h, e) = smaller fits in
        (i, j, l, omega arith, squeeze_injective v (f i) (f j) (none i (omega arith)) (none j (omega arith)) e)
      where
        fits : (i : ℕ) → i ≤ n → squeeze v (f i) < n
        fits i h = squeeze_lt n v (f i) (below (suc n) (omega arith)) (below i (omega arith)) (none i (omega arith))
