-- Numbers by their digits: a number of n digits in base b is below b^n and determines its digits.
use mathlib.Core.Path.{◌≡◌, sym, ◌∙◌, ap}
use Prim.Native.Nat.{ℕ, zero, suc, ◌+◌, ◌*◌, ◌/◌, ◌%◌, ◌^◌, ◌<◌}
use native.Mathlib.Omega.{arith}
use native.Mathlib.Nat.{pow-suc, pow-zero}
use native.Mathlib.Decide.{ℕ_discrete}
use lib.Arith.{digits_lt, digits_div, digits_mod}

-- the number in base b with the digits f 0 to f (n - 1), the highest first
unfoldable pub positional : ℕ → (ℕ → ℕ) → ℕ → ℕ
positional b f zero = 0
positional b f (suc n) = positional b f n * b + f n

-- it is below b^n
pub positional_lt : (b : ℕ) (f : ℕ → ℕ) (n : ℕ) → ((i : ℕ) → i < n → f i < b) → positional b f n < b ^ n
unfolding positional
positional_lt b f zero h = rw pow-zero (omega arith)
positional_lt b f (suc n) h = rw pow-suc (digits_lt (positional_lt b f n (λ i l. h i (omega arith))) (h n (omega arith)))

-- equal numbers have equal digits
pub same_digits : (b : ℕ) (f g : ℕ → ℕ) (n : ℕ) → ((i : ℕ) → i < n → f i < b) → ((i : ℕ) → i < n → g i < b)
    → positional b f n ≡ positional b g n → (i : ℕ) → i < n → f i ≡ g i
unfolding positional
same_digits b f g zero hf hg e i l = absurd (omega arith)
same_digits b f g (suc n) hf hg e i l =
    go (ℕ_discrete i n) (same_digits b f g n (λ j m. hf j (omega arith)) (λ j m. hg j (omega arith)) higher i)
  where
    higher : positional b f n ≡ positional b g n
    higher = sym (digits_div (positional b f n) (hf n (omega arith))) ∙ ap (λ (x : ℕ). x / b) e
        ∙ digits_div (positional b g n) (hg n (omega arith))

    lowest : f n ≡ g n
    lowest = sym (digits_mod (positional b f n) (hf n (omega arith))) ∙ ap (λ (x : ℕ). x % b) e
        ∙ digits_mod (positional b g n) (hg n (omega arith))

    go : Dec (i ≡ n) → (i < n → f i ≡ g i) → f i ≡ g i
    go (yes z) ih = rw z lowest
    go (no z) ih = ih (omega arith)
