-- The first repeat of a sequence, each value of which determines the next: it is there if there are finitely many
-- values; it is unique; from the entry on everything repeats with the period, and nothing else repeats. So whoever finds
-- a repeat in constant memory, by Brent's search, finds this one.
use mathlib.Core.Path.{◌≡◌, sym, ◌∙◌, ap, subst}
use mathlib.Core.Logic.{◌⊎◌, inl, inr, ⊎_elim}
use Prim.Native.Nat.{ℕ, zero, suc, ◌+◌, ◌*◌, ◌-◌, ◌/◌, ◌%◌, ◌≤◌, ◌<◌}
use native.Mathlib.Omega.{arith}
use native.Mathlib.Nat.{mod-lt, div-add-mod', mul-le-mul_right, add-suc, add-zero}
use native.Mathlib.Decide.{dec_le, dec_lt, ℕ_discrete, map_dec}
use Rattle.word.proofs.Pigeonhole.{pigeonhole}
use Rattle.history.specs.Rounds.{FirstRepeat}

-- THE FIRST NUMBER WITH A PROPERTY

pub record First (P : ℕ → Type 0) (n : ℕ) : Type 0 where
  pub at : ℕ
  pub below : at < n
  pub holds : P at
  pub least : (i : ℕ) → i < at → P i → ⊥

-- the first number below n with a property, or none
pub first_below : (P : ℕ → Type 0) → ((i : ℕ) → Dec (P i)) → (n : ℕ) → First P n ⊎ ((i : ℕ) → i < n → P i → ⊥)
first_below P d zero = inr (λ i h. absurd (omega arith))
first_below P d (suc n) = go (first_below P d n) (d n)
  where
    go : First P n ⊎ ((i : ℕ) → i < n → P i → ⊥) → Dec (P n) → First P (suc n) ⊎ ((i : ℕ) → i < suc n → P i → ⊥)
    go (inl f) e = inl (record { at = f.at; below = omega (arith, f.below); holds = f.holds; least = f.least })
    go (inr none) (yes p) = inl (record { at = n; below = omega arith; holds = p; least = none })
    go (inr none) (no p) = inr (λ i h x. last i h x (ℕ_discrete i n))
      where
        last : (i : ℕ) → i < suc n → P i → Dec (i ≡ n) → ⊥
        last i h x (yes e) = p (subst P e x)
        last i h x (no e) = none i (omega arith) x

-- THERE IS A FIRST REPEAT

-- at once, or one place later
pub repeat_at_once : {A : Type 0} (t : ℕ → A) → t 0 ≡ t 1 → FirstRepeat t 0 1
repeat_at_once t same = record { positive = omega arith; back = same; first = λ i j l h e. omega arith }

pub repeat_after_one : {A : Type 0} (t : ℕ → A) → (t 0 ≡ t 1 → ⊥) → t 1 ≡ t 2 → FirstRepeat t 1 1
repeat_after_one t differ same = record { positive = omega arith; back = same; first = earlier }
  where
    earlier : (i j : ℕ) → i < j → j < 2 → t i ≡ t j → ⊥
    earlier zero (suc zero) l h e = differ e
    earlier zero (suc (suc j)) l h e = omega arith
    earlier zero zero l h e = omega arith
    earlier (suc i) j l h e = omega arith

-- where values can be compared
module _ {A : Type 0} (t : ℕ → A) (same? : (i j : ℕ) → Dec (t i ≡ t j)) where
  -- is the value at place j an earlier one?
  Seen : ℕ → Type 0
  Seen j = First (λ i. t i ≡ t j) j

  seen : (j : ℕ) → Dec (Seen j)
  unfolding Seen
  seen j = ⊎_elim (λ f. yes f) (λ none. no (λ f. none f.at f.below f.holds)) (first_below (λ i. t i ≡ t j) (λ i. same? i j) j)

  earlier_seen : (i j : ℕ) → i < j → t i ≡ t j → Seen j
  unfolding Seen
  earlier_seen i j l e = ⊎_elim (λ f. f) (λ none. absurd (none i l e)) (first_below (λ i. t i ≡ t j) (λ i. same? i j) j)

  -- the first repeat comes by some place, or the values up to there are all different
  pub repeat_or_none : (bound : ℕ) → ((entry : ℕ) × (period : ℕ) × FirstRepeat t entry period × (entry + period ≤ bound))
      ⊎ ((i j : ℕ) → i < j → j ≤ bound → t i ≡ t j → ⊥)
  unfolding Seen
  repeat_or_none bound = ⊎_elim (λ f. inl (found f f.holds)) (λ none. inr (λ i j l k e. none j (omega arith) (earlier_seen i j l e)))
      (first_below Seen seen (suc bound))
    where
      found : (f : First Seen (suc bound)) → (s : First (λ i. t i ≡ t f.at) f.at)
          → (entry : ℕ) × (period : ℕ) × FirstRepeat t entry period × (entry + period ≤ bound)
      found f s =
          let e : s.at + (f.at - s.at) ≡ f.at = omega (arith, s.below) in (
            s.at,
            f.at - s.at,
            record {
              positive = omega (arith, s.below);
              back = rw e s.holds;
              first = λ i j l k same. f.least j (omega arith) (earlier_seen i j l same);
            },
            omega (arith, f.below),
          )

-- if values have numbers below a bound, no two the same, it comes by then
pub repeats : {A : Type 0} (t : ℕ → A) (code : A → ℕ) → ((i j : ℕ) → code (t i) ≡ code (t j) → t i ≡ t j)
    → (bound : ℕ) → ((i : ℕ) → code (t i) < bound)
    → (entry : ℕ) × (period : ℕ) × FirstRepeat t entry period × (entry + period ≤ bound)
repeats t code injective bound below = ⊎_elim (λ found. found)
    (λ none. let (i, j, l, k, e) = pigeonhole bound (λ i. code (t i)) (λ i _. below i) in absurd (none i j l k (injective i j e)))
    (repeat_or_none t (λ i j. map_dec (injective i j) (ap code) (ℕ_discrete (code (t i)) (code (t j)))) bound)

-- IT IS UNIQUE

pub repeat_unique : {A : Type 0} (t : ℕ → A) (e p e' p' : ℕ) → FirstRepeat t e p → FirstRepeat t e' p' → (e ≡ e') × (p ≡ p')
repeat_unique t e p e' p' F G = go (dec_lt (e + p) (e' + p')) (dec_lt (e' + p') (e + p)) (dec_lt e e') (dec_lt e' e)
  where
    go : Dec (e + p < e' + p') → Dec (e' + p' < e + p) → Dec (e < e') → Dec (e' < e) → (e ≡ e') × (p ≡ p')
    go (yes h) _ _ _ = absurd (G.first e (e + p) (omega (arith, F.positive)) h F.back)
    go (no h) (yes g) _ _ = absurd (F.first e' (e' + p') (omega (arith, G.positive)) g G.back)
    go (no h) (no g) (yes l) _ =
        let z : e + p ≡ e' + p' = omega arith in
        absurd (F.first e e' l (omega (arith, G.positive)) (F.back ∙ ap t z ∙ sym G.back))
    go (no h) (no g) (no _) (yes l) =
        let z : e + p ≡ e' + p' = omega arith in
        absurd (F.first e' e l (omega (arith, F.positive)) (G.back ∙ ap t (sym z) ∙ sym F.back))
    go (no h) (no g) (no l) (no l') = (omega arith, omega arith)

-- WHAT REPEATS

module _ {A : Type 0} (t : ℕ → A) (f : A → A) (next : (r : ℕ) → t (suc r) ≡ f (t r)) where
  -- equal values have equal values behind them
  pub same_after : (i j d : ℕ) → t i ≡ t j → t (i + d) ≡ t (j + d)
  same_after i j zero e = rw (add-zero, add-zero) e
  same_after i j (suc d) e = simp (add-suc, next) (ap f (same_after i j d e))

  module _ (entry period : ℕ) (F : FirstRepeat t entry period) where
    -- from the entry on everything repeats with the period
    one_period : (i : ℕ) → entry ≤ i → t i ≡ t (i + period)
    one_period i l =
        let a : entry + (i - entry) ≡ i = omega arith in
        let b : entry + period + (i - entry) ≡ i + period = omega arith in
        rw (a, b) at (same_after entry (entry + period) (i - entry) F.back)

    pub periodic : (d i : ℕ) → entry ≤ i → t i ≡ t (i + d * period)
    periodic zero i l = let a : i + 0 * period ≡ i = omega arith in rw a
    periodic (suc d) i l =
        let a : i + period + d * period ≡ i + suc d * period = omega arith in
        one_period i l ∙ (rw a at (periodic d (i + period) (omega arith)))

    -- a place from the entry on, as one of the first period and full turns behind it
    record Turned (i : ℕ) : Type 0 where
      offset : ℕ
      turns : ℕ
      small : offset < period
      place : i ≡ entry + offset + turns * period
      same : t (entry + offset) ≡ t i

    turned : (i : ℕ) → entry ≤ i → Turned i
    turned i l =
        let o : ℕ = (i - entry) % period in
        let d : ℕ = (i - entry) / period in
        let h : d * period + o ≡ i - entry = div-add-mod' (i - entry) period in
        let e : i ≡ entry + o + d * period = omega arith in
        record {
          offset = o;
          turns = d;
          small = mod-lt (i - entry) F.positive;
          place = e;
          same = periodic d (entry + o) (omega arith) ∙ rw (← e);
        }

    apart : (o c d i j : ℕ) → i ≡ entry + o + c * period → j ≡ entry + o + d * period → i < j
        → (x : ℕ) × (1 ≤ x) × (j ≡ i + x * period)
    apart o c d i j a b l = go (dec_lt c d)
      where
        go : Dec (c < d) → (x : ℕ) × (1 ≤ x) × (j ≡ i + x * period)
        go (yes h) =
            let e : d ≡ c + (d - c) = omega arith in
            let e' : d * period ≡ (c + (d - c)) * period = ap (◌* period) e in
            (d - c, omega arith, omega arith)
        go (no h) = absurd (omega (arith, mul-le-mul_right {m = d} {n = c} period (omega arith)))

    -- and nothing else: equal values stand from the entry on, full periods apart
    pub repeat_only : (i j : ℕ) → i < j → t i ≡ t j → (entry ≤ i) × ((d : ℕ) × (1 ≤ d) × (j ≡ i + d * period))
    repeat_only i j l e = go (dec_le entry i) (dec_lt j (entry + period))
      where
        both : Turned i → Turned j → (d : ℕ) × (1 ≤ d) × (j ≡ i + d * period)
        both x y = at (ℕ_discrete x.offset y.offset) (dec_lt x.offset y.offset)
          where
            at : Dec (x.offset ≡ y.offset) → Dec (x.offset < y.offset) → (d : ℕ) × (1 ≤ d) × (j ≡ i + d * period)
            at (yes h) _ = apart x.offset x.turns y.turns i j x.place (rw h y.place) l
            at (no h) (yes g) =
                absurd (F.first (entry + x.offset) (entry + y.offset) (omega arith) (omega (arith, y.small))
                (x.same ∙ e ∙ sym y.same))
            at (no h) (no g) =
                absurd (F.first (entry + y.offset) (entry + x.offset) (omega arith) (omega (arith, x.small))
                (y.same ∙ sym e ∙ sym x.same))

        go : Dec (entry ≤ i) → Dec (j < entry + period) → (entry ≤ i) × ((d : ℕ) × (1 ≤ d) × (j ≡ i + d * period))
        go (yes h) _ = (h, both (turned i h) (turned j (omega arith)))
        go (no h) (yes g) = absurd (F.first i j l g e)
        go (no h) (no g) =
            let y = turned j (omega arith) in
            absurd (F.first i (entry + y.offset) (omega arith) (omega (arith, y.small)) (e ∙ sym y.same))

    -- SEARCH

    -- no value comes back sooner than after a period
    pub period_first : (i l : ℕ) → 1 ≤ l → t i ≡ t (i + l) → period ≤ l
    period_first i l p e =
        let (_, s) = repeat_only i (i + l) (omega arith) e in omega (arith, s.2, mul-le-mul_right {m = 1} {n = s.0} period s.1)

    -- Brent: where a value comes back for the first time, the distance is the period
    pub brent : (i l : ℕ) → 1 ≤ l → t i ≡ t (i + l) → ((m : ℕ) → 1 ≤ m → m < l → t i ≡ t (i + m) → ⊥) → period ≡ l
    brent i l p e least = go (dec_lt period l)
      where
        one : t i ≡ t (i + 1 * period)
        one = periodic 1 i (repeat_only i (i + l) (omega arith) e).0

        go : Dec (period < l) → period ≡ l
        go (yes h) = let z : 1 * period ≡ period = omega arith in absurd (least period F.positive h (rw z at one))
        go (no h) = omega (arith, period_first i l p e)
