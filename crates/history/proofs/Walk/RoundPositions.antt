-- The positions of a walk by rounds. What returns after p rounds, from the end of round e on, has at each position from there on the value
-- that it has at some letter of rounds e+1 to e+p, and has the value of each of these letters again in each p rounds.
use mathlib.Core.Path.{◌≡◌, sym, ◌∙◌, ap}
use mathlib.Core.List.{List}
use Prim.Native.Nat.{ℕ, suc, ◌+◌, ◌*◌, ◌-◌, ◌/◌, ◌%◌, ◌≤◌, ◌<◌}
use native.Mathlib.Omega.{arith}
use native.Mathlib.Nat.{add-mul-mod_self_right, mul-pos, mul-le-mul_right, div-add-mod', div-lt_iff_lt-mul, mod-lt}
use lib.ListN.{length, get_or}
use Rattle.word.specs.Walk.{letter_at}
use Rattle.word.proofs.Positions.{letter_behind}
use Rattle.history.specs.Verdict.{LetterPlace}

-- the letters of a walk return after each round
pub letters_back : (u v : List ℕ) (k p : ℕ) → length u ≤ p → letter_at u v (p + k * length v) ≡ letter_at u v p
letters_back u v k p h =
    let q : ℕ = p - length u in
    let e : length u + q ≡ p = omega arith in
    let e' : p + k * length v ≡ length u + (q + k * length v) = omega arith in
    ap (letter_at u v) e' ∙ letter_behind u v (q + k * length v) ∙ ap (λ (x : ℕ). get_or v x 0) (add-mul-mod_self_right q k (length v))
    ∙ sym (letter_behind u v q) ∙ ap (letter_at u v) e

-- the place of a letter of rounds e+1 to e+p among all of them
abbrev pub place_in : List ℕ → ℕ → ℕ → ℕ → ℕ
place_in v entry r i = (r - entry) * length v + i

-- it is one of those of p rounds
pub place_within : {v : List ℕ} {entry period r i : ℕ} → LetterPlace v entry period r i → place_in v entry r i < period * length v
place_within {v} {entry} {period} {r} {i} l =
    let few : suc (r - entry) ≤ period = omega (arith, l.from, l.upto) in
    omega (arith, l.within, mul-le-mul_right (length v) few)

module _ {A : Type 0} (u v : List ℕ) (entry period : ℕ) (f : ℕ → A)
    (back : (d p : ℕ) → length u + entry * length v ≤ p → f (p + d * (period * length v)) ≡ f p) where
  -- there the value is the same in each p rounds
  pub place_again : {r i : ℕ} → LetterPlace v entry period r i → (j : ℕ)
      → f (length u + entry * length v + (place_in v entry r i + j * (period * length v))) ≡ f (length u + r * length v + i)
  place_again {r} {i} l j =
      let z : r ≡ entry + (r - entry) = omega (arith, l.from) in
      let z' : r * length v ≡ (entry + (r - entry)) * length v = ap (◌* length v) z in
      let e : length u + entry * length v + ((r - entry) * length v + i + j * (period * length v))
      ≡ length u + r * length v + i + j * (period * length v) = omega arith in
      ap f e ∙ back j (length u + r * length v + i) (omega arith)

  -- and each position from the end of round e on has the value of such a letter
  pub letter_of : 1 ≤ length v → 1 ≤ period → (p : ℕ) → length u + entry * length v ≤ p
      → (r : ℕ) × (i : ℕ) × LetterPlace v entry period r i × (f p ≡ f (length u + r * length v + i))
  letter_of filled positive p h =
      let turn : ℕ = period * length v in
      let q : ℕ = p - (length u + entry * length v) in
      let o : ℕ = q % turn in
      let e : p ≡ length u + (entry + o / length v) * length v + o % length v + q / turn * turn =
      omega (arith, div-add-mod' q turn, div-add-mod' o (length v)) in (
        entry + o / length v,
        o % length v,
        record {
          from = omega arith;
          upto = omega (arith, (div-lt_iff_lt-mul {k = length v} {x = o} {y = period} filled).1 (mod-lt q (mul-pos positive filled)));
          within = mod-lt o filled;
        },
        ap f e ∙ back (q / turn) (length u + (entry + o / length v) * length v + o % length v) (omega arith),
      )
