-- Two periodic sequences that agree on one place less than both periods together agree everywhere (Fine and Wilf). No fewer places will do
-- where the periods have no common divisor but 1: 0 1 and 0 1 0, each for ever, agree on three places and not on the fourth.
use mathlib.Core.Path.{◌≡◌, sym, ◌∙◌, ap}
use mathlib.Core.Logic.{◌⊎◌, inl, inr}
use Prim.Native.Nat.{ℕ, zero, suc, ◌+◌, ◌-◌, ◌*◌, ◌/◌, ◌%◌, ◌<◌}
use native.Mathlib.Omega.{arith}
use native.Mathlib.Nat.{mod-lt, mod-add-div', mul_comm}
use native.Mathlib.Decide.{dec_lt}
use Rattle.word.proofs.Periods.{Periodic, again, reduced}

-- two sequences, with the periods a and b, that agree on a + b − 1 places
module _ (a b : ℕ) (f g : ℕ → ℕ) (some : 0 < a) (some' : 0 < b) (periodic : Periodic a f) (periodic' : Periodic b g)
    (same : (p : ℕ) → p + 1 < a + b → f p ≡ g p) where
  -- a place that is not the last of its period a: the first sequence has the same b places on, by the second
  inner : (p : ℕ) → p % a + 1 < a → f (p + b) ≡ f p
  inner p h =
      let r : ℕ = p % a in
      let e : p + b ≡ r + b + p / a * a = omega (arith, mod-add-div' p a) in
      ap f e ∙ again a f periodic (p / a) (r + b) ∙ same (r + b) (omega arith) ∙ periodic' r
      ∙ sym (same r (omega arith)) ∙ sym (reduced a f periodic p)

  -- the last place of the first period a: b places on, and b more, and so on, until the last place of a period comes round
  abbrev last : ℕ
  last = a - 1

  onward : (k : ℕ) → (f (last + b) ≡ f last) ⊎ (f (last + b) ≡ f (last + suc k * b))
  onward zero = let e : last + b ≡ last + 1 * b = omega arith in inr (ap f e)
  onward (suc k) = further (onward k)
    where
      q : ℕ
      q = last + suc k * b

      step : f (last + b) ≡ f q → Dec (q % a + 1 < a) → (f (last + b) ≡ f last) ⊎ (f (last + b) ≡ f (last + suc (suc k) * b))
      step e (yes l) = let z : q + b ≡ last + suc (suc k) * b = omega arith in inr (e ∙ sym (inner q l) ∙ ap f z)
      step e (no l) =
          let z : q % a ≡ last = omega (arith, mod-lt q some) in
          inl (e ∙ reduced a f periodic q ∙ ap f z)

      further : (f (last + b) ≡ f last) ⊎ (f (last + b) ≡ f q) → (f (last + b) ≡ f last) ⊎ (f (last + b) ≡ f (last + suc (suc k) * b))
      further (inl e) = inl e
      further (inr e) = step e (dec_lt (q % a + 1) a)

  outer : f (last + b) ≡ f last
  outer = go (onward last)
    where
      go : (f (last + b) ≡ f last) ⊎ (f (last + b) ≡ f (last + suc last * b)) → f (last + b) ≡ f last
      go (inl e) = e
      go (inr e) =
          let z : suc last ≡ a = omega arith in
          let t : suc last * b ≡ b * a = ap (◌* b) z ∙ mul_comm a b in
          e ∙ ap (λ x. f (last + x)) t ∙ again a f periodic b last

  -- so the first sequence has the period b too
  also : Periodic b f
  also p = go (dec_lt (p % a + 1) a)
    where
      go : Dec (p % a + 1 < a) → f (p + b) ≡ f p
      go (yes l) = inner p l
      go (no l) =
          let z : p % a ≡ last = omega (arith, mod-lt p some) in
          let e : p + b ≡ last + b + p / a * a = omega (arith, mod-add-div' p a, z) in
          ap f e ∙ again a f periodic (p / a) (last + b) ∙ outer ∙ ap f (sym z) ∙ sym (reduced a f periodic p)

  -- and the sequences agree everywhere
  pub periods_agree : (p : ℕ) → f p ≡ g p
  periods_agree p = reduced b f also p ∙ same (p % b) (let l = mod-lt p some' in omega arith) ∙ sym (reduced b g periodic' p)
