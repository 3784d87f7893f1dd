-- The ways of one or more tails are the paths of the rule over one or more tails.
use mathlib.Core.Path.{◌≡◌, subst}
use mathlib.Core.Logic.{⊎_elim, inl, inr}
use mathlib.Core.Bool.{true}
use mathlib.Core.List.{List}
use Prim.Native.Nat.{ℕ, zero, suc, ◌+◌, ◌≤◌, ◌<◌}
use native.Mathlib.Numerals.{add-one}
use native.Mathlib.Omega.{arith}
use lib.Bits.{bit_or}
use Rattle.rule.specs.Limits.{max_sets}
use Rattle.rule.specs.Rule.{Rule}
use Rattle.rule.specs.WellFormed.{WellFormed}
use Rattle.word.specs.Walk.{rounds}
use Rattle.word.specs.Lasso.{Leads}
use Rattle.word.proofs.Paths.{rounds_one, leads_rounds, leads_rounds_split, leads_inside}
use Rattle.plain.specs.Inner.Ways.{Ways}
use Rattle.plain.specs.Inner.Rounds.{closure}
use Rattle.plain.proofs.WayLaws.{Takes, takes_union, takes_apart}
use Rattle.plain.proofs.Closure.{closure_closed, closure_has, closure_sound}

-- the ways W are those of one tail
pub record TailWays (R : Rule) (v : List ℕ) (W : Ways) : Type 0 where
  pub sound : (s t i : ℕ) → s < R.states → i ≤ max_sets → W s t i ≡ true → (c : ℕ) × Leads R v s c t × Takes c i
  pub complete : (s c t i : ℕ) → s < R.states → i ≤ max_sets → Leads R v s c t → Takes c i → W s t i ≡ true

-- one or more tails lead from s to t, and relation i has their path
abbrev Tails : Rule → List ℕ → ℕ → ℕ → ℕ → Type 0
Tails R v s t i = (j : ℕ) × (1 ≤ j) × (c : ℕ) × Leads R (rounds j v) s c t × Takes c i

-- the ways W are those of one or more tails
pub record RoundsWays (R : Rule) (v : List ℕ) (W : Ways) : Type 0 where
  pub sound : (s t i : ℕ) → s < R.states → i ≤ max_sets → W s t i ≡ true → Tails R v s t i
  pub complete : (s c t j i : ℕ) → s < R.states → i ≤ max_sets → Leads R (rounds (suc j) v) s c t → Takes c i → W s t i ≡ true

module _ (R : Rule) (well : WellFormed R) (v : List ℕ) (W : Ways) (tail : TailWays R v W) where
  -- one tail
  once : (s t i : ℕ) → s < R.states → i ≤ max_sets → W s t i ≡ true → Tails R v s t i
  once s t i s-lt h has =
      let (c, p, takes) = tail.sound s t i s-lt h has in
      (1, omega arith, c, rw (rounds_one v) p, takes)

  -- and more behind
  back : (s p t i : ℕ) → Tails R v s p 0 → Tails R v p t i → Tails R v s t i
  back s p t i (j, one, c, x, _) (j', one', d, y, takes) =
      (j + j', omega arith, bit_or c d, leads_rounds R j j' v s c p d t x y, takes_union c d i (inr takes))

  front : (s p t i : ℕ) → Tails R v s p i → Tails R v p t 0 → Tails R v s t i
  front s p t i (j, one, c, x, takes) (j', one', d, y, _) =
      (j + j', omega arith, bit_or c d, leads_rounds R j j' v s c p d t x y, takes_union c d i (inl takes))

  found_one : (s c t i : ℕ) → s < R.states → i ≤ max_sets → Leads R (rounds 1 v) s c t → Takes c i
      → closure R.states W s t i ≡ true
  found_one s c t i s-lt h p takes = closure_has W R.states s t i (tail.complete s c t i s-lt h (rw (rounds_one v) at p) takes)

  found : (s c t j i : ℕ) → s < R.states → i ≤ max_sets → Leads R (rounds (suc j) v) s c t → Takes c i
      → closure R.states W s t i ≡ true
  found s c t zero i s-lt h p takes = found_one s c t i s-lt h p takes
  found s e t (suc j) i s-lt h p takes =
      let (r, c, d, q, q', z) = leads_rounds_split R (suc j) 1 v s e t (rw (← add-one (suc j)) at p) in
      let r-lt = leads_inside R well (rounds (suc j) v) s c r q s-lt in
      closure_closed W R.states s r t i r-lt
      (⊎_elim (λ k. inr (found s c r j i s-lt h q k, found_one r d t 0 r-lt (omega arith) q' tt))
      (λ k. inl (found s c r j 0 s-lt (omega arith) q tt, found_one r d t i r-lt h q' k)) (takes_apart c d i (subst (λ e. Takes e i) z takes)))

  pub rounds_ways : RoundsWays R v (closure R.states W)
  rounds_ways = record {
    sound = λ s t i s-lt h has. closure_sound W R.states max_sets (Tails R v) once back front R.states s t i (omega arith) s-lt h has;
    complete = found;
  }
