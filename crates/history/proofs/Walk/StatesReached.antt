-- The states in which a rule can be: those to which the letters read so far lead from a starting state. They are told by any sequence of
-- sets that begins with the starting states, and in which a set goes on to its successors.
use mathlib.Core.Path.{◌≡◌, refl}
use mathlib.Core.Bool.{true}
use mathlib.Core.List.{[], ◌∷◌}
use Prim.Native.Nat.{ℕ, zero, suc}
use Rattle.base.specs.BitSet.{member, Subset}
use Rattle.rule.specs.Rule.{Rule, cell_at, successors}
use Rattle.rule.specs.WellFormed.{WellFormed}
use Rattle.word.specs.Lasso.{Leads}
use Rattle.word.proofs.Paths.{leads_one, one_leads, leads_append, leads_split}
use Rattle.history.proofs.Walk.Stretches.{stretch}
use Rattle.history.proofs.Step.OneNode.{successors_out, successors_in_lem}

module _ (R : Rule) (letter states : ℕ → ℕ) (start : states 0 ≡ R.start) where
  -- if each state there is a successor, it is reached
  pub states_reached : ((p : ℕ) → Subset (states (suc p)) (successors R (letter p) (states p))) → (p q : ℕ) → member (states p) q ≡ true
      → (s : ℕ) × (c : ℕ) × (member R.start s ≡ true) × Leads R (stretch letter p) s c q
  unfolding stretch
  states_reached from zero q h = (q, 0, rw start at h, (refl, refl))
  states_reached from (suc p) q h =
      let (r, there, e) = successors_out R (letter p) (states p) q (from p q h) in
      let (s, c, starts, path) = states_reached from p r there in
      let cell = cell_at R.grid (letter p) r q in
      (s, _, starts, leads_append R (stretch letter p) (letter p ∷ []) s c r cell q path (leads_one R (letter p) r q e))

  -- if each successor is there, so is each state that is reached
  pub reached_states : WellFormed R → ((p : ℕ) → Subset (successors R (letter p) (states p)) (states (suc p)))
      → (p s c q : ℕ) → member R.start s ≡ true → Leads R (stretch letter p) s c q → member (states p) q ≡ true
  unfolding stretch
  reached_states well to zero s c q h (e, _) = rw (start, ← e) h
  reached_states well to (suc p) s c q h path =
      let (r, _, d, before, last, _) = leads_split R (stretch letter p) (letter p ∷ []) s c q path in
      to p q (successors_in_lem R well (letter p) (states p) r q (reached_states well to p s _ r h before) (one_leads R (letter p) r d q last).0)
