-- The search finds a loop just if the walk has one: from the ways of one or more tails and the lead-in's states to the loop of
-- document 01, and back. Loops at one state that take a set each are joined into one that takes all sets.
use mathlib.Core.Path.{◌≡◌}
use mathlib.Core.Logic.{inl, inr}
use mathlib.Core.Bool.{true}
use mathlib.Core.List.{List, ◌++◌, append-nil}
use Prim.Native.Nat.{ℕ, zero, suc, ◌+◌, ◌≤◌, ◌<◌}
use native.Mathlib.Decide.{ℕ_discrete}
use native.Mathlib.Omega.{arith}
use lib.Bits.{bit_or}
use Rattle.base.specs.BitSet.{member}
use Rattle.base.proofs.BitSet.{member_lt}
use Rattle.rule.specs.Limits.{max_sets}
use Rattle.rule.specs.Rule.{Rule}
use Rattle.rule.specs.WellFormed.{WellFormed}
use Rattle.table.proofs.Ranges.{start_fits_lem}
use Rattle.word.specs.Walk.{rounds}
use Rattle.word.specs.Lasso.{Leads, Lasso}
use Rattle.word.proofs.Paths.{leads_append, leads_rounds, leads_split, leads_inside}
use Rattle.plain.specs.Inner.Ways.{Ways}
use Rattle.plain.specs.Inner.Search.{Reaches, SomeLasso}
use Rattle.plain.proofs.WayLaws.{Takes, takes_union}
use Rattle.plain.proofs.RoundsLead.{RoundsWays}

-- the states `from` are those that the lead-in leads to from a starting state
pub record LeadStates (R : Rule) (u : List ℕ) (from : ℕ) : Type 0 where
  pub sound : (t : ℕ) → member from t ≡ true → (origin : ℕ) × (c : ℕ) × (member R.start origin ≡ true) × Leads R u origin c t
  pub complete : (origin c t : ℕ) → member R.start origin ≡ true → Leads R u origin c t → member from t ≡ true

module _ (R : Rule) (well : WellFormed R) (sets : R.sets ≤ max_sets) (u v : List ℕ) (from : ℕ) (lead : LeadStates R u from)
    (W : Ways) (ways : RoundsWays R v W) where
  -- STATES REACHED

  -- over the lead-in, and over rounds
  reached_leads : (t : ℕ) → Reaches W R.states from t
      → (origin : ℕ) × (j : ℕ) × (c : ℕ) × (member R.start origin ≡ true) × Leads R (u ++ rounds j v) origin c t
  unfolding rounds
  reached_leads t (inl h) =
      let (origin, c, starts, p) = lead.sound t h in
      (origin, 0, c, starts, rw (append-nil u) p)
  reached_leads t (inr (s, s-lt, h, has)) =
      let (origin, c, starts, p) = lead.sound s h in
      let (j, _, d, q, _) = ways.sound s t 0 s-lt (omega arith) has in
      (origin, j, bit_or c d, starts, leads_append R u (rounds j v) origin c s d t p q)

  -- THE LOOP

  -- a loop at t that takes the first m sets
  loops : (t : ℕ) → t < R.states → ((i : ℕ) → i ≤ R.sets → W t t i ≡ true) → (m : ℕ) → m ≤ R.sets
      → (j : ℕ) × (1 ≤ j) × (c : ℕ) × Leads R (rounds j v) t c t × ((i : ℕ) → i < m → Takes c (suc i))
  loops t t-lt full zero within =
      let (j, one, c, p, _) = ways.sound t t 0 t-lt (omega arith) (full 0 (omega arith)) in
      (j, one, c, p, λ i small. absurd (omega arith))
  loops t t-lt full (suc m) within =
      let (j, one, c, p, all) = loops t t-lt full m (omega arith) in
      let (j', _, d, q, h) = ways.sound t t (suc m) t-lt (omega arith) (full (suc m) within) in
      (j + j', omega arith, bit_or c d, leads_rounds R j j' v t c t d t p q, λ i small. more c d h all i small (ℕ_discrete i m))
    where
      more : (c d : ℕ) → Takes d (suc m) → ((i : ℕ) → i < m → Takes c (suc i)) → (i : ℕ) → i < suc m → Dec (i ≡ m)
          → Takes (bit_or c d) (suc i)
      more c d h all i small (yes e) = takes_union c d (suc i) (inr (rw e h))
      more c d h all i small (no other) = takes_union c d (suc i) (inl (all i (omega arith)))

  pub found_lasso : SomeLasso W R.states R.sets from → Lasso R u v
  found_lasso (t, t-lt, (reached, full)) =
      let (origin, lead, c, starts, p) = reached_leads t reached in
      let (j, one, d, q, all) = loops t t-lt full R.sets (omega arith) in
      record {
        origin = origin;
        state = t;
        lead = lead;
        turns = j;
        lead_sets = c;
        loop_sets = d;
        starts = starts;
        positive = one;
        leads = p;
        loops = q;
        every = all;
      }

  pub lasso_found : Lasso R u v → SomeLasso W R.states R.sets from
  unfolding rounds
  lasso_found L =
      let (s, c, d, p, q, _) = leads_split R u (rounds L.lead v) L.origin L.lead_sets L.state L.leads in
      let origin-lt = member_lt R.states R.start L.origin (start_fits_lem R.states R.start well.starts).1 L.starts in
      let s-lt = leads_inside R well u L.origin c s p origin-lt in
      let t-lt = leads_inside R well (rounds L.lead v) s d L.state q s-lt in (
        L.state,
        t-lt,
        (reached L.lead s d s-lt (lead.complete L.origin c s L.starts p) q, stands L.turns L.positive t-lt L.loops),
      )
    where
      reached : (j s d : ℕ) → s < R.states → member from s ≡ true → Leads R (rounds j v) s d L.state
          → Reaches W R.states from L.state
      reached zero s d s-lt here (e, _) = inl (rw e at here)
      reached (suc j) s d s-lt here q = inr (s, s-lt, here, ways.complete s d L.state j 0 s-lt (omega arith) q tt)

      taken : (i : ℕ) → i ≤ R.sets → Takes L.loop_sets i
      taken zero h = tt
      taken (suc i) h = L.every i h

      stands : (turns : ℕ) → 1 ≤ turns → L.state < R.states → Leads R (rounds turns v) L.state L.loop_sets L.state
          → (i : ℕ) → i ≤ R.sets → W L.state L.state i ≡ true
      stands zero one t-lt q i h = absurd (omega arith)
      stands (suc j) one t-lt q i h = ways.complete L.state L.loop_sets L.state j i t-lt (omega arith) q (taken i h)
