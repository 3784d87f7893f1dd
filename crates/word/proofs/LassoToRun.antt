-- From a loop to an accepting run: the run follows the lead once and then the loop for ever. Each turn of the loop
-- takes every set, so each set is taken infinitely often.
use mathlib.Core.Path.{◌≡◌, sym, ap, ◌∙◌, subst}
use mathlib.Core.Bool.{true, cond}
use mathlib.Core.List.{List, [], ◌++◌}
use Prim.Native.Nat.{ℕ, zero, suc, ◌+◌, ◌-◌, ◌*◌, ◌%◌, ◌≤◌, ◌<◌}
use native.Mathlib.Omega.{arith}
use native.Mathlib.Nat.{zero-mod, suc-mod, mod_self, mod-lt, mod-eq_of_lt, add-mul-mod_self_right, mul-le-mul_left, mul-pos, add-suc}
use native.Mathlib.Decide.{dec_lt}
use lib.Dec.{ltb}
use lib.ListN.{length}
use borrow.Author.Tests.{lt-ltb, le-ltb}
use Rattle.base.specs.BitSet.{member}
use Rattle.rule.specs.Rule.{Rule, edge}
use Rattle.rule.proofs.Edges.{member_edge_in}
use Rattle.word.specs.Walk.{letter_at, rounds}
use Rattle.word.specs.Run.{Run, AcceptingRun, InfinitelyOften, Takes}
use Rattle.word.specs.Lasso.{Leads, Lasso}
use Rattle.word.proofs.Positions.{letter_prefix, letter_behind, letter_unrolled, length_rounds, filled}
use Rattle.word.proofs.Traces.{Trace, InSet, place_of, leads_trace}

-- THE STATES

-- h states by ρ, then l states by σ over and over
endless : ℕ → ℕ → (ℕ → ℕ) → (ℕ → ℕ) → ℕ → ℕ
endless h l ρ σ p = cond (ltb p h) (ρ p) (σ ((p - h) % l))

-- q places behind the lead: place q modulo l of the loop
endless_loop : (h l : ℕ) (ρ σ : ℕ → ℕ) (q : ℕ) → endless h l ρ σ (h + q) ≡ σ (q % l)
unfolding endless
endless_loop h l ρ σ q =
    let e : h + q - h ≡ q = omega arith in
    rw (le-ltb (h + q) h (omega arith), e)

-- up to the end of the lead, where the loop begins
endless_lead : (h l : ℕ) (ρ σ : ℕ → ℕ) → ρ h ≡ σ 0 → (p : ℕ) → p ≤ h → endless h l ρ σ p ≡ ρ p
unfolding endless
endless_lead h l ρ σ joins p le = go (dec_lt p h)
  where
    go : Dec (p < h) → endless h l ρ σ p ≡ ρ p
    go (yes lt) = rw (lt-ltb p h lt)
    go (no ge) =
        let e : p ≡ h + 0 = omega arith in
        let e' : p ≡ h = omega arith in
        ap (endless h l ρ σ) e ∙ endless_loop h l ρ σ 0 ∙ ap σ (zero-mod l) ∙ sym joins ∙ ap ρ (sym e')

-- the next place of a loop of l places; its end is its beginning
pub next_place : (l : ℕ) (σ : ℕ → ℕ) → 0 < l → σ l ≡ σ 0 → (q : ℕ) → σ (suc q % l) ≡ σ (suc (q % l))
next_place l σ filled back q = ap σ (suc-mod q l) ∙ go (dec_lt (suc (q % l)) l)
  where
    go : Dec (suc (q % l) < l) → σ (suc (q % l) % l) ≡ σ (suc (q % l))
    go (yes lt) = ap σ (mod-eq_of_lt lt)
    go (no ge) = let e : suc (q % l) ≡ l = omega (arith, mod-lt q filled) in rw (e, mod_self) (sym back)

endless_next : (h l : ℕ) (ρ σ : ℕ → ℕ) → 0 < l → σ l ≡ σ 0 → (q : ℕ) → endless h l ρ σ (suc (h + q)) ≡ σ (suc (q % l))
endless_next h l ρ σ filled back q = rw (← add-suc h q) (endless_loop h l ρ σ (suc q) ∙ next_place l σ filled back q)

-- THE RUN

-- a path over u from a starting state, then one over v that comes back and takes every set
record Unrolled (R : Rule) (u v : List ℕ) : Type 0 where
  origin : ℕ
  knot : ℕ
  lead_sets : ℕ
  loop_sets : ℕ
  starts : member R.start origin ≡ true
  leads : Leads R u origin lead_sets knot
  loops : Leads R v knot loop_sets knot
  every : (i : ℕ) → i < R.sets → member loop_sets i ≡ true

-- it makes an accepting run
unrolled_run : (R : Rule) (u v : List ℕ) → 0 < length v → Unrolled R u v → AcceptingRun R u v
unrolled_run R u v filled L = record { run = run; often = often }
  where
    lead : Trace R u L.origin L.lead_sets L.knot
    lead = leads_trace R u L.origin L.lead_sets L.knot L.leads

    loop : Trace R v L.knot L.loop_sets L.knot
    loop = leads_trace R v L.knot L.loop_sets L.knot L.loops

    states : ℕ → ℕ
    states = endless (length u) (length v) lead.state loop.state

    on_lead : (p : ℕ) → p ≤ length u → states p ≡ lead.state p
    on_lead = endless_lead (length u) (length v) lead.state loop.state (lead.leaves ∙ sym loop.enters)

    on_loop : (q : ℕ) → states (length u + q) ≡ loop.state (q % length v)
    on_loop = endless_loop (length u) (length v) lead.state loop.state

    next : (q : ℕ) → states (suc (length u + q)) ≡ loop.state (suc (q % length v))
    next = endless_next (length u) (length v) lead.state loop.state filled (loop.leaves ∙ sym loop.enters)

    goes : (p : ℕ) → Dec (p < length u) → edge R.grid (letter_at u v p) (states p) (states (suc p)) ≡ true
    goes p (yes lt) = rw (letter_prefix u v p lt, on_lead p (omega arith), on_lead (suc p) lt) (lead.moves p lt)
    goes p (no ge) =
        let e : p ≡ length u + (p - length u) = omega arith in
        subst (λ x. edge R.grid (letter_at u v x) (states x) (states (suc x)) ≡ true) (sym e)
        (rw (letter_behind, on_loop, next) (loop.moves ((p - length u) % length v) (mod-lt (p - length u) filled)))

    run : Run R u v
    run = record {
      state = states;
      starts = rw (on_lead 0 (omega arith), lead.enters) L.starts;
      moves = λ p. goes p (dec_lt p (length u));
    }

    often : (i : ℕ) → 1 ≤ i → i ≤ R.sets → InfinitelyOften run i
    often zero h k p = absurd (omega arith)
    often (suc i) h k p = (length u + (q + p * length v), late, belongs)
      where
        place : (q : ℕ) × (q < length v) × InSet R v loop.state i q
        place = place_of R v loop.state i (rw loop.sets at (L.every i k))

        q : ℕ
        q = place.0

        late : p ≤ length u + (q + p * length v)
        late = omega (arith, mul-le-mul_left p filled)

        turn : (q + p * length v) % length v ≡ q
        turn = add-mul-mod_self_right q p (length v) ∙ mod-eq_of_lt place.1

        belongs : Takes run (suc i) (length u + (q + p * length v))
        belongs =
            member_edge_in R.grid i _ _ _ (goes (length u + (q + p * length v)) (dec_lt _ _))
            (rw (letter_behind, on_loop, next, turn) place.2)

-- what is accepted depends on the letters alone
accepting_same : (R : Rule) (u v u' v' : List ℕ) → ((p : ℕ) → letter_at u' v' p ≡ letter_at u v p)
    → AcceptingRun R u v → AcceptingRun R u' v'
accepting_same R u v u' v' same A = record { run = run; often = often }
  where
    run : Run R u' v'
    run = record { state = A.run.state; starts = A.run.starts; moves = λ p. rw (same p) (A.run.moves p) }

    often : (i : ℕ) → 1 ≤ i → i ≤ R.sets → InfinitelyOften run i
    often i h k p = let (q, l, t) = A.often i h k p in (q, l, rw (same q) t)

-- a lasso makes an accepting run, whether or not the rule is well-formed: the lead is a prefix of the same walk, and
-- the loop a tail of it
pub lasso_run : (R : Rule) (u v : List ℕ) → (v ≡ [] → ⊥) → Lasso R u v → AcceptingRun R u v
lasso_run R u v nonempty L =
    accepting_same R (u ++ rounds L.lead v) (rounds L.turns v) u v
    (λ p. sym (letter_unrolled u v L.lead L.turns L.positive (filled v nonempty) p))
    (unrolled_run R (u ++ rounds L.lead v) (rounds L.turns v)
    (rw length_rounds (mul-pos L.positive (filled v nonempty)))
    (record {
      origin = L.origin;
      knot = L.state;
      lead_sets = L.lead_sets;
      loop_sets = L.loop_sets;
      starts = L.starts;
      leads = L.leads;
      loops = L.loops;
      every = L.every;
    }))
