-- From an accepting run to a loop. Round ends are chosen one after the other, so late each that between two of them
-- the run takes every set. At n + 1 round ends two of the n states are equal: between these the run is a loop.
use mathlib.Core.Path.{◌≡◌, sym, ap, ◌∙◌}
use mathlib.Core.Bool.{true}
use mathlib.Core.List.{List, [], ◌++◌}
use Prim.Native.Nat.{ℕ, zero, suc, ◌+◌, ◌-◌, ◌*◌, ◌≤◌, ◌<◌}
use native.Mathlib.Omega.{arith}
use native.Mathlib.Nat.{add-suc, add-zero, zero-add, mul-le-mul_left}
use native.Mathlib.Decide.{ℕ_discrete, le_ind}
use lib.ListN.{length, length-append}
use Rattle.base.specs.BitSet.{member}
use Rattle.rule.specs.Rule.{Rule}
use Rattle.rule.specs.WellFormed.{WellFormed}
use Rattle.rule.proofs.Edges.{edge_inside, edge_in_member}
use Rattle.word.specs.Walk.{rounds}
use Rattle.word.specs.Run.{Run, AcceptingRun, Takes}
use Rattle.word.specs.Lasso.{Leads, Lasso}
use Rattle.word.proofs.Positions.{filled, length_rounds, Reads, reads_lead, reads_rounds}
use Rattle.word.proofs.Traces.{MovesOver, sets_over, taken_at_lem, trace_leads}
use Rattle.word.proofs.Pigeonhole.{pigeonhole}

-- THE PARTS OF A RUN

module _ (R : Rule) (u v : List ℕ) (run : Run R u v) (p : ℕ) (w : List ℕ) (reads : Reads u v p w) where
  -- where the walk has the letters w from position p on, the run is a path over w from its state at p
  part_leads : Leads R w (run.state p) (sets_over R w (λ q. run.state (p + q))) (run.state (p + length w))
  part_leads = rw add-zero at (trace_leads R w (λ q. run.state (p + q)) moves)
    where
      moves : MovesOver R w (λ q. run.state (p + q))
      moves q h = rw (← reads q h, add-suc) (run.moves (p + q))

  -- which takes the sets that the run takes there
  part_takes : (i q : ℕ) → q < length w → Takes run (suc i) (p + q) → member (sets_over R w (λ q. run.state (p + q))) i ≡ true
  part_takes i q h takes =
      taken_at_lem R w (λ q. run.state (p + q)) i q h (rw (← reads q h, add-suc) (edge_in_member R.grid i _ _ _ takes))

-- THE CHOICE OF ROUND ENDS

module _ (R : Rule) (u v : List ℕ) (A : AcceptingRun R u v) where
  -- a position before which, from p on, the run takes each of the sets 1 to j
  record Seen (p j : ℕ) : Type 0 where
    end : ℕ
    later : p < end
    takes : (i : ℕ) → i < j → (q : ℕ) × (p ≤ q) × (q < end) × Takes A.run (suc i) q

  -- there is one: behind the places that the run names for these sets
  seen : (p j : ℕ) → j ≤ R.sets → Seen p j
  seen p zero l = record { end = suc p; later = omega arith; takes = λ i h. absurd (omega arith) }
  seen p (suc j) l = go (seen p j (omega arith)) (A.often (suc j) (omega arith) l p)
    where
      go : Seen p j → (q : ℕ) × (p ≤ q) × Takes A.run (suc j) q → Seen p (suc j)
      go S (q, from, t) = record { end = S.end + suc q; later = omega (arith, S.later); takes = λ i h. at i h (ℕ_discrete i j) }
        where
          at : (i : ℕ) → i < suc j → Dec (i ≡ j) → (x : ℕ) × (p ≤ x) × (x < S.end + suc q) × Takes A.run (suc i) x
          at i h (yes e) = (q, from, omega arith, rw e t)
          at i h (no e) = let (x, a, b, c) = S.takes i (omega arith) in (x, a, omega arith, c)

  -- from the round end r on, every set
  after : (r : ℕ) → Seen (length u + r * length v) R.sets
  after r = seen (length u + r * length v) R.sets (omega arith)

  -- the numbers of the chosen round ends
  ends : ℕ → ℕ
  ends zero = 0
  ends (suc i) = (after (ends i)).end

  module _ (h : 1 ≤ length v) where
    -- each is later than the one before
    ends_grow : (i : ℕ) → ends i < ends (suc i)
    unfolding ends
    ends_grow i = omega (arith, (after (ends i)).later, mul-le-mul_left (ends i) h)

    ends_later : (i j : ℕ) → i < j → ends (suc i) ≤ ends j
    ends_later i j l = le_ind (λ m. ends (suc i) ≤ ends m) (omega arith) (λ m _ k. omega (arith, k, ends_grow m)) j l

    -- two chosen round ends with the same state make a loop
    loop_between : (i j : ℕ) → i < j → A.run.state (length u + ends i * length v) ≡ A.run.state (length u + ends j * length v)
        → Lasso R u v
    unfolding ends
    loop_between i j l same = record {
      origin = A.run.state 0;
      state = A.run.state (length lead);
      lead = ends i;
      turns = turns;
      lead_sets = sets_over R lead (λ q. A.run.state (0 + q));
      loop_sets = sets_over R loop (λ q. A.run.state (length lead + q));
      starts = A.run.starts;
      positive = positive;
      leads = rw zero-add at (part_leads R u v A.run 0 lead (reads_lead u v (ends i) h));
      loops = rw closed at (part_leads R u v A.run (length lead) loop reads);
      every = every;
    }
      where
        turns : ℕ
        turns = ends j - ends i

        lead : List ℕ
        lead = u ++ rounds (ends i) v

        loop : List ℕ
        loop = rounds turns v

        positive : 1 ≤ turns
        positive = omega (arith, ends_grow i, ends_later i j l)

        reads : Reads u v (length lead) loop
        reads = reads_rounds u v (ends i) turns positive h

        from : length lead ≡ length u + ends i * length v
        from = length-append u (rounds (ends i) v) ∙ ap (length u +◌) (length_rounds (ends i) v)

        to : length lead + length loop ≡ length u + ends j * length v
        to =
            let e : ends i + turns ≡ ends j = omega (arith, positive) in
            omega (arith, from, length_rounds turns v, ap (◌* length v) e)

        closed : A.run.state (length lead + length loop) ≡ A.run.state (length lead)
        closed = ap A.run.state to ∙ sym same ∙ ap A.run.state (sym from)

        every : (k : ℕ) → k < R.sets → member (sets_over R loop (λ q. A.run.state (length lead + q))) k ≡ true
        every k b =
            let (q, early, late, t) = (after (ends i)).takes k b in
            let x : ℕ = q - length lead in
            let e : q ≡ length lead + x = omega (arith, from) in
            part_takes R u v A.run (length lead) loop reads k x
            (omega (arith, to, ends_later i j l, mul-le-mul_left (ends j) h)) (rw e at t)

-- an accepting run makes a loop
pub run_lasso : (R : Rule) (u v : List ℕ) → WellFormed R → (v ≡ [] → ⊥) → AcceptingRun R u v → Lasso R u v
run_lasso R u v wf nonempty A =
    let (i, j, l, _, same) = pigeonhole R.states (λ i. A.run.state (place i)) (λ i _. inside (place i)) in
    loop_between R u v A (filled v nonempty) i j l same
  where
    place : ℕ → ℕ
    place i = length u + ends R u v A i * length v

    inside : (p : ℕ) → A.run.state p < R.states
    inside p = (edge_inside R wf _ _ _ (A.run.moves p)).1
