-- A loop of a walk, letter by letter: the ways into it, and the run that goes around it for ever beside the trees of the walk, from the
-- end of some round on. The loop may be one of another rule than the trees.
use mathlib.Core.Path.{◌≡◌, sym, ◌∙◌, ap}
use mathlib.Core.Bool.{true}
use mathlib.Core.List.{List, ◌++◌, append_assoc}
use Prim.Native.Nat.{ℕ, suc, ◌+◌, ◌*◌, ◌%◌, ◌≤◌, ◌<◌}
use native.Mathlib.Omega.{arith}
use native.Mathlib.Nat.{zero-mod, mod-lt, mod-eq_of_lt, add-mul-mod_self_right, mul-pos, mul-le-mul_right}
use lib.Bits.{bit_or}
use lib.ListN.{length, get_or}
use Rattle.base.specs.BitSet.{member}
use Rattle.rule.specs.Rule.{Rule, edge, edge_in}
use Rattle.rule.proofs.Edges.{member_edge_in}
use Rattle.word.specs.Walk.{letter_at, rounds}
use Rattle.word.specs.Lasso.{Leads}
use Rattle.word.proofs.Paths.{rounds_add, leads_append, leads_repeat}
use Rattle.word.proofs.Periods.{Periodic}
use Rattle.word.proofs.Positions.{letter_behind, letter_unrolled, length_rounds}
use Rattle.word.proofs.Traces.{Trace, place_of, leads_trace}
use Rattle.word.proofs.LassoToRun.{next_place}
use Rattle.history.specs.Rounds.{round_tree, FirstRepeat}
use Rattle.history.proofs.Walk.Stretches.{length_lead}
use Rattle.history.proofs.Walk.TreesOfWalk.{tree_at, walk_periodic}

-- THE WAYS INTO IT

-- a path to a loop, and some turns of the loop
pub leads_into : (R : Rule) (u v : List ℕ) (i j s c t d : ℕ) → Leads R (u ++ rounds i v) s c t → Leads R (rounds j v) t d t
    → (k : ℕ) → 1 ≤ k → Leads R (u ++ rounds (i + k * j) v) s (bit_or c d) t
leads_into R u v i j s c t d lead loop k h =
    rw (rounds_add i (k * j) v, ← append_assoc u (rounds i v) (rounds (k * j) v))
    (leads_append R (u ++ rounds i v) (rounds (k * j) v) s c t d t lead (leads_repeat R v t d j k h loop))

-- AROUND IT

-- from the end of round r on: the letters of the walk, the trees of R, and the states of a run of S around a loop that begins in a state
-- and takes some sets. All return after one period.
pub record Around (R S : Rule) (u v : List ℕ) (r begin sets : ℕ) : Type 0 where
  pub period : ℕ
  pub positive : 0 < period
  pub letter_back : Periodic period (λ d. letter_at u v (length u + r * length v + d))
  pub tree_back : Periodic period (λ d. tree_at R u v (length u + r * length v + d))
  pub state : ℕ → ℕ
  pub state_back : Periodic period state
  pub begins : state 0 ≡ begin
  pub moves : (d : ℕ) → edge S.grid (letter_at u v (length u + r * length v + d)) (state d) (state (suc d)) ≡ true
  pub takes : (i : ℕ) → member sets i ≡ true
      → (d : ℕ) × (edge_in S.grid (suc i) (letter_at u v (length u + r * length v + d)) (state d) (state (suc d)) ≡ true)

module _ (u v : List ℕ) (filled : 1 ≤ length v) (turns : ℕ) (positive : 1 ≤ turns) (r : ℕ) where
  -- the letters of one turn
  turn : List ℕ
  turn = rounds turns v

  turn_filled : 0 < length turn
  unfolding turn
  turn_filled = rw length_rounds (mul-pos positive filled)

  letter : (d : ℕ) → letter_at u v (length u + r * length v + d) ≡ get_or turn (d % length turn) 0
  unfolding turn
  letter d =
      sym (letter_unrolled u v r turns positive filled (length u + r * length v + d))
      ∙ ap (λ x. letter_at (u ++ rounds r v) (rounds turns v) (x + d)) (sym (length_lead u v r))
      ∙ letter_behind (u ++ rounds r v) (rounds turns v) d

  -- the run around a loop, from the end of a round on from which the trees repeat: all return after p turns of the loop
  pub around : (R S : Rule) (entry period : ℕ) → FirstRepeat (round_tree R u v) entry period → entry ≤ r
      → (begin sets : ℕ) → Leads S (rounds turns v) begin sets begin → Around R S u v r begin sets
  unfolding turn
  around R S entry period F late begin sets loop = record {
    period = period * length turn;
    positive = mul-pos F.positive turn_filled;
    letter_back = λ d. rw (letter (d + period * length turn), letter d, add-mul-mod_self_right);
    tree_back = λ d.
        let from = length u + r * length v in
        let e : from + (d + period * length turn) ≡ from + d + turns * (period * length v) = rw length_rounds (omega arith) in
        ap (tree_at R u v) e ∙ walk_periodic R u v filled entry period F turns (from + d)
        (omega (arith, mul-le-mul_right (length v) late));
    state = state;
    state_back = λ d. ap trace.state (add-mul-mod_self_right d period (length turn));
    begins = ap trace.state (zero-mod (length turn)) ∙ trace.enters;
    moves = moves;
    takes = λ i h.
        let (q, l, in-set) = place_of S turn trace.state i (rw trace.sets at h) in
        let e : q % length turn ≡ q = mod-eq_of_lt l in
        let now : state q ≡ trace.state q = ap trace.state e in
        (q, member_edge_in S.grid i _ _ _ (moves q) (rw (letter q, next q, now, e) in-set));
  }
    where
      trace : Trace S turn begin sets begin
      trace = leads_trace S (rounds turns v) begin sets begin loop

      state : ℕ → ℕ
      state d = trace.state (d % length turn)

      next : (d : ℕ) → state (suc d) ≡ trace.state (suc (d % length turn))
      next = next_place (length turn) trace.state turn_filled (trace.leaves ∙ sym trace.enters)

      moves : (d : ℕ) → edge S.grid (letter_at u v (length u + r * length v + d)) (state d) (state (suc d)) ≡ true
      moves d = rw (letter d, next d) (trace.moves (d % length turn) (mod-lt d turn_filled))
