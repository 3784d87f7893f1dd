-- Why acceptance and loops are defined as they are: each clause is needed. Four variants, each with one clause
-- weakened or narrowed, are told from the definitions by a rule of one or two states over the walk 0 0 0 ….
use mathlib.Core.Path.{◌≡◌, refl, ap, ◌∙◌}
use mathlib.Core.Bool.{true}
use mathlib.Core.List.{List, [], ◌∷◌, ◌++◌}
use Prim.Native.Nat.{ℕ, zero, suc, ◌≤◌, ◌<◌}
use native.Mathlib.Omega.{arith}
use native.Mathlib.Nat.{zero-add, mod-one}
use lib.Dec.{lit<}
use lib.ListN.{length, get_or}
use Rattle.base.specs.BitSet.{member}
use Rattle.base.proofs.Logic.{clash}
use Rattle.base.proofs.BitSet.{member_lt}
use Rattle.rule.specs.Rule.{Rule, edge, edge_in, cell_at}
use Rattle.rule.specs.WellFormed.{WellFormed, start_fits, bytes_fit}
use Rattle.word.specs.Walk.{letter_at, rounds}
use Rattle.word.specs.Run.{Run, Takes, AcceptingRun}
use Rattle.word.specs.Lasso.{Leads, Lasso}
use Rattle.word.specs.Keeps.{Keeps, KeepsByLasso}
use Rattle.word.proofs.Paths.{rounds_one, one_leads}
use Rattle.word.proofs.Positions.{letter_behind}
use Rattle.word.proofs.LassoToRun.{lasso_run}

-- THE WALK AND THE RULES

-- the walk 0 0 0 …
abbrev pub zero_tail : List ℕ
zero_tail = 0 ∷ []

pub nonempty : zero_tail ≡ [] → ⊥
nonempty e = omega (arith, ap length e)

-- every letter is 0
letter : (p : ℕ) → letter_at [] zero_tail p ≡ 0
letter p = (rw zero-add at (letter_behind [] zero_tail p)) ∙ ap (λ x. get_or zero_tail x 0) (mod-one p)

-- a rule with one letter, one set and the starting state 0
abbrev pub small : ℕ → List (List ℕ) → Rule
small n square = record { states = n; letters = 1; sets = 1; start = 1; grid = square ∷ [] }

-- without an accepting run there is no loop
pub no_lasso : (R : Rule) → (AcceptingRun R [] zero_tail → ⊥) → Lasso R [] zero_tail → ⊥
no_lasso R none L = none (lasso_run R [] zero_tail nonempty L)

-- EACH SET INFINITELY OFTEN, NOT ONLY ONCE

-- the variant: a run that takes each set at least once
record OnceRun (R : Rule) (u v : List ℕ) : Type 0 where
  run : Run R u v
  once : (i : ℕ) → 1 ≤ i → i ≤ R.sets → (p : ℕ) × Takes run i p

-- state 0 goes to state 1 by set 1; state 1 only to itself, by no set
abbrev pub away : Rule
away = small 2 ((255 ∷ 1 ∷ []) ∷ (255 ∷ 0 ∷ []) ∷ [])

pub away_fits : WellFormed away
unfolding start_fits bytes_fit
away_fits = record { starts = refl; squares = refl; fits = ((refl, ((refl, refl), ((refl, refl), tt))), tt) }

away_to : (a q r : ℕ) → edge away.grid a q r ≡ true → r ≡ 1
unfolding edge cell_at
away_to (suc a) q r e = clash refl e
away_to zero (suc (suc q)) r e = clash refl e
away_to zero zero zero e = clash refl e
away_to zero zero (suc zero) e = refl
away_to zero zero (suc (suc r)) e = clash refl e
away_to zero (suc zero) zero e = clash refl e
away_to zero (suc zero) (suc zero) e = refl
away_to zero (suc zero) (suc (suc r)) e = clash refl e

away_set : (a r : ℕ) → edge_in away.grid 1 a 1 r ≡ true → ⊥
unfolding edge_in edge cell_at member
away_set (suc a) r e = clash refl e
away_set zero zero e = clash refl e
away_set zero (suc zero) e = clash refl e
away_set zero (suc (suc r)) e = clash refl e

abbrev away_state : ℕ → ℕ
away_state zero = 0
away_state (suc p) = 1

-- the run 0 1 1 1 … takes set 1 once
once_run : OnceRun away [] zero_tail
unfolding edge_in edge cell_at member
once_run = record { run = run; once = once }
  where
    moves : (p : ℕ) → edge away.grid (letter_at [] zero_tail p) (away_state p) (away_state (suc p)) ≡ true
    moves zero = rw letter
    moves (suc p) = rw letter

    run : Run away [] zero_tail
    run = record { state = away_state; starts = refl; moves = moves }

    once : (i : ℕ) → 1 ≤ i → i ≤ 1 → (p : ℕ) × Takes run i p
    once zero h k = absurd (omega arith)
    once (suc zero) h k = (0, rw letter)
    once (suc (suc i)) h k = absurd (omega arith)

-- but no run takes it infinitely often, and there is no loop
once_no_run : Keeps away [] zero_tail → ⊥
unfolding Keeps
once_no_run A = go (A.often 1 (omega arith) (omega arith) 1)
  where
    go : (p : ℕ) × (1 ≤ p) × Takes A.run 1 p → ⊥
    go (zero, h, t) = absurd (omega arith)
    go (suc p, h, t) = away_set _ _ (rw (away_to _ _ _ (A.run.moves p)) at t)

pub once_no_lasso : Lasso away [] zero_tail → ⊥
unfolding Keeps
once_no_lasso = no_lasso away once_no_run

-- LOOPS WITH OTHER CLAUSES

-- a loop, with clauses to choose: for the state that the lead comes from, the number of tails, and the sets
record LassoWith (From Turns Sets : ℕ → Type 0) (R : Rule) (u v : List ℕ) : Type 0 where
  origin : ℕ
  state : ℕ
  lead : ℕ
  turns : ℕ
  lead_sets : ℕ
  loop_sets : ℕ
  starts : From origin
  positive : Turns turns
  leads : Leads R (u ++ rounds lead v) origin lead_sets state
  loops : Leads R (rounds turns v) state loop_sets state
  every : Sets loop_sets

abbrev Anything : ℕ → Type 0
Anything _ = Unit {0}

abbrev Starting : Rule → ℕ → Type 0
Starting R s = member R.start s ≡ true

abbrev EverySet : Rule → ℕ → Type 0
EverySet R c = (i : ℕ) → i < R.sets → member c i ≡ true

-- with the clauses of the definition it is a loop
lasso_with : (R : Rule) (u v : List ℕ) → LassoWith (Starting R) (1 ≤◌) (EverySet R) R u v → Lasso R u v
lasso_with R u v L = record {
  origin = L.origin;
  state = L.state;
  lead = L.lead;
  turns = L.turns;
  lead_sets = L.lead_sets;
  loop_sets = L.loop_sets;
  starts = L.starts;
  positive = L.positive;
  leads = L.leads;
  loops = L.loops;
  every = L.every;
}

first_set : (i : ℕ) → i < 1 → member 1 i ≡ true
unfolding member
first_set zero h = refl
first_set (suc i) h = absurd (omega arith)

-- THE LEAD FROM A STARTING STATE, NOT FROM ANY STATE

-- state 0 goes nowhere; state 1 to itself by set 1
abbrev apart : Rule
apart = small 2 ((255 ∷ 255 ∷ []) ∷ (255 ∷ 1 ∷ []) ∷ [])

pub apart_fits : WellFormed apart
unfolding start_fits bytes_fit
apart_fits = record { starts = refl; squares = refl; fits = ((refl, ((refl, refl), ((refl, refl), tt))), tt) }

apart_from : (a r : ℕ) → edge apart.grid a 0 r ≡ true → ⊥
unfolding edge cell_at
apart_from (suc a) r e = clash refl e
apart_from zero zero e = clash refl e
apart_from zero (suc zero) e = clash refl e
apart_from zero (suc (suc r)) e = clash refl e

-- a loop whose lead starts at state 1, but no accepting run and no loop
any_start_lasso : LassoWith Anything (1 ≤◌) (EverySet apart) apart [] zero_tail
unfolding rounds edge cell_at
any_start_lasso = record {
  origin = 1;
  state = 1;
  lead = 0;
  turns = 1;
  lead_sets = 0;
  loop_sets = 1;
  starts = tt;
  positive = omega arith;
  leads = (refl, refl);
  loops = (1, 0, refl, (refl, refl), refl);
  every = first_set;
}

any_start_no_run : Keeps apart [] zero_tail → ⊥
unfolding Keeps
any_start_no_run A =
    let e : A.run.state 0 ≡ 0 = omega (arith, member_lt 1 1 (A.run.state 0) (lit< tt) A.run.starts) in
    apart_from _ _ (rw e at (A.run.moves 0))

any_start_no_lasso : KeepsByLasso apart [] zero_tail → ⊥
unfolding Keeps KeepsByLasso
any_start_no_lasso = no_lasso apart any_start_no_run

-- EVERY SET ON THE LOOP, NOT ANY SETS

-- state 0 goes to itself by no set
abbrev bare : Rule
bare = small 1 ((0 ∷ []) ∷ [])

pub bare_fits : WellFormed bare
unfolding start_fits bytes_fit
bare_fits = record { starts = refl; squares = refl; fits = ((refl, ((refl, refl), tt)), tt) }

bare_set : (a q r : ℕ) → edge_in bare.grid 1 a q r ≡ true → ⊥
unfolding edge_in edge cell_at member
bare_set (suc a) q r e = clash refl e
bare_set zero (suc q) r e = clash refl e
bare_set zero zero zero e = clash refl e
bare_set zero zero (suc r) e = clash refl e

-- a loop that takes no set, but no accepting run and no loop
any_sets_lasso : LassoWith (Starting bare) (1 ≤◌) Anything bare [] zero_tail
unfolding rounds edge cell_at member
any_sets_lasso = record {
  origin = 0;
  state = 0;
  lead = 0;
  turns = 1;
  lead_sets = 0;
  loop_sets = 0;
  starts = refl;
  positive = omega arith;
  leads = (refl, refl);
  loops = (0, 0, refl, (refl, refl), refl);
  every = tt;
}

any_sets_no_run : Keeps bare [] zero_tail → ⊥
unfolding Keeps
any_sets_no_run A = let (p, h, t) = A.often 1 (omega arith) (omega arith) 0 in bare_set _ _ _ t

any_sets_no_lasso : KeepsByLasso bare [] zero_tail → ⊥
unfolding Keeps KeepsByLasso
any_sets_no_lasso = no_lasso bare any_sets_no_run

-- ONE OR MORE TAILS, NOT ONE ONLY

-- state 0 goes to state 1, and state 1 to state 0, by set 1
abbrev swing : Rule
swing = small 2 ((255 ∷ 1 ∷ []) ∷ (1 ∷ 255 ∷ []) ∷ [])

swing_moves : (a q : ℕ) → edge swing.grid a q q ≡ true → ⊥
unfolding edge cell_at
swing_moves (suc a) q e = clash refl e
swing_moves zero zero e = clash refl e
swing_moves zero (suc zero) e = clash refl e
swing_moves zero (suc (suc q)) e = clash refl e

-- a loop of two tails, but none of one tail
two_tails_lasso : KeepsByLasso swing [] zero_tail
unfolding KeepsByLasso rounds edge cell_at member
two_tails_lasso = record {
  origin = 0;
  state = 0;
  lead = 0;
  turns = 2;
  lead_sets = 0;
  loop_sets = 1;
  starts = refl;
  positive = omega arith;
  leads = (refl, refl);
  loops = (1, 1, refl, (0, 0, refl, (refl, refl), refl), refl);
  every = first_set;
}

one_tail_no_lasso : LassoWith (Starting swing) (◌≡ 1) (EverySet swing) swing [] zero_tail → ⊥
one_tail_no_lasso L =
    let p : Leads swing zero_tail L.state L.loop_sets L.state = rw (L.positive, rounds_one) at L.loops in
    swing_moves 0 L.state (one_leads swing 0 L.state L.loop_sets L.state p).0
