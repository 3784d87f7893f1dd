-- Why a yes of the tree judge is right. Take a node that stays, and look at a state of its label some letters later.
-- Between one accepting letter and the next it is reached by a path that takes the active set; the active set then moves
-- on; so over k accepting letters in a row all k sets are taken. If the node returns after that, each state of its label
-- is reached from a state of the same label taking every set. Go backwards often enough: two of the states are the same.
use mathlib.Core.Path.{◌≡◌, refl, sym, ◌∙◌, ap, subst}
use mathlib.Core.Logic.{◌⊎◌, inl, inr, ⊎_elim}
use mathlib.Core.Bool.{true, false}
use mathlib.Core.List.{List, [], ◌∷◌, ◌++◌, append-nil}
use Prim.Native.Nat.{ℕ, zero, suc, ◌+◌, ◌*◌, ◌-◌, ◌≤◌, ◌<◌, pred}
use native.Mathlib.Omega.{arith}
use native.Mathlib.Nat.{add-suc, add-zero, zero-add, suc-add, zero-mul}
use native.Mathlib.Numerals.{add-one}
use native.Mathlib.Decide.{dec_lt, ℕ_discrete}
use borrow.Author.Tests.{lt-ltb, le-ltb}
use lib.Bits.{bit_or}
use lib.ListN.{length}
use Rattle.base.specs.BitSet.{member, Subset}
use Rattle.base.proofs.Logic.{look, clash, or_l, or_r}
use Rattle.base.proofs.BitSet.{member_none, member_union}
use Rattle.rule.specs.Rule.{Grid, Rule, edge, edge_in, cell_at, successors}
use Rattle.rule.proofs.Edges.{edge_in_edge, edge_in_member}
use Rattle.word.specs.Walk.{letter_at, rounds}
use Rattle.word.specs.Lasso.{Leads}
use Rattle.word.proofs.Paths.{rounds_mul, leads_one, leads_append}
use Rattle.word.proofs.Pigeonhole.{pigeonhole}
use Rattle.history.specs.Tree.{labels}
use Rattle.history.specs.Letter.{next_set}
use Rattle.history.proofs.Step.LocalStep.{Branch, new_label, sprout_of, accepts, step_branch}
use Rattle.history.proofs.Walk.Stretches.{stretch, stretch_rounds}
use Rattle.history.proofs.Step.OneNode.{successors_out, successors_in_out, step_accepting, step_quiet, label_from, below_from, accepted_from}

-- THE ACTIVE SETS

-- the active set after c accepting letters
set_after : ℕ → ℕ → ℕ → ℕ
set_after k zero a = a
set_after k (suc c) a = next_set k (set_after k c a)

-- it climbs up to k, and then from 1 on
climbs : (k c a : ℕ) → a + c ≤ k → set_after k c a ≡ a + c
unfolding set_after next_set
climbs k zero a h = sym (add-zero a)
climbs k (suc c) a h = rw (climbs k c a (omega arith), lt-ltb (a + c) k (omega arith), add-suc)

wraps : (k c a : ℕ) → a ≤ k → suc c ≤ k → set_after k (c + suc (k - a)) a ≡ suc c
unfolding set_after next_set
wraps k zero a h l =
    let e : a + (k - a) ≡ k = omega arith in
    rw (zero-add, climbs k (k - a) a (omega arith), e, le-ltb k k (omega arith))
wraps k (suc c) a h l = rw (suc-add, wraps k c a h (omega arith), lt-ltb (suc c) k l)

-- so within k accepting letters every set is the active one
every_set : (k a s : ℕ) → 1 ≤ a → a ≤ k → s < k → (c : ℕ) × (1 ≤ c) × (c ≤ k) × (set_after k c a ≡ suc s)
every_set k a s low high l = go (dec_lt s a)
  where
    go : Dec (s < a) → (c : ℕ) × (1 ≤ c) × (c ≤ k) × (set_after k c a ≡ suc s)
    go (yes h) = (s + suc (k - a), omega arith, omega arith, wraps k s a high l)
    go (no h) =
        let e : a + (suc s - a) ≡ suc s = omega arith in
        (suc s - a, omega arith, omega arith, climbs k (suc s - a) a (omega arith) ∙ e)

-- PATHS

-- a transition of a set, and its bit
takes_set : (grid : Grid) (i a q r : ℕ) → edge_in grid i a q r ≡ true → member (cell_at grid a q r) (pred i) ≡ true
unfolding edge_in
takes_set grid zero a q r h = clash refl h
takes_set grid (suc i) a q r h = edge_in_member grid i a q r h

-- a path over w back to where it began, from a state of a set, that takes every set of the rule
pub record Return (R : Rule) (label : ℕ) (w : List ℕ) : Type 0 where
  pub state : ℕ
  pub held : member label state ≡ true
  pub turns : ℕ
  pub positive : 1 ≤ turns
  pub sets : ℕ
  pub path : Leads R (rounds turns w) state sets state
  pub every : (i : ℕ) → i < R.sets → member sets i ≡ true

-- GOING BACK

-- a path over w that takes every set
record Full (R : Rule) (w : List ℕ) (s t : ℕ) : Type 0 where
  sets : ℕ
  path : Leads R w s sets t
  every : (i : ℕ) → i < R.sets → member sets i ≡ true

full_join : (R : Rule) (w w' : List ℕ) (r s t : ℕ) → Full R w r s → Full R w' s t → Full R (w ++ w') r t
full_join R w w' r s t p p' = record {
  sets = bit_or p.sets p'.sets;
  path = leads_append R w w' r p.sets s p'.sets t p.path p'.path;
  every = λ i l. member_union p.sets p'.sets i ∙ or_l _ _ (p.every i l);
}

-- each state of a label has a predecessor in it
module _ (R : Rule) (label : ℕ) (w : List ℕ) (small : (q : ℕ) → member label q ≡ true → q < R.states)
    (before : (q : ℕ) → member label q ≡ true → (s : ℕ) × (member label s ≡ true) × Full R w s q)
    (q : ℕ) (h : member label q ≡ true) where
  -- so there are predecessors without end
  ancestor : ℕ → (s : ℕ) × (member label s ≡ true)
  ancestor zero = (q, h)
  ancestor (suc i) = ((before (ancestor i).0 (ancestor i).1).0, (before (ancestor i).0 (ancestor i).1).1)

  descends : (i d : ℕ) → Full R (rounds (suc d) w) (ancestor (i + suc d)).0 (ancestor i).0
  unfolding ancestor rounds
  descends i zero = rw (add-one, append-nil) (before (ancestor i).0 (ancestor i).1).2
  descends i (suc d) =
      let (s, held) = ancestor (i + suc d) in
      rw add-suc (full_join R w (rounds (suc d) w) _ s (ancestor i).0 (before s held).2 (descends i d))

  -- and two of them are the same
  returns : Return R label w
  returns = go (pigeonhole R.states (λ i. (ancestor i).0) (λ i _. small (ancestor i).0 (ancestor i).1))
    where
      go : (i : ℕ) × (j : ℕ) × (i < j) × (j ≤ R.states) × ((ancestor i).0 ≡ (ancestor j).0) → Return R label w
      go (i, j, l, _, e) =
          let z : i + suc (j - suc i) ≡ j = omega arith in
          let f : Full R (rounds (suc (j - suc i)) w) (ancestor i).0 (ancestor i).0 = rw (z, ← e) at (descends i (j - suc i)) in
          record {
            state = (ancestor i).0;
            held = (ancestor i).1;
            turns = suc (j - suc i);
            positive = omega arith;
            sets = f.sets;
            path = f.path;
            every = f.every;
          }

module _ (R : Rule) (letter : ℕ → ℕ) (node : ℕ → Branch) (older : ℕ → ℕ)
    (stays : (d : ℕ) → node (suc d) ≡ step_branch R (letter d) (older d) (node d)) where
  -- FROM ACCEPTING LETTER TO ACCEPTING LETTER

  -- q is reached after d letters from the first label, taking the sets that were active after 1 to c - 1 accepting letters
  record Reached (d c q : ℕ) : Type 0 where
    source : ℕ
    held : member (node 0).top.label source ≡ true
    sets : ℕ
    path : Leads R (stretch letter d) source sets q
    takes : (i : ℕ) → 1 ≤ i → i < c → member sets (pred (set_after R.sets i (node 0).top.active)) ≡ true

  -- one transition more; and one of the set that is due
  goes_on : (d c q r : ℕ) → Reached d c q → edge R.grid (letter d) q r ≡ true → Reached (suc d) c r
  unfolding stretch
  goes_on d c q r p e = record {
    source = p.source;
    held = p.held;
    sets = bit_or p.sets (cell_at R.grid (letter d) q r);
    path = leads_append R (stretch letter d) (letter d ∷ []) p.source p.sets q _ r p.path (leads_one R (letter d) q r e);
    takes = λ i l h. member_union p.sets _ _ ∙ or_l _ _ (p.takes i l h);
  }

  goes_by : (d c q r : ℕ) → Reached d c q → edge_in R.grid (set_after R.sets c (node 0).top.active) (letter d) q r ≡ true
      → Reached (suc d) (suc c) r
  unfolding goes_on
  goes_by d c q r p e = record {
    source = on.source;
    held = on.held;
    sets = on.sets;
    path = on.path;
    takes = λ i l h. takes i l h (ℕ_discrete i c);
  }
    where
      on : Reached (suc d) c r
      on = goes_on d c q r p (edge_in_edge R.grid _ (letter d) q r e)

      takes : (i : ℕ) → 1 ≤ i → i < suc c → Dec (i ≡ c) → member on.sets (pred (set_after R.sets i (node 0).top.active)) ≡ true
      takes i l h (yes z) = rw z (member_union p.sets _ _ ∙ or_r (member p.sets _) _ (takes_set R.grid _ (letter d) q r e))
      takes i l h (no z) = on.takes i l (omega arith)

  -- c of the first d letters were accepting
  record Since (d c : ℕ) : Type 0 where
    active : (node d).top.active ≡ set_after R.sets c (node 0).top.active
    in_label : (q : ℕ) → member (node d).top.label q ≡ true → Reached d c q
    in_below : (q : ℕ) → member (labels (node d).below) q ≡ true → Reached d (suc c) q

  begun : Subset (labels (node 0).below) (node 0).top.label → Since 0 0
  unfolding set_after stretch
  begun inside = record { active = refl; in_label = λ q h. here q h 0 (omega arith); in_below = λ q h. here q (inside q h) 1 (omega arith) }
    where
      here : (q : ℕ) → member (node 0).top.label q ≡ true → (c : ℕ) → c ≤ 1 → Reached 0 c q
      here q h c l = record { source = q; held = h; sets = 0; path = (refl, refl); takes = λ i m n. absurd (omega arith) }

  module _ (d c : ℕ) (S : Since d c) where
    -- a state of the new label is reached as before; a state below by a path that takes the active set too
    label_reached : (q : ℕ) → member (new_label R (letter d) (older d) (node d).top) q ≡ true → Reached (suc d) c q
    label_reached q h =
        let (p, m, e) = successors_out R (letter d) (node d).top.label q (label_from R (letter d) (older d) (node d).top q h).0 in
        goes_on d c p q (S.in_label p m) e

    below_reached : (q : ℕ)
        → (member (successors R (letter d) (labels (node d).below)) q ≡ true) ⊎ (member (sprout_of R (letter d) (node d).top) q ≡ true)
        → Reached (suc d) (suc c) q
    unfolding sprout_of
    below_reached q (inl h) =
        let (p, m, e) = successors_out R (letter d) (labels (node d).below) q h in goes_on d (suc c) p q (S.in_below p m) e
    below_reached q (inr h) =
        let (p, m, e) = successors_in_out R (node d).top.active (letter d) (node d).top.label q h in
        goes_by d c p q (S.in_label p m) (subst (λ i. edge_in R.grid i (letter d) p q ≡ true) S.active e)

    quiet : accepts R (letter d) (older d) (node d) ≡ false → Since (suc d) c
    quiet e =
        let z = stays d ∙ step_quiet R (letter d) (older d) (node d) e in
        record {
          active = rw z S.active;
          in_label = λ q h. label_reached q (rw z at h);
          in_below = λ q h. below_reached q (below_from R (letter d) (older d) (node d) q (rw z at h));
        }

    accepting : accepts R (letter d) (older d) (node d) ≡ true → Since (suc d) (suc c)
    unfolding set_after labels
    accepting e =
        let z = stays d ∙ step_accepting R (letter d) (older d) (node d) e in
        record {
          active = rw z (ap (next_set R.sets) S.active);
          in_label = λ q h. below_reached q (accepted_from R (letter d) (older d) (node d) q e (rw z at h));
          in_below = λ q h. clash (member_none q) (rw z at h);
        }

  -- further letters, accepting or not
  further : (d c e : ℕ) → Since d c → (c' : ℕ) × (c ≤ c') × Since (d + e) c'
  further d c zero S = (c, omega arith, rw add-zero S)
  further d c (suc e) S = go (further d c e S)
    where
      go : (c' : ℕ) × (c ≤ c') × Since (d + e) c' → (c' : ℕ) × (c ≤ c') × Since (d + suc e) c'
      go (c', l, T) = ⊎_elim (λ h. (suc c', omega arith, rw add-suc (accepting (d + e) c' T h)))
          (λ h. (c', l, rw add-suc (quiet (d + e) c' T h)))
          (look (accepts R (letter (d + e)) (older (d + e)) (node (d + e))))

  -- the node accepts at place r of each of the periods
  module _ (inside : Subset (labels (node 0).below) (node 0).top.label) (period r : ℕ) (within : r < period)
      (again : (j : ℕ) → accepts R (letter (r + j * period)) (older (r + j * period)) (node (r + j * period)) ≡ true) where
    periods : (j : ℕ) → (c : ℕ) × (j ≤ c) × Since (j * period) c
    periods zero = (0, omega arith, rw zero-mul (begun inside))
    periods (suc j) = go (periods j)
      where
        go : (c : ℕ) × (j ≤ c) × Since (j * period) c → (c : ℕ) × (suc j ≤ c) × Since (suc j * period) c
        go (c, l, S) =
            let (c', l', S') = further (j * period) c r S in
            let x : j * period + r ≡ r + j * period = omega arith in
            let T = accepting (r + j * period) c' (rw x at S') (again j) in
            let (c'', l'', T') = further (suc (r + j * period)) (suc c') (period - suc r) T in
            let y : suc (r + j * period) + (period - suc r) ≡ suc j * period = omega arith in
            (c'', omega arith, rw y at T')

    -- the node's states are states of the rule, its active set is one of the rule's sets, and its label is back after
    -- one period more than there are sets: then a state of its label returns, taking every set
    pub loops_back : 1 ≤ (node 0).top.active → (node 0).top.active ≤ R.sets
        → ((q : ℕ) → member (node 0).top.label q ≡ true → q < R.states)
        → (node (suc R.sets * period)).top.label ≡ (node 0).top.label
        → (q : ℕ) → member (node 0).top.label q ≡ true → Return R (node 0).top.label (stretch letter (suc R.sets * period))
    loops_back low high small back =
        returns R (node 0).top.label (stretch letter (suc R.sets * period)) small (λ q h. go q h (periods (suc R.sets)))
      where
        go : (q : ℕ) → member (node 0).top.label q ≡ true
            → (c : ℕ) × (suc R.sets ≤ c) × Since (suc R.sets * period) c
            → (s : ℕ) × (member (node 0).top.label s ≡ true) × Full R (stretch letter (suc R.sets * period)) s q
        go q h (c, l, S) = let p = S.in_label q (rw back h) in (
          p.source,
          p.held,
          record {
            sets = p.sets;
            path = p.path;
            every = λ i b. let (j, from, upto, e) = every_set R.sets (node 0).top.active i low high b in
                subst (λ x. member p.sets (pred x) ≡ true) e (p.takes j from (omega arith));
          },
        )

-- OVER THE ROUNDS OF A WALK

-- a return over j times p rounds, from the end of a round on, is a path over tails
pub return_rounds : (R : Rule) (u v : List ℕ) (r j p label : ℕ) → 1 ≤ length v → 1 ≤ j * p
    → (x : Return R label (stretch (λ d. letter_at u v (length u + r * length v + d)) (j * (p * length v))))
    → Leads R (rounds (x.turns * (j * p)) v) x.state x.sets x.state
return_rounds R u v r j p label filled positive x =
    let e : j * (p * length v) ≡ j * p * length v = omega arith in
    rw (rounds_mul, ← stretch_rounds u v filled r (j * p) positive, ← e) x.path
