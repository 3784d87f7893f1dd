-- The two halves of the tree theorem, for siblings that follow one another letter by letter, whatever is sprouted beside them:
-- a name that is kept at every letter and accepts once in each period gives a path that returns and takes every set; a run that
-- returns and takes every set gives a name that is kept at every letter and accepts at one. A whole tree is one root without a sprout.
use mathlib.Core.Path.{◌≡◌, refl, sym, ◌∙◌}
use mathlib.Core.Bool.{true, false, not}
use mathlib.Core.List.{List, [], ◌∷◌}
use Prim.Native.Nat.{ℕ, zero, suc, ◌+◌, ◌*◌, ◌≤◌, ◌<◌}
use borrow.Author.Tests.{eqb-false}
use lib.Bits.{bit_or}
use lib.Dec.{eqb}
use Rattle.base.specs.BitSet.{member, Subset}
use Rattle.base.proofs.Logic.{clash, and_both, and_in, not_in}
use Rattle.base.proofs.BitSet.{member_none, some_member}
use Rattle.rule.specs.Rule.{Rule, edge, edge_in}
use Rattle.rule.specs.WellFormed.{WellFormed}
use Rattle.word.proofs.Periods.{Periodic}
use Rattle.history.specs.Forest.{nil, node}
use Rattle.history.specs.Tree.{Tree, labels}
use Rattle.history.proofs.Tree.Conditions.{Fits}
use Rattle.history.proofs.Step.LocalStep.{new_label, step, Branch, branch_at, survive, taken, accepts, step_branch, branch_of, taken_at, name_kept, kept_among, accepts_among}
use Rattle.history.proofs.Step.OneNode.{place_of, holds_at_place, successors_out, branch_step, name_step, label_from, stays_among, place_falls, place_same}
use Rattle.history.proofs.Step.BranchFits.{label_inside, branch_fits, name_fits}
use Rattle.history.proofs.Walk.Stretches.{stretch}
use Rattle.history.proofs.Theorem.BetweenBreakpoints.{Return, loops_back}
use Rattle.history.proofs.Theorem.Descent.{level, Home, kept_name}

-- a node that survives has a label
module _ (R : Rule) (a : ℕ) where
  survivor_label : (older : ℕ) (T : Tree) (i : ℕ) → survive R a older T i ≡ true
      → eqb (new_label R a (taken R a older T i) (branch_at T i).top) 0 ≡ false
  unfolding survive taken branch_at
  survivor_label older nil i h = clash refl h
  survivor_label older (node x below younger) zero h = not_in _ h
  survivor_label older (node x below younger) (suc i) h =
      survivor_label (bit_or older (new_label R a older x)) younger i (and_in (not (eqb (new_label R a older x) 0)) _ h).1

  kept_label : (w : List ℕ) (older : ℕ) (b : Branch) → eqb (new_label R a older b.top) 0 ≡ false → name_kept R a older b w ≡ true
      → eqb (new_label R a (taken_at R a older b w) (branch_of b w).top) 0 ≡ false
  unfolding name_kept taken_at branch_of
  kept_label [] older b e h = e
  kept_label (i ∷ w) older b e h =
      let (_, rest) = and_in (not (accepts R a older b)) _ h in
      let (alive, kept) = and_in (survive R a older b.below i) _ rest in
      kept_label w (taken R a older b.below i) (branch_at b.below i) (survivor_label older b.below i alive) kept

-- the name i ∷ w is kept at every letter and accepts at one
pub record LocalWitness (R : Rule) (letter : ℕ → ℕ) (siblings : ℕ → Tree) (i : ℕ) (w : List ℕ) : Type 0 where
  pub stays : (d : ℕ) → kept_among R (letter d) 0 (siblings d) i w ≡ true
  pub place : ℕ
  pub accepts : accepts_among R (letter place) 0 (siblings place) i w ≡ true

module _ (R : Rule) (letter sprout : ℕ → ℕ) (siblings : ℕ → Tree)
    (next : (d : ℕ) → siblings (suc d) ≡ step R (letter d) 0 (sprout d) (siblings d)) where
  -- a sibling that survives goes on as a branch by itself
  branch_stays : (i d : ℕ) → survive R (letter d) 0 (siblings d) i ≡ true
      → branch_at (siblings (suc d)) i ≡ step_branch R (letter d) (taken R (letter d) 0 (siblings d) i) (branch_at (siblings d) i)
  branch_stays i d h = rw (next d) (branch_step R (letter d) 0 (sprout d) (siblings d) i h)

  -- FROM A NAME TO A LOOP

  module _ (fits : Fits R.sets (siblings 0)) (small : (s : ℕ) → member (labels (siblings 0)) s ≡ true → s < R.states)
      (i : ℕ) (w : List ℕ) (kept : (d : ℕ) → kept_among R (letter d) 0 (siblings d) i w ≡ true) where
    at : ℕ → Branch
    at d = branch_of (branch_at (siblings d) i) w

    older : ℕ → ℕ
    older d = taken_at R (letter d) (taken R (letter d) 0 (siblings d) i) (branch_at (siblings d) i) w

    stays : (d : ℕ) → at (suc d) ≡ step_branch R (letter d) (older d) (at d)
    unfolding at older kept_among
    stays d =
        let (alive, name) = and_in (survive R (letter d) 0 (siblings d) i) _ (kept d) in
        rw (branch_stays i d alive) (name_step R (letter d) w (taken R (letter d) 0 (siblings d) i) (branch_at (siblings d) i) name)

    -- its label has a state
    held_state : (q : ℕ) × (member (at 0).top.label q ≡ true)
    unfolding at older kept_among
    held_state =
        let (alive, name) = and_in (survive R (letter 0) 0 (siblings 0) i) _ (kept 0) in
        let top = survivor_label R (letter 0) 0 (siblings 0) i alive in
        let (r, m) = some_member _
        (eqb-false _ 0 (kept_label R (letter 0) w (taken R (letter 0) 0 (siblings 0) i) (branch_at (siblings 0) i) top name)) in
        let (q, h, _) = successors_out R (letter 0) (at 0).top.label r (label_from R (letter 0) (older 0) (at 0).top r m).0 in
        (q, h)

    -- where it accepts once in each period, and the siblings return
    pub name_returns : (period r : ℕ) → r < period
        → ((j : ℕ) → accepts_among R (letter (r + j * period)) 0 (siblings (r + j * period)) i w ≡ true)
        → siblings (suc R.sets * period) ≡ siblings 0 → Return R (labels (siblings 0)) (stretch letter (suc R.sets * period))
    unfolding at older accepts_among
    name_returns period r within again back =
        let (f, inside) = name_fits R.sets w (branch_at (siblings 0) i) (branch_fits R.sets (siblings 0) fits i) in
        let (q, h) = held_state in
        let (low, high) = f.active q h in
        let held : Subset (at 0).top.label (labels (siblings 0)) = λ s m. label_inside (siblings 0) i s (inside s m) in
        let same : (at (suc R.sets * period)).top.label ≡ (at 0).top.label = rw back in
        let x = loops_back R letter at older stays f.inside period r within again low high (λ s m. small s (held s m)) same q h in
        record {
          state = x.state;
          held = held x.state x.held;
          turns = x.turns;
          positive = x.positive;
          sets = x.sets;
          path = x.path;
          every = x.every;
        }

  -- FROM A RUN TO A NAME

  module _ (well : WellFormed R) (fits : Fits R.sets (siblings 0)) (period : ℕ) (positive : 0 < period)
      (letter_back : Periodic period letter) (siblings-back : Periodic period siblings)
      (state : ℕ → ℕ) (moves : (d : ℕ) → edge R.grid (letter d) (state d) (state (suc d)) ≡ true)
      (state_back : Periodic period state)
      (takes : (i : ℕ) → 1 ≤ i → i ≤ R.sets → (d : ℕ) × (edge_in R.grid i (letter d) (state d) (state (suc d)) ≡ true))
      (begins : member (labels (siblings 0)) (state 0) ≡ true) where
    -- the run is among the siblings always
    among : (d : ℕ) → member (labels (siblings d)) (state d) ≡ true
    among zero = begins
    among (suc d) =
        rw (next d) (stays_among R (letter d) well 0 (sprout d) (siblings d) (state d) (state (suc d)) (among d) (moves d)
        (member_none (state (suc d))))

    -- in the same sibling, always
    place : ℕ → ℕ
    place d = place_of (state d) (siblings d)

    same_place : (d : ℕ) → place d ≡ place 0
    unfolding place
    same_place = level period positive place (λ d. rw (siblings-back d, state_back d))
        (λ d. rw (next d) (place_falls R (letter d) well 0 (sprout d) (siblings d) (state d) (state (suc d)) (among d) (moves d)
        (member_none (state (suc d)))))

    survives : (d : ℕ) → survive R (letter d) 0 (siblings d) (place 0) ≡ true
    unfolding place
    survives d =
        let e = rw (next d) at (same_place (suc d) ∙ sym (same_place d)) in
        rw (same_place d) at (place_same R (letter d) well 0 (sprout d) (siblings d) (state d) (state (suc d)) (among d) (moves d)
        (member_none (state (suc d))) e).0

    -- which is a node that stays
    home : Home R well letter period positive letter_back state moves state_back takes (λ d. branch_at (siblings d) (place 0))
        (λ d. taken R (letter d) 0 (siblings d) (place 0))
    unfolding place
    home = record {
      stays = λ d. branch_stays (place 0) d (survives d);
      back = λ d. rw (siblings-back d);
      older_back = λ d. rw (letter_back d, siblings-back d);
      holds = λ d. rw (same_place d) at (holds_at_place (state d) (siblings d) (among d));
      fits = branch_fits R.sets (siblings 0) fits (place 0);
    }

    -- so some name, from that sibling on, is kept at every letter and accepts at one
    pub run_named : (w : List ℕ) × LocalWitness R letter siblings (place_of (state 0) (siblings 0)) w
    unfolding place kept_among accepts_among
    run_named =
        let K = kept_name R well letter period positive letter_back state moves state_back takes (λ d. branch_at (siblings d) (place 0))
        (λ d. taken R (letter d) 0 (siblings d) (place 0)) home in (
          K.name,
          record {
            stays = λ d. and_both (survive R (letter d) 0 (siblings d) (place 0)) _ (survives d) (K.keeps d);
            place = K.place;
            accepts = K.accepted;
          },
        )
