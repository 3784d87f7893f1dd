-- Why a no of the tree judge is right. Tree and run return after a period, the run takes every set in it, and it is in
-- a node that stays. If the node accepts somewhere, it is a witness. If not, its active set stays the same; the run takes
-- it somewhere, and from there on it is in a child, hence always, for all returns. The child's place among its siblings
-- never rises and returns, so it is always the same: a child that stays, with fewer nodes below it. So the descent ends,
-- and it ends with a node that keeps its name and accepts.
use mathlib.Core.Path.{◌≡◌, refl, sym, ◌∙◌}
use mathlib.Core.Logic.{◌⊎◌, inl, inr, ⊎_elim}
use mathlib.Core.Bool.{Bool, true, false, not}
use mathlib.Core.List.{List, [], ◌∷◌}
use Prim.Native.Nat.{ℕ, zero, suc, ◌+◌, ◌*◌, ◌-◌, ◌%◌, ◌≤◌, ◌<◌, pred}
use native.Mathlib.Omega.{arith}
use native.Mathlib.Nat.{add-suc, add-zero, zero-add, mul-le-mul_left, mod-lt}
use Rattle.base.specs.BitSet.{member, some}
use Rattle.base.proofs.Logic.{look, clash, never, and_both, not_out}
use Rattle.base.proofs.BitSet.{member_none, some_in, some_out}
use Rattle.rule.specs.Rule.{Rule, edge, edge_in}
use Rattle.rule.specs.WellFormed.{WellFormed}
use Rattle.word.proofs.Periods.{Periodic, again, reduced}
use Rattle.history.specs.Forest.{nil, node, size}
use Rattle.history.specs.Tree.{Tree, labels}
use Rattle.history.proofs.Step.BranchFits.{BranchFits, branch_fits}
use Rattle.history.proofs.Step.LocalStep.{new_label, sprout_of, Branch, branch_at, survive, taken, new_below, accepts, step_branch, branch_of, taken_at, name_kept}
use Rattle.history.proofs.Step.OneNode.{place_of, holds_at_place, step_quiet, step_label, label_from, branch_step, enters_below, stays_among, place_falls, place_same}

-- WHAT RETURNS

module _ (period : ℕ) (positive : 0 < period) where
  -- what stays true once it is, is always true
  always : (f : ℕ → Bool) → Periodic period f → ((d : ℕ) → f d ≡ true → f (suc d) ≡ true)
      → (m : ℕ) → f m ≡ true → (d : ℕ) → f d ≡ true
  always f back stays m h d =
      let l : m ≤ d + m * period = omega (arith, mul-le-mul_left m positive) in
      let z : m + (d + m * period - m) ≡ d + m * period = omega arith in
      sym (again period f back m d) ∙ (rw z at (on (d + m * period - m)))
    where
      on : (e : ℕ) → f (m + e) ≡ true
      on zero = rw add-zero h
      on (suc e) = rw add-suc (stays (m + e) (on e))

  -- what never rises is always the same
  pub level : (f : ℕ → ℕ) → Periodic period f → ((d : ℕ) → f (suc d) ≤ f d) → (d : ℕ) → f d ≡ f 0
  level f back falls d =
      let z : d + (d * period - d) ≡ 0 + d * period = omega (arith, mul-le-mul_left d positive) in
      let l : f (0 + d * period) ≤ f d = rw z at (on d (d * period - d)) in
      let h : f (0 + d) ≤ f 0 = on 0 d in
      let h' : f d ≤ f 0 = rw zero-add at h in
      omega (arith, again period f back d 0)
    where
      on : (d e : ℕ) → f (d + e) ≤ f d
      on d zero = rw add-zero (omega arith)
      on d (suc e) = rw add-suc (omega (arith, falls (d + e), on d e))

-- THE NODES BELOW

-- the branch at a place has fewer nodes below it than there are
below_size : (T : Tree) (i : ℕ) → size (branch_at T i).below ≤ pred (size T)
unfolding size branch_at
below_size nil i = omega arith
below_size (node x below younger) zero = omega arith
below_size (node x below younger) (suc i) = omega (arith, below_size younger i)

some_nodes : (T : Tree) (q : ℕ) → member (labels T) q ≡ true → 0 < size T
unfolding size labels
some_nodes nil q h = clash (member_none q) h
some_nodes (node x below younger) q h = omega arith

module _ (R : Rule) (well : WellFormed R) (letter : ℕ → ℕ) (period : ℕ) (positive : 0 < period)
    (letter_back : Periodic period letter)
    (state : ℕ → ℕ) (moves : (d : ℕ) → edge R.grid (letter d) (state d) (state (suc d)) ≡ true)
    (state_back : Periodic period state)
    (takes : (i : ℕ) → 1 ≤ i → i ≤ R.sets → (d : ℕ) × (edge_in R.grid i (letter d) (state d) (state (suc d)) ≡ true)) where
  -- a node that stays, holds the run, and returns with it
  pub record Home (at : ℕ → Branch) (older : ℕ → ℕ) : Type 0 where
    pub stays : (d : ℕ) → at (suc d) ≡ step_branch R (letter d) (older d) (at d)
    pub back : Periodic period at
    pub older_back : Periodic period older
    pub holds : (d : ℕ) → member (at d).top.label (state d) ≡ true
    pub fits : BranchFits R.sets (at 0)

  -- a name from that node on, kept at every letter and accepting at one
  pub record Kept (at : ℕ → Branch) (older : ℕ → ℕ) : Type 0 where
    pub name : List ℕ
    pub keeps : (d : ℕ) → name_kept R (letter d) (older d) (at d) name ≡ true
    pub place : ℕ
    pub accepted : accepts R (letter place) (taken_at R (letter place) (older place) (at place) name) (branch_of (at place) name) ≡ true

  module _ (at : ℕ → Branch) (older : ℕ → ℕ) (H : Home at older) where
    open H use {stays, back, older_back, holds}

    -- nobody older has the run's next state
    free : (d : ℕ) → member (older d) (state (suc d)) ≡ false
    free d =
        (label_from R (letter d) (older d) (at d).top (state (suc d))
        (rw (stays d, step_label R (letter d) (older d) (at d)) at (holds (suc d)))).1

    accepting : ℕ → Bool
    accepting d = accepts R (letter d) (older d) (at d)

    accepting_back : Periodic period accepting
    unfolding accepting
    accepting_back d = rw (letter_back d, older_back d, back d)

    -- it accepts within a period, or never
    accepts_or_not : ((d : ℕ) × (accepting d ≡ true)) ⊎ ((d : ℕ) → accepting d ≡ false)
    accepts_or_not = ⊎_elim (λ h. let (d, _, e) = some_out period accepting h in inl (d, e))
        (λ h. inr (λ d. reduced period accepting accepting_back d
        ∙ never _ (λ e. clash h (some_in period accepting (d % period) (mod-lt d positive) e))))
        (look (some period accepting))

    module _ (quiet : (d : ℕ) → accepting d ≡ false) where
      next : (d : ℕ) → at (suc d) ≡ record {
        top = record { label = new_label R (letter d) (older d) (at d).top; active = (at d).top.active };
        below = new_below R (letter d) (older d) (at d);
      }
      unfolding accepting
      next d = stays d ∙ step_quiet R (letter d) (older d) (at d) (quiet d)

      same_set : (d : ℕ) → (at d).top.active ≡ (at 0).top.active
      same_set zero = refl
      same_set (suc d) = rw (next d) (same_set d)

      -- the run is in the children, always
      in_below : ℕ → Bool
      in_below d = member (labels (at d).below) (state d)

      below_always : (d : ℕ) → in_below d ≡ true
      unfolding in_below new_below
      below_always = let (low, high) = H.fits.active (state 0) (holds 0) in go (takes (at 0).top.active low high)
        where
          go : (m : ℕ) × (edge_in R.grid (at 0).top.active (letter m) (state m) (state (suc m)) ≡ true) → (d : ℕ) → in_below d ≡ true
          go (m, e) =
              always period positive in_below (λ d. rw (back d, state_back d))
              (λ d h. rw (next d) (stays_among R (letter d) well (older d) _ (at d).below (state d) (state (suc d)) h (moves d) (free d)))
              (suc m)
              (rw (next m)
              (enters_below R (letter m) well (older m) (at m) (state m) (state (suc m)) (holds m) (rw (same_set m) e) (free m)))

      -- in the same child, always
      place : ℕ → ℕ
      place d = place_of (state d) (at d).below

      same_place : (d : ℕ) → place d ≡ place 0
      unfolding place in_below new_below
      same_place = level period positive place (λ d. rw (back d, state_back d))
          (λ d. rw (next d)
          (place_falls R (letter d) well (older d) _ (at d).below (state d) (state (suc d)) (below_always d) (moves d) (free d)))

      child : ℕ → Branch
      child d = branch_at (at d).below (place 0)

      child_older : ℕ → ℕ
      child_older d = taken R (letter d) (older d) (at d).below (place 0)

      child_survives : (d : ℕ) → survive R (letter d) (older d) (at d).below (place 0) ≡ true
      unfolding place in_below new_below
      child_survives d =
          let sprout = sprout_of R (letter d) (at d).top in
          let e = rw (next d) at (same_place (suc d) ∙ sym (same_place d)) in
          rw (same_place d) at
          (place_same R (letter d) well (older d) sprout (at d).below (state d) (state (suc d)) (below_always d) (moves d) (free d) e).0

      child_holds : (d : ℕ) → member (child d).top.label (state d) ≡ true
      unfolding child place in_below
      child_holds d = rw (same_place d) at (holds_at_place (state d) (at d).below (below_always d))

      -- which is again a node that stays
      child_home : Home child child_older
      unfolding child child_older new_below
      child_home = record {
        stays = λ d. rw (next d)
            (branch_step R (letter d) (older d) (sprout_of R (letter d) (at d).top) (at d).below (place 0) (child_survives d));
        back = λ d. rw (back d);
        older_back = λ d. rw (letter_back d, older_back d, back d);
        holds = child_holds;
        fits = branch_fits R.sets (at 0).below H.fits.fits (place 0);
      }

      -- with fewer nodes below it
      child_smaller : size (child 0).below < size (at 0).below
      unfolding child in_below
      child_smaller = omega (arith, below_size (at 0).below (place 0), some_nodes (at 0).below (state 0) (below_always 0))

      -- a name below the child is a name below the node
      child_kept : Kept child child_older → Kept at older
      unfolding child child_older name_kept taken_at branch_of accepting
      child_kept K = record {
        name = place 0 ∷ K.name;
        keeps = λ d. and_both (not (accepts R (letter d) (older d) (at d))) _ (not_out _ (quiet d))
            (and_both (survive R (letter d) (older d) (at d).below (place 0)) _ (child_survives d) (K.keeps d));
        place = K.place;
        accepted = K.accepted;
      }

    itself : (d : ℕ) × (accepting d ≡ true) → Kept at older
    unfolding accepting name_kept taken_at branch_of
    itself (d, e) = record { name = []; keeps = λ d. refl; place = d; accepted = e }

  -- the descent: at most h nodes are below
  descend : (h : ℕ) (at : ℕ → Branch) (older : ℕ → ℕ) → Home at older → size (at 0).below ≤ h → Kept at older
  descend zero at older H l =
      ⊎_elim (itself at older H) (λ quiet. absurd (omega (arith, child_smaller at older H quiet))) (accepts_or_not at older H)
  descend (suc h) at older H l = ⊎_elim (itself at older H) (λ quiet. child_kept at older H quiet
      (descend h (child at older H quiet) (child_older at older H quiet) (child_home at older H quiet)
      (omega (arith, child_smaller at older H quiet)))) (accepts_or_not at older H)

  -- below a node that stays and holds the run there is a name that is kept and accepts
  pub kept_name : (at : ℕ → Branch) (older : ℕ → ℕ) → Home at older → Kept at older
  kept_name at older H = descend (size (at 0).below) at older H (omega arith)
