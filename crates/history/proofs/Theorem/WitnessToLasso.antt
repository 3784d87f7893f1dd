-- From a witness to a loop: a node that is stable at every letter of rounds e+1 to e+p and accepting at one of them.
-- These rounds come again and again, so the node is stable for ever and accepts once in each p rounds. After k + 1 times
-- p rounds each state of its label comes from a state of the same label, and one of them from itself, taking every set.
use mathlib.Core.Path.{◌≡◌, sym, ◌∙◌}
use mathlib.Core.Bool.{true}
use mathlib.Core.List.{List}
use Prim.Native.Nat.{ℕ, suc, ◌+◌, ◌*◌, ◌≤◌}
use native.Mathlib.Omega.{arith}
use native.Mathlib.Nat.{add-suc, add-zero, mul-pos}
use lib.ListN.{length}
use Rattle.base.proofs.BitSet.{member_lt}
use Rattle.rule.specs.Rule.{Rule}
use Rattle.rule.specs.WellFormed.{WellFormed}
use Rattle.word.specs.Walk.{letter_at}
use Rattle.word.specs.Lasso.{Lasso}
use Rattle.history.specs.Tree.{labels}
use Rattle.history.specs.Rounds.{round_tree, FirstRepeat}
use Rattle.history.specs.Verdict.{Witness}
use Rattle.history.proofs.Tree.Conditions.{IsTree}
use Rattle.history.proofs.Names.StableNames.{stable_local}
use Rattle.history.proofs.Names.AcceptingNames.{accepting_local}
use Rattle.history.proofs.Step.LocalStep.{step, kept_among}
use Rattle.history.proofs.Walk.Stretches.{stretch, stretch_lead}
use Rattle.history.proofs.Theorem.BetweenBreakpoints.{Return, return_rounds}
use Rattle.history.proofs.Theorem.Siblings.{name_returns}
use Rattle.history.proofs.Walk.TreesOfWalk.{tree_at, walk_periodic}
use Rattle.history.proofs.Walk.WitnessByPosition.{Lasts, witness_lasts}
use Rattle.history.proofs.Walk.StatesOfTrees.{is_tree_at, tree_next, state_reached}

module _ (R : Rule) (well : WellFormed R) (sets : 1 ≤ R.sets) (u v : List ℕ) (filled : 1 ≤ length v)
    (entry period : ℕ) (F : FirstRepeat (round_tree R u v) entry period) (w : List ℕ) (W : Witness R u v entry period w) where
  -- the end of round e
  begin : ℕ
  begin = length u + entry * length v

  lasts : Lasts R u v entry period w
  lasts = witness_lasts R u v filled entry period F entry (omega arith) w W

  -- a state of the tree at the end of round e returns, taking every set
  returns : Return R (labels (tree_at R u v begin)) (stretch (λ d. letter_at u v (begin + d)) (suc R.sets * (period * length v)))
  unfolding begin
  returns =
      rw add-zero at (name_returns R (λ d. letter_at u v (begin + d)) (λ d. 0) (λ d. tree_at R u v (begin + d)) next tree.fits
      (λ s. member_lt R.states (labels (tree_at R u v (begin + 0))) s tree.states) 0 w kept
      (period * length v) lasts.place lasts.within
      (λ j. sym (accepting_local R _ _ (is_tree_at R well sets u v _).one_root w (lasts.stays _ (omega arith))) ∙ lasts.accepts j)
      (rw add-zero (walk_periodic R u v filled entry period F (suc R.sets) begin (omega arith))))
    where
      tree : IsTree R.states R.sets (tree_at R u v (begin + 0))
      tree = is_tree_at R well sets u v (begin + 0)

      next : (d : ℕ) → tree_at R u v (begin + suc d) ≡ step R (letter_at u v (begin + d)) 0 0 (tree_at R u v (begin + d))
      next d = rw add-suc (tree_next R well sets u v (begin + d))

      kept : (d : ℕ) → kept_among R (letter_at u v (begin + d)) 0 (tree_at R u v (begin + d)) 0 w ≡ true
      kept d = sym (stable_local R _ _ (is_tree_at R well sets u v (begin + d)).one_root w) ∙ lasts.stays (begin + d) (omega arith)

  pub witness_lasso : Lasso R u v
  unfolding begin
  witness_lasso =
      let x = returns in
      let (s, c, starts, path) = state_reached R well sets u v begin x.state x.held in
      let many = mul-pos {m = suc R.sets} (omega arith) F.positive in
      record {
        origin = s;
        state = x.state;
        lead = entry;
        turns = x.turns * (suc R.sets * period);
        lead_sets = c;
        loop_sets = x.sets;
        starts = starts;
        positive = mul-pos x.positive many;
        leads = rw (stretch_lead u v filled entry) at path;
        loops = return_rounds R u v entry (suc R.sets) period _ filled many x;
        every = x.every;
      }
