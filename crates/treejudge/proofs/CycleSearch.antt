-- The search for the period (Brent), as the loop of `find_cycle` makes it.
use mathlib.Core.Path.{◌≡◌, refl, ◌∙◌, ap}
use mathlib.Core.Bool.{true, false}
use mathlib.Core.List.{List, ◌++◌}
use Prim.Native.Nat.{ℕ, ◌+◌, ◌-◌, ◌^◌, ◌<◌}
use native.Mathlib.Omega.{arith}
use Rattle.rule.specs.Rule.{Rule}
use Rattle.word.specs.Walk.{rounds}
use Rattle.word.specs.Inner.WalkLookups.{Lookups}
use Rattle.word.proofs.Paths.{rounds_add, rounds_one}
use Rattle.history.specs.Rounds.{read_letters, round_tree, FirstRepeat}
use Rattle.history.proofs.Walk.TreesOfWalk.{round_next}
use Rattle.history.proofs.Repeat.RepeatExists.{repeat_exists}
use Rattle.history.proofs.Verdict.CycleVerdict.{read_rounds}
use Rattle.history.proofs.Repeat.CycleFinding.{BrentSoFar, Skips, brent_start, none_skips, brent_more, brent_reset, reset_skips, brent_found, lam_steps, power_doubles, brent_measure}
use Rattle.tree.specs.declared.nodes.Tree.{Tree as CodeTree}
use Rattle.letters.specs.Inner.Names.{all_kept, Follows, FollowsOn, FollowsTo}
use Rattle.treejudge.specs.Inner.SameNodes.{same_trees}
use Rattle.treejudge.specs.Inner.Cycles.{AtRound, CycleOf}
use Rattle.letters.specs.declared.follow.Maps.{Maps}
use Rattle.letters.proofs.NamesFollowed.{begun_follows}
use Rattle.treejudge.proofs.RoundsRead.{nodes_same, nodes_differ}

-- one round more
rounds_more : (r : ℕ) (v : List ℕ) → rounds (r + 1) v ≡ rounds r v ++ v
rounds_more r v = rounds_add r 1 v ∙ ap (rounds r v ++◌) (rounds_one v)

-- at the head of the loop: x is t(power − 1), y is t(half − 1), and lam rounds were followed from x on
pub record Searching (R : Rule) (u v : List ℕ) (lookups : Lookups) (k : ℕ) (x y : CodeTree) (half power lam : ℕ)
    (now : CodeTree) (m : Maps) : Type 0 where
  pub saved : AtRound R u v lookups k (power - 1) x
  pub before : AtRound R u v lookups k (half - 1) y
  pub below : half < power
  pub doubles : 1 < power → power ≡ half + half
  pub brent : BrentSoFar (round_tree R u v) power lam
  pub skips : Skips (round_tree R u v) half
  pub follows : Follows R (round_tree R u v (power - 1)) (rounds lam v) now m

-- t(0) is saved first
pub search_start : {R : Rule} {u v : List ℕ} {lookups : Lookups} {k : ℕ} {first : CodeTree}
    → AtRound R u v lookups k 0 first → (now : CodeTree) → now ≡ first → Searching R u v lookups k first first 0 1 0 now (all_kept now.count)
unfolding rounds
search_start {R} {u} {v} A now is = rw is (record {
  saved = A;
  before = A;
  below = omega arith;
  doubles = λ h. omega arith;
  brent = brent_start (round_tree R u v);
  skips = none_skips (round_tree R u v);
  follows = begun_follows A.tree;
})

module _ {R : Rule} {u v : List ℕ} {lookups : Lookups} {k : ℕ} {x y : CodeTree} {half power lam : ℕ} {now : CodeTree} {m : Maps}
    (S : Searching R u v lookups k x y half power lam now m) where
  -- a round is followed from there
  pub search_follows : FollowsOn R (round_tree R u v (power - 1)) (rounds lam v) lookups k v now m
  search_follows = record { holds = S.saved.holds; has_lookups = S.saved.has_lookups; follows = S.follows }

  -- there are fewer than 2 ^ 63 trees
  repeat : (entry : ℕ) × (period : ℕ) × FirstRepeat (round_tree R u v) entry period × (entry + period < 2 ^ 63)
  repeat = let H = S.saved.holds in repeat_exists R H.limits.well H.limits.some_set H.limits.states H.limits.sets u v

  -- so lam fits, and the loop ends
  pub lam_fits : lam + 1 < 2 ^ 64
  lam_fits =
      let (e, p, F, small) = repeat in lam_steps (round_tree R u v) (read_letters R v) (round_next R u v) e p F small power lam S.brent

  pub search_measure : power + lam < 2 ^ 65
  search_measure =
      let (e, p, F, small) = repeat in brent_measure (round_tree R u v) (read_letters R v) (round_next R u v) e p F small power lam S.brent

  module _ (next : CodeTree) (n : Maps) (on : FollowsTo lookups k v now m next n) where
    -- it leads to the tree one round further
    followed : Follows R (round_tree R u v (power - 1)) (rounds (lam + 1) v) next n
    unfolding FollowsTo
    followed = rw rounds_more (on R _ _ search_follows)

    pub search_next : AtRound R u v lookups k (power - 1 + (lam + 1)) next
    search_next = record {
      holds = S.saved.holds;
      has_lookups = S.saved.has_lookups;
      tree = rw (← read_rounds R u v (lam + 1) (power - 1)) followed.tree;
    }

    -- where the saved tree and the one reached are the same, the cycle is found
    pub search_found : same_trees x next ≡ true
        → (entry period : ℕ) → FirstRepeat (round_tree R u v) entry period
        → CycleOf R u v entry period
        (record { saved = x; before = y; half = half; power = power; period = lam + 1; witnesses = n.witnesses })
    search_found same entry period F =
        let (back, late) = brent_found (round_tree R u v) (read_letters R v) (round_next R u v) entry period F power lam S.brent
        (nodes_same S.saved search_next same) in
        record {
          saved = S.saved.tree;
          before = S.before.tree;
          below = S.below;
          doubles = S.doubles;
          back = back;
          late = late;
          skips = S.skips entry period F;
          witnesses = rw (← back) followed.witnesses;
        }

    module _ (differ : same_trees x next ≡ false) where
      apart : round_tree R u v (power - 1) ≡ round_tree R u v (power - 1 + (lam + 1)) → ⊥
      apart = nodes_differ S.saved search_next differ

      -- otherwise the search goes on
      pub search_more : (lam + 1 ≡ power → ⊥) → Searching R u v lookups k x y half power (lam + 1) next n
      search_more more = record {
        saved = S.saved;
        before = S.before;
        below = S.below;
        doubles = S.doubles;
        brent = brent_more (round_tree R u v) power lam S.brent apart more;
        skips = S.skips;
        follows = followed;
      }

      -- or holds the tree reached
      module _ (full : lam + 1 ≡ power) where
        pub power_fits : power + power < 2 ^ 64
        power_fits =
            let (e, p, F, small) = repeat in
            power_doubles (round_tree R u v) (read_letters R v) (round_next R u v) e p F small power lam S.brent apart full

        pub search_reset : Searching R u v lookups k next x power (power + power) 0 next (all_kept next.count)
        unfolding rounds
        search_reset =
            let e : power - 1 + (lam + 1) ≡ power + power - 1 = omega (arith, S.below) in
            let A : AtRound R u v lookups k (power + power - 1) next = rw e at search_next in
            record {
              saved = A;
              before = S.saved;
              below = omega (arith, S.below);
              doubles = λ h. refl;
              brent = brent_reset (round_tree R u v) (read_letters R v) (round_next R u v) power lam S.brent apart full;
              skips = reset_skips (round_tree R u v) (read_letters R v) (round_next R u v) power lam S.brent apart full;
              follows = begun_follows A.tree;
            }
