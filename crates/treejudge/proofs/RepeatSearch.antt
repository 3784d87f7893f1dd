-- The first repeat is found: by the search for period and entry, or at the cut of a long tail, where t(0) and t(1) have led to the same
-- tree.
use mathlib.Core.Path.{◌≡◌, refl, sym, ◌∙◌, ap}
use mathlib.Core.Bool.{Bool, true, false, not}
use mathlib.Core.List.{List, [], ◌++◌}
use Prim.Native.Nat.{ℕ, ◌-◌, ◌≤◌, ◌<◌}
use native.Mathlib.Omega.{arith}
use lib.ListN.{take, take-append-drop}
use Rattle.std.specs.Int.{from_bool}
use Rattle.base.specs.BitSet.{member}
use Rattle.base.specs.Lists.{Every}
use Rattle.base.proofs.Every.{append_every}
use Rattle.base.proofs.Logic.{clash}
use Rattle.rule.specs.Rule.{Rule}
use Rattle.word.specs.Walk.{rounds, letters_left}
use Rattle.word.specs.Inner.WalkLookups.{Lookups, HasLookup}
use Rattle.word.proofs.Paths.{rounds_one}
use Rattle.history.specs.Forest.{size}
use Rattle.history.specs.Tree.{Tree}
use Rattle.history.specs.Rounds.{round_tree, FirstRepeat}
use Rattle.history.specs.Inner.Following.{witness_map}
use Rattle.history.proofs.Walk.TreesOfWalk.{round_next}
use Rattle.history.proofs.Repeat.RepeatExists.{repeat_exists}
use Rattle.history.proofs.Verdict.CycleVerdict.{member_node, verdict_yes, verdict_no}
use Rattle.history.proofs.Repeat.FirstRepeats.{repeat_at_once}
use Rattle.history.proofs.Verdict.CutCycle.{cut_round, cut_rest, repeat_second, cut_first, cut_none}
use Rattle.tree.specs.Inner.Nodes.{HoldsTree}
use Rattle.tree.specs.declared.nodes.Tree.{Tree as CodeTree}
use Rattle.letters.specs.Inner.Reading.{Reads, ReadsTo}
use Rattle.letters.specs.Inner.Names.{all_kept, Follows, FollowsOn, FollowsTo}
use Rattle.treejudge.specs.Inner.SameNodes.{same_trees}
use Rattle.treejudge.specs.Inner.Cycles.{AtRound, CycleFound, Searched, EntryFound}
use Rattle.treejudge.specs.Inner.Repeats.{RepeatOf}
use Rattle.treejudge.specs.declared.cycle.Cycle.{Cycle}
use Rattle.letters.specs.declared.follow.Maps.{Maps}
use Rattle.letters.proofs.NamesFollowed.{begun_follows}
use Rattle.treejudge.proofs.SameTrees.{same_nodes_same, same_trees_same}

-- BY THE SEARCH

-- it is done for the first repeat
pub searched : (R : Rule) (u v : List ℕ) (lookups : Lookups) (k : ℕ) (first : CodeTree) → AtRound R u v lookups k 0 first
    → (cycle : Cycle) → CycleFound lookups k v first cycle
    → (entry : ℕ) × (period : ℕ) × Searched R u v lookups k entry period first cycle
unfolding CycleFound
searched R u v lookups k first at cycle found =
    let t = at.holds in
    let (e, p, F, _) = repeat_exists R t.limits.well t.limits.some_set t.limits.states t.limits.sets u v in
    (e, p, record { place = at; repeat = F; cycle = found R u e p at F })

module _ (R : Rule) (u v : List ℕ) (lookups : Lookups) (k e p : ℕ) (first : CodeTree) (cycle : Cycle)
    (S : Searched R u v lookups k e p first cycle) where
  -- a number in the map is that of a node
  node_of : (j : ℕ) → member cycle.witnesses j ≡ true → j < size (round_tree R u v (cycle.power - 1))
  node_of j m = member_node R u v e p S.repeat (cycle.power - 1) S.cycle.late j (rw S.cycle.witnesses at m)

  -- the tree that was saved has the witnesses in the map
  pub repeat_searched : (entry : ℕ) → EntryFound lookups k v first cycle entry
      → RepeatOf R u v (record { tree = cycle.saved; witnesses = cycle.witnesses; entry = entry; period = cycle.period })
  unfolding EntryFound
  repeat_searched entry entered =
      let C = S.cycle in
      let t = S.place.holds in
      let is : entry ≡ e = entered R u e p S in
      record {
        repeat = rw (is, C.back) S.repeat;
        tree = round_tree R u v (cycle.power - 1);
        holds = C.saved;
        node = node_of;
        lowest = λ j m low. rw (is, C.back) (verdict_yes R u v e p S.repeat (cycle.power - 1) C.late t.limits.well t.limits.some_set
            j (node_of j m) (rw C.witnesses at m) (rw C.witnesses at low));
        none = λ empty w W. verdict_no R u v e p S.repeat (cycle.power - 1) C.late t.limits.well t.limits.some_set
            (sym C.witnesses ∙ empty) w (rw (is, C.back) at W);
      }

-- AT THE CUT

-- the letters of the tail up to the cut, and those that are left from there
pub two_parts : (cut : ℕ) (u v rest : List ℕ) → rest ≡ letters_left true u v cut → take cut v ++ rest ≡ v
unfolding letters_left
two_parts cut u v rest left = rw left (take-append-drop cut v)

module _ (R : Rule) (u head rest : List ℕ) (lookups : Lookups) (k : ℕ) (first : CodeTree)
    (A : AtRound R u (head ++ rest) lookups k 0 first) where
  abbrev t : ℕ → Tree
  t = round_tree R u (head ++ rest)

  -- the trees at the cut
  abbrev s : ℕ → Tree
  s = round_tree R (u ++ head) (rest ++ head)

  -- the look-ups are those of the letters on both sides of the cut
  parts : Every (HasLookup R lookups) head × Every (HasLookup R lookups) rest
  parts = append_every (HasLookup R lookups) head rest A.has_lookups

  -- the letters up to the cut are read from t(0)
  pub head_reads : (x : CodeTree) → x ≡ first → Reads R (t 0) lookups k head x
  head_reads x is = record { holds = A.holds; has_lookups = parts.0; tree = rw is A.tree }

  module _ (cut : CodeTree) (to : ReadsTo lookups k head first cut) where
    pub cut_holds : HoldsTree R (s 0) cut
    unfolding ReadsTo
    cut_holds = rw (cut_round R u head rest 0) (to R (t 0) (head_reads first refl))

    -- the others are followed from there
    pub rest_follows : FollowsOn R (s 0) [] lookups k rest cut (all_kept cut.count)
    rest_follows = record { holds = A.holds; has_lookups = parts.1; follows = begun_follows cut_holds }

    module _ (second : CodeTree) (m : Maps) (on : FollowsTo lookups k rest cut (all_kept cut.count) second m) where
      -- to t(1)
      at_second : Follows R (s 0) rest second m
      unfolding FollowsTo
      at_second = on R (s 0) [] rest_follows

      pub second_holds : HoldsTree R (t 1) second
      second_holds = rw (← cut_rest R u head rest 0) at_second.tree

      -- and on to the cut
      pub head_follows : FollowsOn R (s 0) rest lookups k head second m
      head_follows = record { holds = A.holds; has_lookups = parts.0; follows = at_second }

      module _ (again : CodeTree) (n : Maps) (back : FollowsTo lookups k head second m again n) where
        at_again : Follows R (s 0) (rest ++ head) again n
        unfolding FollowsTo
        at_again = back R (s 0) rest head_follows

        pub again_holds : HoldsTree R (s 1) again
        again_holds = rw (round_next R (u ++ head) (rest ++ head) 0) at_again.tree

        witnesses_are : n.witnesses ≡ witness_map R (s 0) (rounds 1 (rest ++ head))
        witnesses_are = at_again.witnesses ∙ ap (witness_map R (s 0)) (sym (rounds_one (rest ++ head)))

        -- where the two trees at the cut are the same, the repeat is that of t(0) or of t(1)
        module _ (same : same_trees cut again ≡ true) where
          joins : s 0 ≡ s 1
          joins = same_nodes_same R (s 0) (s 1) cut again A.holds.limits.sets cut_holds again_holds same

          repeat_at : (entry : ℕ) → FirstRepeat t entry 1 → entry ≤ 1
              → RepeatOf R u (head ++ rest) (record { tree = cut; witnesses = n.witnesses; entry = entry; period = 1 })
          repeat_at entry F late =
              let h = A.holds in
              let G = repeat_at_once s joins in
              let node : (j : ℕ) → member n.witnesses j ≡ true → j < size (s 0) =
              λ j w. member_node R (u ++ head) (rest ++ head) 0 1 G 0 (omega arith) j (rw witnesses_are at w) in
              record {
                repeat = F;
                tree = s 0;
                holds = cut_holds;
                node = node;
                lowest = λ j w low. cut_first R u head rest joins entry F late _
                    (verdict_yes R (u ++ head) (rest ++ head) 0 1 G 0 (omega arith) h.limits.well h.limits.some_set j (node j w)
                    (rw witnesses_are at w) (rw witnesses_are at low));
                none = λ empty. cut_none R u head rest joins entry F late
                    (verdict_no R (u ++ head) (rest ++ head) 0 1 G 0 (omega arith) h.limits.well h.limits.some_set (sym witnesses_are ∙ empty));
              }

          -- as the comparison of t(0) and t(1) says
          pub repeat_early : (still : Bool) → same_trees first second ≡ still → (entry : ℕ) → entry ≡ from_bool (not still)
              → RepeatOf R u (head ++ rest) (record { tree = cut; witnesses = n.witnesses; entry = entry; period = 1 })
          repeat_early true same entry is = rw is (repeat_at 0 (repeat_at_once t
              (same_nodes_same R (t 0) (t 1) first second A.holds.limits.sets A.tree second_holds same)) (omega arith))
          repeat_early false differ entry is = rw is (repeat_at 1 (repeat_second R u head rest joins
              (λ e. clash differ (same_trees_same R (t 1) first second (rw e at A.tree) second_holds))) (omega arith))
