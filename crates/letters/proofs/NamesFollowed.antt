-- Following nodes by their names: the maps before the first letter, and those after the letters read so far.
use mathlib.Core.Path.{◌≡◌, sym, ◌∙◌, ap}
use mathlib.Core.List.{List, [], ◌∷◌, ◌++◌, append_assoc}
use Prim.Native.Nat.{ℕ, ◌+◌, ◌-◌, ◌^◌, ◌≤◌, ◌<◌}
use native.Mathlib.Numerals.{add-one}
use native.Mathlib.Omega.{arith}
use lib.ListN.{length, get_or, take, drop, take-append-drop}
use lib.Seq.{take-suc, take_all}
use Rattle.std.specs.Prelude.{Option}
use Rattle.base.proofs.Every.{every_at, append_every}
use Rattle.rule.specs.Rule.{Rule}
use Rattle.word.specs.Inner.WalkLookups.{Lookups, HasLookup}
use Rattle.history.specs.Tree.{Tree}
use Rattle.history.specs.Rounds.{read_letters}
use Rattle.history.specs.Inner.OldNumbers.{no_node}
use Rattle.history.proofs.Verdict.FollowingLaws.{follow_none, follow_kept, follow_accepted}
use Rattle.history.proofs.Walk.TreesOfWalk.{read_append}
use Rattle.tree.specs.Inner.PackedNodes.{counted_nodes}
use Rattle.tree.specs.Inner.Sides.{tree_in}
use Rattle.tree.specs.Inner.Nodes.{HoldsTree}
use Rattle.tree.specs.declared.nodes.Tree.{Tree as CodeTree}
use Rattle.tree.specs.declared.sides.DoubleBuffer.{DoubleBuffer}
use Rattle.step.specs.Inner.Pass.{stepped_nodes}
use Rattle.step.specs.Inner.Stepping.{Steppable, Stepping, StepsTo}
use Rattle.step.specs.declared.pass.Stepped.{Stepped}
use Rattle.step.proofs.StepOfNodes.{place_ready, place_steps}
use Rattle.letters.specs.Inner.Reading.{Readable}
use Rattle.letters.specs.Inner.Names.{all_kept, carried_maps, Follows, FollowsOn, Followable, FollowsTo}
use Rattle.letters.specs.Inner.RootPass.{place_of, root_maps, SkipsTo}
use Rattle.letters.specs.declared.root.Skipped.{Skipped}
use Rattle.letters.specs.declared.follow.Maps.{Maps}
use Rattle.letters.proofs.Staying.{staying}

-- BEFORE THE FIRST LETTER

-- all nodes of a tree have kept their names, and none was accepting
pub begun_follows : {R : Rule} {T : Tree} {x : CodeTree} → HoldsTree R T x → Follows R T [] x (all_kept x.count)
unfolding read_letters
begun_follows {R} {T} tree = let (kept, none) = follow_none R T in record {
  first = tree.fits;
  tree = tree;
  kept = ap (λ (n : ℕ). 2 ^ n - 1) tree.counts ∙ sym kept;
  witnesses = sym none;
}

-- LETTER BY LETTER

-- the tree in place and the followed nodes after the first `at` letters of w, read from x and m on
pub record FollowedUpTo (lookups : Lookups) (k : ℕ) (w : List ℕ) (x : CodeTree) (m : Maps) (at : ℕ) (buffer : DoubleBuffer)
    (n : Maps) : Type 0 where
  pub upto : at ≤ length w
  pub names : (R : Rule) (T : Tree) (before : List ℕ) → FollowsOn R T before lookups k w x m
      → Follows R T (before ++ take at w) (tree_in buffer) n

module _ (lookups : Lookups) (k : ℕ) (w : List ℕ) where
  module _ (x : CodeTree) (m : Maps) where
    -- the letters can be read
    pub followed_reads : Followable lookups k w x m → Readable lookups k w x
    unfolding Followable Readable
    followed_reads (R, T, before, v) =
        (R, read_letters R before T, record { holds = v.holds; has_lookups = v.has_lookups; tree = v.follows.tree })

    module _ (at : ℕ) (buffer : DoubleBuffer) (n : Maps) (v : FollowedUpTo lookups k w x m at buffer n) where
      -- at the end
      pub followed_all : length w ≤ at → FollowsTo lookups k w x m (tree_in buffer) n
      unfolding FollowsTo
      followed_all h R T before F = rw (take_all at w h) at (v.names R T before F)

      -- the next letter can be read
      pub followed_ready : Followable lookups k w x m → Steppable buffer
      unfolding Followable
      followed_ready (R, T, before, F) = place_ready F.holds.limits buffer (v.names R T before F).tree

      module _ (h : at < length w) (next : Stepped) (after : DoubleBuffer)
          (step : Stepping (stepped_nodes (get_or lookups (get_or w at 0) []) k (counted_nodes (tree_in buffer))) buffer next after) where
        module _ (R : Rule) (T : Tree) (before : List ℕ) (F : FollowsOn R T before lookups k w x m) where
          abbrev a : ℕ
          a = get_or w at 0

          abbrev read : List ℕ
          read = before ++ take at w

          now : Follows R T read (tree_in buffer) n
          now = v.names R T before F

          steps : StepsTo R a (read_letters R read T) (tree_in after) next
          steps = place_steps F.holds.limits buffer now.tree _ k a F.holds.number
              (every_at (HasLookup R lookups) w at 0 F.has_lookups h).entries next after step

          -- it carries both maps to the new numbers
          letter_follows : Follows R T (read ++ (a ∷ [])) (tree_in after) (carried_maps (tree_in after) (staying next n))
          unfolding carried_maps read_letters
          letter_follows =
              let few : R.states < no_node = omega (arith, F.holds.limits.states) in
              record {
                first = now.first;
                tree = rw read_append steps.next;
                kept = rw (steps.olds, steps.stable, now.kept)
                    (sym (follow_kept R F.holds.limits.well F.holds.limits.some_set few T now.first read a));
                witnesses = rw (steps.olds, steps.stable, steps.accepting, now.kept, now.witnesses)
                    (sym (follow_accepted R F.holds.limits.well F.holds.limits.some_set few T now.first read a));
              }

        -- and that leads on
        pub followed_more : (n' : Maps) → n' ≡ carried_maps (tree_in after) (staying next n)
            → FollowedUpTo lookups k w x m (at + 1) after n'
        followed_more n' carries = record {
          upto = omega arith;
          names = λ R T before F. rw (carries, add-one, take-suc w at 0 h, ← append_assoc) (letter_follows R T before F);
        }

-- FROM A PLACE ON

module _ (lookups : Lookups) (k : ℕ) (w : List ℕ) (x y : CodeTree) (m : Maps) (skipped : Option Skipped)
    (skips : SkipsTo lookups k w x y skipped) where
  abbrev place : ℕ
  place = place_of skipped

  abbrev there_maps : Maps
  there_maps = root_maps skipped y.count m

  -- the letters from there on are read on, behind those before
  follows_behind : (R : Rule) (T : Tree) (before : List ℕ) → FollowsOn R T before lookups k w x m
      → FollowsOn R T (before ++ take place w) lookups k (drop place w) y there_maps
  unfolding FollowsTo
  follows_behind R T before F =
      let (front, rest) = append_every (HasLookup R lookups) (take place w) (drop place w) (rw (take-append-drop place w) F.has_lookups) in
      record {
        holds = F.holds;
        has_lookups = rest;
        follows = skips.follows m R T before (record { holds = F.holds; has_lookups = front; follows = F.follows });
      }

  pub behind_followable : Followable lookups k w x m → Followable lookups k (drop place w) y there_maps
  unfolding Followable
  behind_followable (R, T, before, F) = (R, T, before ++ take place w, follows_behind R T before F)

  -- to where all letters lead
  pub follows_join : (z : CodeTree) (n : Maps) → FollowsTo lookups k (drop place w) y there_maps z n → FollowsTo lookups k w x m z n
  unfolding FollowsTo
  follows_join z n behind R T before F =
      rw (append_assoc, take-append-drop) at (behind R T (before ++ take place w) (follows_behind R T before F))
