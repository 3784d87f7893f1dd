-- Reading letters: the tree after the letters read so far.
use mathlib.Core.Path.{◌≡◌}
use mathlib.Core.List.{List, []}
use Prim.Native.Nat.{ℕ, suc, ◌+◌, ◌-◌, ◌≤◌, ◌<◌}
use native.Mathlib.Numerals.{add-one}
use native.Mathlib.Omega.{arith}
use lib.ListN.{length, get_or, take, drop, take-append-drop}
use lib.Seq.{take-suc, take_all}
use Rattle.std.specs.Prelude.{Option}
use Rattle.base.proofs.Every.{every_at, append_every}
use Rattle.rule.specs.Limits.{max_letters}
use Rattle.rule.specs.Rule.{Rule}
use Rattle.word.specs.Inner.WalkLookups.{Lookups, HasLookup}
use Rattle.history.specs.Tree.{Tree}
use Rattle.history.specs.Letter.{next_tree}
use Rattle.history.specs.Rounds.{read_letters}
use Rattle.history.proofs.Walk.TreesOfWalk.{read_append}
use Rattle.tree.specs.Inner.PackedNodes.{counted_nodes}
use Rattle.tree.specs.Inner.Sides.{tree_in}
use Rattle.tree.specs.Inner.Nodes.{HoldsTree}
use Rattle.tree.specs.declared.nodes.Tree.{Tree as CodeTree}
use Rattle.tree.specs.declared.sides.DoubleBuffer.{DoubleBuffer}
use Rattle.step.specs.Inner.Pass.{stepped_nodes}
use Rattle.step.specs.Inner.Stepping.{Steppable, Stepping}
use Rattle.step.specs.declared.pass.Stepped.{Stepped}
use Rattle.step.proofs.StepOfNodes.{place_ready, place_steps}
use Rattle.letters.specs.Inner.Reading.{Reads, Readable, ReadsTo}
use Rattle.letters.specs.Inner.RootPass.{place_of, SkipsTo}
use Rattle.letters.specs.declared.root.Skipped.{Skipped}

-- LETTER BY LETTER

-- the tree in place after the first `at` letters of w, read from the tree x
pub record ReadUpTo (lookups : Lookups) (k : ℕ) (w : List ℕ) (x : CodeTree) (at : ℕ) (buffer : DoubleBuffer) : Type 0 where
  pub upto : at ≤ length w
  pub tree : (R : Rule) (T : Tree) → Reads R T lookups k w x → HoldsTree R (read_letters R (take at w) T) (tree_in buffer)

-- the tree after one letter more
read_more : (R : Rule) (w : List ℕ) (at : ℕ) (T : Tree) → at < length w
    → read_letters R (take (suc at) w) T ≡ next_tree R (get_or w at 0) (read_letters R (take at w) T)
unfolding read_letters
read_more R w at T h = rw (take-suc w at 0 h, read_append)

module _ (lookups : Lookups) (k : ℕ) (w : List ℕ) where
  -- at the start
  pub upto_none : (buffer : DoubleBuffer) → ReadUpTo lookups k w (tree_in buffer) 0 buffer
  unfolding read_letters
  upto_none buffer = record { upto = omega arith; tree = λ R T reads. reads.tree }

  module _ (x : CodeTree) where
    -- each letter has its place in the look-ups
    pub letter_small : Readable lookups k w x → (at : ℕ) → at < length w → get_or w at 0 < max_letters
    unfolding Readable
    letter_small (R, T, reads) at h =
        omega (arith, (every_at (HasLookup R lookups) w at 0 reads.has_lookups h).below, reads.holds.limits.letters)

    module _ (at : ℕ) (buffer : DoubleBuffer) (v : ReadUpTo lookups k w x at buffer) where
      -- at the end
      pub upto_all : length w ≤ at → ReadsTo lookups k w x (tree_in buffer)
      unfolding ReadsTo
      upto_all h R T reads = rw (take_all at w h) at (v.tree R T reads)

      -- the next letter can be read
      pub upto_ready : Readable lookups k w x → Steppable buffer
      unfolding Readable
      upto_ready (R, T, reads) = place_ready reads.holds.limits buffer (v.tree R T reads)

      -- and leads on
      pub upto_more : at < length w → (next : Stepped) (after : DoubleBuffer)
          → Stepping (stepped_nodes (get_or lookups (get_or w at 0) []) k (counted_nodes (tree_in buffer))) buffer next after
          → ReadUpTo lookups k w x (at + 1) after
      upto_more h next after step = record {
        upto = omega arith;
        tree = λ R T reads. rw (add-one, read_more R w at T h) (place_steps reads.holds.limits buffer (v.tree R T reads) _ k _
            reads.holds.number (every_at (HasLookup R lookups) w at 0 reads.has_lookups h).entries next after step).next;
      }

-- letters that are read from a tree, wherever it stands, to a tree that is taken up
pub reads_taken : (lookups : Lookups) (k : ℕ) (w : List ℕ) {x y first cut : CodeTree} → x ≡ first → cut ≡ y
    → ReadsTo lookups k w x y → ReadsTo lookups k w first cut
reads_taken lookups k w from to reads = rw (← from, to) reads

-- FROM A PLACE ON

module _ (lookups : Lookups) (k : ℕ) (w : List ℕ) (x y : CodeTree) (skipped : Option Skipped) (skips : SkipsTo lookups k w x y skipped) where
  abbrev place : ℕ
  place = place_of skipped

  -- the letters from there on are read from the tree there
  reads_behind : (R : Rule) (T : Tree) → Reads R T lookups k w x → Reads R (read_letters R (take place w) T) lookups k (drop place w) y
  unfolding ReadsTo
  reads_behind R T reads =
      let (front, rest) = append_every (HasLookup R lookups) (take place w) (drop place w) (rw (take-append-drop place w) reads.has_lookups) in
      record {
        holds = reads.holds;
        has_lookups = rest;
        tree = skips.reads R T (record { holds = reads.holds; has_lookups = front; tree = reads.tree });
      }

  pub behind_readable : Readable lookups k w x → Readable lookups k (drop place w) y
  unfolding Readable
  behind_readable (R, T, reads) = (R, read_letters R (take place w) T, reads_behind R T reads)

  -- to where all letters lead
  pub reads_join : (z : CodeTree) → ReadsTo lookups k (drop place w) y z → ReadsTo lookups k w x z
  unfolding ReadsTo
  reads_join z behind R T reads =
      rw (← read_append, take-append-drop) at (behind R (read_letters R (take place w) T) (reads_behind R T reads))
