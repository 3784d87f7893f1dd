-- Trees at round ends, as the contracts have them: a round is read, and two of the trees are compared.
use mathlib.Core.Path.{◌≡◌}
use mathlib.Core.Bool.{true, false}
use mathlib.Core.List.{List}
use Prim.Native.Nat.{ℕ, ◌+◌, ◌≤◌}
use native.Mathlib.Numerals.{add-one}
use Rattle.base.proofs.Logic.{clash}
use Rattle.rule.specs.Limits.{max_states}
use Rattle.rule.specs.Rule.{Rule}
use Rattle.word.specs.Inner.WalkLookups.{Lookups}
use Rattle.history.specs.Rounds.{round_tree}
use Rattle.history.proofs.Walk.TreesOfWalk.{round_next}
use Rattle.tree.specs.declared.nodes.Tree.{Tree as CodeTree}
use Rattle.tree.proofs.TreeNodes.{tree_small}
use Rattle.letters.specs.Inner.Reading.{Reads, ReadsTo}
use Rattle.treejudge.specs.Inner.SameNodes.{same_trees}
use Rattle.treejudge.specs.Inner.Cycles.{AtRound, Ahead}
use Rattle.treejudge.proofs.SameTrees.{same_nodes_same, same_trees_same}

module _ {R : Rule} {u v : List ℕ} {lookups : Lookups} {k i : ℕ} {x : CodeTree} (X : AtRound R u v lookups k i x) where
  -- the tail is read from a round's tree
  pub round_reads : Reads R (round_tree R u v i) lookups k v x
  round_reads = record { holds = X.holds; has_lookups = X.has_lookups; tree = X.tree }

  -- to the next round's
  pub round_read : {y : CodeTree} → ReadsTo lookups k v x y → AtRound R u v lookups k (i + 1) y
  unfolding ReadsTo
  round_read read =
      record { holds = X.holds; has_lookups = X.has_lookups; tree = rw (add-one, round_next) (read R (round_tree R u v i) round_reads) }

  -- or to a later one's
  pub rounds_read : (count : ℕ) {y : CodeTree} → Ahead lookups k v count x y → {place : ℕ} → i + count ≡ place
      → AtRound R u v lookups k place y
  unfolding Ahead
  rounds_read count on to = record { holds = X.holds; has_lookups = X.has_lookups; tree = rw to at (on R u i X) }

  -- there are few nodes
  pub round_small : x.count ≤ max_states
  round_small = tree_small X.holds.limits.states X.tree

  module _ {j : ℕ} {y : CodeTree} (Y : AtRound R u v lookups k j y) where
    -- two trees are the same if their nodes are
    pub nodes_same : same_trees x y ≡ true → round_tree R u v i ≡ round_tree R u v j
    nodes_same same = same_nodes_same R _ _ x y X.holds.limits.sets X.tree Y.tree same

    pub nodes_differ : same_trees x y ≡ false → round_tree R u v i ≡ round_tree R u v j → ⊥
    nodes_differ differ e = clash differ (same_trees_same R _ x y X.tree (rw e Y.tree))
