-- One letter from a tree in a double buffer to the next tree: what is asked of the nodes, and what is made of them.
use Rattle.std.specs.Prelude.{◌≡◌, map, ℕ, ◌≤◌, ◌-◌, length, drop}
use Rattle.rule.specs.Limits.{max_states}
use Rattle.rule.specs.Rule.{Rule}
use Rattle.history.specs.Tree.{Tree}
use Rattle.history.specs.Letter.{next_tree, accepting_map, stable_map}
use Rattle.history.specs.Inner.OldNumbers.{old_numbers}
use Rattle.tree.specs.Inner.Nodes.{HoldsTree}
use Rattle.tree.specs.Inner.PackedNodes.{counted_nodes}
use Rattle.tree.specs.Inner.Sides.{tree_in, words_on}
use Rattle.tree.specs.declared.nodes.Tree.{Tree as CodeTree}
use Rattle.tree.specs.declared.sides.DoubleBuffer.{DoubleBuffer}
use Rattle.step.specs.Inner.Pass.{SetsFit, Pass}
use Rattle.step.specs.declared.pass.Stepped.{Stepped}

-- what one letter makes of the tree T: the next tree, with the old numbers of its nodes, and the answer
pub record StepsTo (R : Rule) (a : ℕ) (T : Tree) (x : CodeTree) (r : Stepped) : Type 0 where
  pub next : HoldsTree R (next_tree R a T) x
  pub olds : map (λ y. y.old) (counted_nodes x) ≡ old_numbers R a T
  pub accepting : r.accepting ≡ accepting_map R a T
  pub stable : r.stable ≡ stable_map R a T

-- a letter can be read from the tree in a double buffer
pub record Steppable (buffer : DoubleBuffer) : Type 0 where
  pub few : buffer.count ≤ max_states
  pub fits : SetsFit (counted_nodes (tree_in buffer))

-- what a letter answers and leaves in the double buffer: the nodes of its pass stand in front on the other side, and the buffer is turned to
-- it; all else is as it was
pub record Stepping (p : Pass) (buffer : DoubleBuffer) (r : Stepped) (after : DoubleBuffer) : Type 0 where
  pub side : after.side ≡ 1 - buffer.side
  pub nodes : counted_nodes (tree_in after) ≡ p.nodes
  pub count : after.count ≡ length p.nodes
  pub accepting : r.accepting ≡ p.accepting
  pub stable : r.stable ≡ p.stable
  pub kept : words_on after buffer.side ≡ words_on buffer buffer.side
  pub behind : drop after.count (words_on after after.side) ≡ drop after.count (words_on buffer after.side)
