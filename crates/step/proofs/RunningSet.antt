-- When a sibling is reached, the running set in the code's variable is the union of its older siblings' labels (document 02, U4).
use mathlib.Core.Path.{◌≡◌, refl, sym, ◌∙◌, ap, subst}
use mathlib.Core.Bool.{true}
use mathlib.Core.List.{List, [], ◌∷◌, map}
use Prim.Native.Nat.{ℕ, zero, suc, ◌-◌, ◌≤◌, ◌<◌}
use native.Mathlib.Omega.{arith}
use native.Mathlib.Numerals.{add-one}
use lib.ListN.{length, get_or, take, get_or-map}
use Rattle.rule.specs.Rule.{Rule}
use Rattle.rule.specs.Inner.Lookup.{Lookup, look_up}
use Rattle.table.specs.Inner.ReadRule.{WithinLimits}
use Rattle.history.specs.Forest.{nil, node, size, change, named}
use Rattle.history.specs.Tree.{Tree, is_tree_of}
use Rattle.history.specs.Letter.{begun, succeeded, sprouting, two_steps}
use Rattle.history.specs.Inner.OldNumbers.{no_node, old_number}
use Rattle.history.proofs.Tree.Conditions.{Fits, OneRoot}
use Rattle.history.proofs.Step.TreesOf.{of_out, of_few}
use Rattle.tree.specs.Inner.Nodes.{blank_node, nodes_of, without_old, AreNodes}
use Rattle.tree.specs.Inner.PackedNodes.{counted_nodes}
use Rattle.tree.specs.Inner.Sides.{tree_in}
use Rattle.tree.specs.declared.nodes.Node.{Node as CodeNode}
use Rattle.tree.specs.declared.sides.DoubleBuffer.{DoubleBuffer}
use Rattle.tree.specs.declared.sides.Side.{Side}
use Rattle.tree.proofs.TreeNodes.{nodes_size, are_nodes_size}
use Rattle.step.specs.RunningSet.{ReachedSibling, RunningSet}
use Rattle.step.specs.Inner.Pass.{deepest, Pass, closed_to, read_node, read_nodes, at_start}
use Rattle.step.specs.Inner.LevelArrays.{Closing}
use Rattle.step.specs.Inner.AtSibling.{AtSibling, CarriedAlong}
use Rattle.step.specs.declared.pass.Levels.{Levels}
use Rattle.step.specs.declared.pass.Standing.{Standing}
use Rattle.step.proofs.Levels.{waiting_length}
use Rattle.step.proofs.PassSteps.{levels_left, levels_open}
use Rattle.step.proofs.ClosingLoop.{ClosedSoFar}
use Rattle.step.proofs.PassLoop.{side_words, OnSides, read_next}
use Rattle.step.proofs.OldNumbers.{tree_numbered}
use Rattle.step.proofs.StepOfNodes.{read_without_old, images, images_all, images_in}
use Rattle.step.proofs.SiblingsInTurn.{old_reached, new_reached}
use Rattle.step.proofs.AlongRoot.{running_set_root}

-- THE CODE

module _ {lookup : Lookup} {k : ℕ} {before : DoubleBuffer} {sides : List Side} {A : Levels} {accepting stable : ℕ} {at : Standing} {i : ℕ}
    (v : OnSides lookup k before sides A accepting stable at i) where
  -- `close_levels`, called by `step_nodes`, is at the child that the parent of the deepest level sprouts
  pub closing_at_sibling : {depth top running written : ℕ} {now : List ℕ}
      → ClosedSoFar A depth at (side_words sides (1 - before.side)) now top running written
      → AtSibling lookup k (counted_nodes (tree_in before)) i (record { top = top; running = running; written = written })
  closing_at_sibling {depth} {top} {running} {written} {now} w = record {
    side = now;
    levels = A;
    accepting = accepting;
    stable = stable;
    pass = w.pass accepting stable ∙ ap (closed_to top) v.pass;
  }

  -- `step_nodes` is at a node of the deepest level
  pub reading_at_sibling : {depth : ℕ} {next : Standing} {after : List ℕ}
      → Closing A depth at (side_words sides (1 - before.side)) next after → depth ≡ next.top
      → AtSibling lookup k (counted_nodes (tree_in before)) i next
  reading_at_sibling {depth} {next} {after} closing here = record {
    side = after;
    levels = A;
    accepting = accepting;
    stable = stable;
    pass = rw here at (closing.pass accepting stable ∙ ap (closed_to depth) v.pass);
  }

-- the level at `top` is open there
level_open : {lookup : Lookup} {k : ℕ} {nodes : List CodeNode} {i : ℕ} {at : Standing} → AtSibling lookup k nodes i at
    → length (closed_to at.top (read_nodes (look_up lookup) k 0 at_start (take i nodes))).levels ≡ suc at.top
level_open {at = at} r = ap (λ (q : Pass). length q.levels) (sym r.pass) ∙ ap suc (waiting_length r.levels at.top)

-- THE SENTENCE

-- the first nodes, without their old numbers
take_without_old : (i : ℕ) (nodes : List CodeNode) → map without_old (take i nodes) ≡ take i (map without_old nodes)
take_without_old zero nodes = refl
take_without_old (suc i) [] = refl
take_without_old (suc i) (x ∷ nodes) = ap (λ (l : List CodeNode). without_old x ∷ l) (take_without_old i nodes)

module _ {R : Rule} (limits : WithinLimits R) (a : ℕ) where
  abbrev E : ℕ → ℕ → ℕ
  E = images limits a

  -- the pass over the nodes of a tree
  along_tree : (T : Tree) → OneRoot T → Fits R.sets T → size T < no_node → (i d : ℕ)
      → length (closed_to d (read_nodes E R.sets 0 at_start (take i (nodes_of T)))).levels ≡ suc d
      → RunningSet R a T i d (deepest (closed_to d (read_nodes E R.sets 0 at_start (take i (nodes_of T)))).levels).running
  unfolding two_steps sprouting succeeded begun named change size old_number
  along_tree nil one fits small i d deep = λ n r. absurd (omega (arith, r.there))
  along_tree (node x below nil) one fits small i d deep =
      running_set_root R a E (old_number (node x below nil)) refl (images_all limits a) (images_in limits a) x below fits
      (tree_numbered x below small).1 i d deep
  along_tree (node x below (node y other younger)) one fits small i d deep = absurd one

-- "when a sibling is reached, this set is the union of its older siblings' labels, both as they were before these siblings lost states to
-- one another and as they are after"
pub running_set : CarriedAlong
unfolding CarriedAlong deepest
running_set R limits a T tree lookup by nodes are i at r =
    let t = of_out R T tree in
    let read : read_nodes (look_up lookup) R.sets 0 at_start (take i nodes) ≡ read_nodes (E limits a) R.sets 0 at_start (take i (nodes_of T)) =
    rw (by, ← are, ← take_without_old i nodes) (sym (read_without_old (E limits a) R.sets 0 at_start (take i nodes))) in
    let p = r.pass ∙ ap (closed_to at.top) read in
    subst (λ (set : ℕ). RunningSet R a T i at.top set) (ap (λ (q : Pass). (deepest q.levels).running) (sym p))
    (along_tree limits a T t.one_root t.fits (omega (arith, of_few R T tree, limits.states)) i at.top (rw read at (level_open r)))

-- WHAT IS REACHED

-- the deepest level is no deeper than the children of the last node read
last_read : {lookup : Lookup} {k : ℕ} {nodes : List CodeNode} {i : ℕ} {at : Standing} → AtSibling lookup k nodes (suc i) at → i < length nodes
    → at.top ≤ suc (get_or nodes i blank_node).depth
unfolding closed_to
last_read {lookup} {k} {nodes} {i} {at} r less =
    let x : CodeNode = get_or nodes i blank_node in
    let before : Pass = read_nodes (look_up lookup) k 0 at_start (take i nodes) in
    let read = rw (add-one i) at (read_next (look_up lookup) k nodes i less) in
    omega (
      arith,
      rw read at (level_open r),
      (levels_left at.top (read_node (look_up lookup) k i x (closed_to x.depth before)).levels).1,
      levels_open (look_up lookup) k i x before,
    )

module _ (R : Rule) (a : ℕ) (nodes : List CodeNode) where
  -- the nodes have the depths of the tree's
  same_depth : (T : Tree) → AreNodes nodes T → (i : ℕ) → (get_or nodes i blank_node).depth ≡ (get_or (nodes_of T) i blank_node).depth
  same_depth T are i = rw (← are) (ap (λ (x : CodeNode). x.depth) (sym (get_or-map without_old nodes i blank_node)))

  as_many : (T : Tree) → AreNodes nodes T → length nodes ≡ length (nodes_of T)
  as_many T are = are_nodes_size nodes T are ∙ sym (nodes_size T)

  -- each node of a tree is a sibling that is reached, at its depth
  pub old_sibling : (T : Tree) → is_tree_of R T ≡ true → AreNodes nodes T → (i : ℕ) → i < length nodes
      → (n : ℕ) × ReachedSibling R a T i (get_or nodes i blank_node).depth n
  unfolding size
  old_sibling T tree are i less = go T (of_out R T tree).one_root are
    where
      go : (F : Tree) → OneRoot F → AreNodes nodes F → (n : ℕ) × ReachedSibling R a F i (get_or nodes i blank_node).depth n
      go nil one same = absurd (omega (arith, are_nodes_size nodes nil same))
      go (node x below nil) one same =
          let many = as_many (node x below nil) same in
          rw (same_depth (node x below nil) same i) (old_reached R a x below i (omega arith))
      go (node x below (node y other younger)) one same = absurd one

  -- and so is the child that a parent sprouts, where its level is open and the next node is not below it
  pub sprouted_sibling : (T : Tree) → is_tree_of R T ≡ true → AreNodes nodes T → {lookup : Lookup} {k : ℕ} (i : ℕ) {at : Standing}
      → AtSibling lookup k nodes i at → i ≤ length nodes → 0 < at.top → (i < length nodes → (get_or nodes i blank_node).depth < at.top)
      → (n : ℕ) × ReachedSibling R a T i at.top n
  unfolding read_nodes closed_to size
  sprouted_sibling T tree are zero {at} r within deep next =
      absurd (omega (arith, level_open r, (levels_left at.top at_start.levels).1))
  sprouted_sibling T tree are (suc i) {at} r within deep next = go T (of_out R T tree).one_root are
    where
      go : (F : Tree) → OneRoot F → AreNodes nodes F → (n : ℕ) × ReachedSibling R a F (suc i) at.top n
      go nil one same = absurd (omega (arith, are_nodes_size nodes nil same))
      go (node x below nil) one same =
          let many = as_many (node x below nil) same in
          new_reached R a x below i at.top (omega arith) deep (omega (arith, last_read r within, same_depth (node x below nil) same i))
          (λ less. omega (arith, next (omega arith), same_depth (node x below nil) same (suc i)))
      go (node x below (node y other younger)) one same = absurd one
