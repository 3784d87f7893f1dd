-- The loop of `step_nodes`: what stands in its variables is the pass over the nodes read so far. One law for each way through the loop's
-- body.
use mathlib.Core.Path.{◌≡◌, refl, sym, ◌∙◌, ap, ap₂}
use mathlib.Core.Bool.{false}
use mathlib.Core.List.{List, [], ◌∷◌}
use Prim.Native.Nat.{ℕ, suc, ◌+◌, ◌*◌, ◌-◌, ◌≤◌, ◌<◌}
use native.Mathlib.Omega.{arith}
use native.Mathlib.Numerals.{add-one}
use borrow.Author.Tests.{eq-eqb, ne_eqb}
use lib.Bits.{bit_or}
use lib.Dec.{eqb}
use lib.ListN.{length, get_or, set, take, drop, length-set}
use lib.Seq.{get_or-take, get_or-set_same, get_or-set_other, take-suc, take_all, length-take-le}
use Rattle.rule.specs.Limits.{max_sets}
use Rattle.rule.specs.Inner.Lookup.{Lookup, look_up}
use Rattle.tree.specs.Inner.Nodes.{blank_node}
use Rattle.tree.specs.Inner.PackedNodes.{unpacked, nodes_in, counted_nodes}
use Rattle.tree.specs.Inner.Places.{places, no_side}
use Rattle.tree.specs.Inner.Sides.{words_on, tree_in}
use Rattle.tree.specs.declared.nodes.Node.{Node as CodeNode}
use Rattle.tree.specs.declared.sides.DoubleBuffer.{DoubleBuffer}
use Rattle.tree.specs.declared.sides.Side.{Side}
use Rattle.tree.proofs.PackedWords.{node_read, nodes_many}
use Rattle.tree.proofs.TreeNodes.{drop_later, behind_kept, front_more}
use Rattle.step.specs.Inner.Pass.{new_labels, settled_node, joined_if, root_level, deepest, Pass, closed_to, passed_node, read_node, read_nodes, at_start, stepped_nodes}
use Rattle.step.specs.Inner.LevelArrays.{EachDepth, levels_of, Entered, pass_at, Closing}
use Rattle.step.specs.Inner.Stepping.{Steppable, Stepping}
use Rattle.step.specs.declared.pass.Levels.{Levels}
use Rattle.step.specs.declared.pass.NewLabels.{NewLabels}
use Rattle.step.specs.declared.pass.Standing.{Standing}
use Rattle.step.proofs.Levels.{waiting_length}
use Rattle.step.proofs.PassSteps.{read_skips, read_deepest, read_append}

-- one more node
pub read_next : (E : ℕ → ℕ → ℕ) (k : ℕ) (nodes : List CodeNode) (i : ℕ) → i < length nodes
    → read_nodes E k 0 at_start (take (i + 1) nodes)
    ≡ read_node E k i (get_or nodes i blank_node) (closed_to (get_or nodes i blank_node).depth (read_nodes E k 0 at_start (take i nodes)))
unfolding read_nodes
read_next E k nodes i h =
    let e : 0 + length (take i nodes) ≡ i = omega (arith, length-take-le i nodes (omega arith)) in
    rw (add-one, take-suc nodes i blank_node h, read_append E k 0 at_start (take i nodes) (get_or nodes i blank_node ∷ []), e)

-- the words of a side
abbrev pub side_words : List Side → ℕ → List ℕ
side_words sides side = (get_or sides side no_side).nodes

-- a side with these words
abbrev pub with_side : List Side → ℕ → List ℕ → List Side
with_side sides side words = set sides side (record { nodes = words })

side_set : (sides : List Side) (side : ℕ) (words : List ℕ) → side < length sides → side_words (with_side sides side words) side ≡ words
side_set sides side words h = ap (λ (s : Side). s.nodes) (get_or-set_same sides side (record { nodes = words }) no_side h)

side_other : (sides : List Side) (to side : ℕ) (words : List ℕ) → (side ≡ to → ⊥) → side_words (with_side sides to words) side ≡ side_words sides side
side_other sides to side words h = ap (λ (s : Side). s.nodes) (get_or-set_other sides to side (record { nodes = words }) no_side h)

module _ (lookup : Lookup) (k : ℕ) (before : DoubleBuffer) where
  abbrev from : ℕ
  from = before.side

  abbrev to : ℕ
  to = 1 - before.side

  -- the nodes that are read
  abbrev nodes : List CodeNode
  nodes = counted_nodes (tree_in before)

  -- the pass over the first i of them
  abbrev read_to : ℕ → Pass
  read_to i = read_nodes (look_up lookup) k 0 at_start (take i nodes)

  -- the loop reads the nodes of one side and writes those of the other; words not written are as they were. Nodes read, levels open and
  -- nodes written keep within bounds; what the variables hold is the pass over the nodes read
  pub record OnSides (sides : List Side) (A : Levels) (accepting stable : ℕ) (at : Standing) (i : ℕ) : Type 0 where
    pub ready : Steppable before
    pub two : length sides ≡ 2
    pub kept : side_words sides before.side ≡ words_on before before.side
    pub behind : drop at.written (side_words sides (1 - before.side)) ≡ drop at.written (words_on before (1 - before.side))
    pub within : i ≤ before.count
    pub shallow : at.top ≤ i
    pub fewer : at.written + at.top ≤ 2 * i
    pub by_depth : EachDepth A
    pub pass : pass_at (side_words sides (1 - before.side)) A at accepting stable
        ≡ read_nodes (look_up lookup) k 0 at_start (take i (counted_nodes (tree_in before)))

  -- before the first node
  pub sides_start : Steppable before → length before.sides ≡ 2 → (A : Levels) → EachDepth A
      → levels_of A (record { top = 0; running = 0; written = 0 }) ≡ root_level ∷ []
      → OnSides before.sides A 0 0 (record { top = 0; running = 0; written = 0 }) 0
  unfolding read_nodes
  sides_start ready two A sizes root = record {
    ready = ready;
    two = two;
    kept = refl;
    behind = refl;
    within = omega arith;
    shallow = omega arith;
    fewer = omega arith;
    by_depth = sizes;
    pass = rw root;
  }

  -- as many nodes as count
  many : Steppable before → length nodes ≡ before.count
  many ready = length-take-le before.count (nodes_in (words_on before from))
      (omega (arith, nodes_many (words_on before from) (before.long from before.on_a_side), ready.few))

  module _ {sides : List Side} {A : Levels} {accepting stable : ℕ} {at : Standing} {i : ℕ} (v : OnSides sides A accepting stable at i) where
    -- THE NODE THAT IS READ

    module _ (less : i < before.count) where
      inside : i < length nodes
      inside = omega (arith, many v.ready)

      pub side_read : (x : CodeNode) → x ≡ unpacked (get_or (side_words sides before.side) i 0) → x ≡ get_or nodes i blank_node
      side_read x is = node_read (words_on before from) i (is ∙ ap (λ (words : List ℕ). unpacked (get_or words i 0)) v.kept)
          ∙ sym (get_or-take before.count (nodes_in (words_on before from)) i blank_node less)

      -- its active set has its images in the look-up
      pub set_fits : (get_or nodes i blank_node).active ≤ max_sets
      set_fits = v.ready.fits i

      next_read : (x : CodeNode) → x ≡ get_or nodes i blank_node
          → read_to (i + 1) ≡ read_node (look_up lookup) k i x (closed_to x.depth (read_to i))
      next_read x is = rw is (read_next (look_up lookup) k nodes i inside)

      module _ (x : CodeNode) (is : x ≡ get_or nodes i blank_node) {depth : ℕ} (deep : depth ≡ x.depth) (after : List ℕ) (next : Standing)
          (closing : Closing A depth at (side_words sides (1 - before.side)) next after) where
        -- deeper levels are closed first
        abbrev closed_sides : List Side
        closed_sides = with_side sides to after

        written_side : side_words closed_sides to ≡ after
        written_side = side_set sides to after (omega (arith, v.two))

        abbrev now : Pass
        now = pass_at after A next accepting stable

        closed : now ≡ closed_to x.depth (read_to i)
        closed = closing.pass accepting stable ∙ ap (closed_to depth) v.pass ∙ ap (λ (d : ℕ). closed_to d (read_to i)) deep

        other : side_words closed_sides from ≡ words_on before from
        other = side_other sides to from after (λ e. omega (arith, before.on_a_side)) ∙ v.kept

        rest : drop next.written after ≡ drop next.written (words_on before to)
        rest = closing.behind ∙ drop_later (side_words sides to) (words_on before to) at.written next.written closing.more v.behind

        levels_open : length now.levels ≡ suc next.top
        levels_open = let n = waiting_length A next.top in omega arith

        -- there is room for one more
        node_room : {number : ℕ} → number ≡ next.written → number < places
        node_room same = omega (arith, v.fewer, closing.room, v.ready.few)

        -- a node below a node without descendants is passed over
        pub node_skipped : (depth ≡ next.top → ⊥) → OnSides closed_sides A accepting stable next (i + 1)
        node_skipped differs = record {
          ready = v.ready;
          two = length-set sides to _ ∙ v.two;
          kept = other;
          behind = rw written_side rest;
          within = omega arith;
          shallow = omega (arith, v.shallow, closing.shallower);
          fewer = omega (arith, v.fewer, closing.room);
          by_depth = v.by_depth;
          pass = rw written_side (sym (next_read x is
              ∙ rw (← closed) (read_skips (look_up lookup) k i now x (omega (arith, deep, differs, levels_open, closing.shallow)))));
        }

        module _ (here : depth ≡ next.top) (m : NewLabels)
            (made : m ≡ new_labels (look_up lookup) x (bit_or (get_or A.above next.top 0) next.running))
            {entering : Standing} {B : Levels} (in-array : Entered m next A entering B) where
          -- a node of the deepest level is read
          passed : read_to (i + 1) ≡ passed_node k i x m now
          unfolding deepest
          passed = next_read x is ∙ rw (← closed, made) (read_deepest (look_up lookup) k i now x (omega (arith, deep, here, levels_open)))

          -- it is removed
          pub node_removed : m.label ≡ 0 → OnSides closed_sides B accepting stable entering (i + 1)
          unfolding passed_node
          node_removed gone = let w = in-array.written in record {
            ready = v.ready;
            two = length-set sides to _ ∙ v.two;
            kept = other;
            behind = rw (written_side, w) rest;
            within = omega arith;
            shallow = omega (arith, v.shallow, closing.shallower, in-array.deeper);
            fewer = omega (arith, v.fewer, closing.room, in-array.deeper);
            by_depth = in-array.sizes;
            pass = rw written_side (sym (passed ∙ rw (eq-eqb m.label 0 gone, w, in-array.levels)));
          }

          -- or written
          pub node_kept : (m.label ≡ 0 → ⊥) → (word : ℕ) → unpacked word ≡ settled_node k x m i → (accepting' stable' : ℕ)
              → accepting' ≡ joined_if accepting i (eqb m.label m.kids) → stable' ≡ joined_if stable i (get_or A.named next.top false)
              → OnSides (with_side closed_sides to (set (side_words closed_sides to) entering.written word)) B accepting' stable'
              (record { top = entering.top; running = entering.running; written = entering.written + 1 }) (i + 1)
          unfolding passed_node deepest
          node_kept stays word settled accepting' stable' accepts keeps =
              let w = in-array.written in
              let long : length closed_sides ≡ 2 = length-set sides to _ ∙ v.two in
              let words : side_words (with_side closed_sides to (set (side_words closed_sides to) entering.written word)) to ≡ set after entering.written word =
              side_set closed_sides to _ (omega (arith, long)) ∙ ap (λ (l : List ℕ). set l entering.written word) written_side in
              record {
                ready = v.ready;
                two = length-set closed_sides to _ ∙ long;
                kept = side_other closed_sides to from _ (λ e. omega (arith, before.on_a_side)) ∙ other;
                behind = rw words (behind_kept after (words_on before to) entering.written word (rw w rest));
                within = omega arith;
                shallow = omega (arith, v.shallow, closing.shallower, in-array.deeper);
                fewer = omega (arith, v.fewer, closing.room, in-array.deeper);
                by_depth = in-array.sizes;
                pass = rw words (sym (passed ∙ rw (
                  ne_eqb m.label 0 stays,
                  in-array.levels,
                  accepts,
                  keeps,
                  front_more after entering.written word (settled_node k x m i) settled (omega (arith, node_room w, closing.long)),
                  w,
                )));
              }

    -- THE END

    pub sides_done : before.count ≤ i → (after : List ℕ) (end : Standing)
        → Closing A 0 at (side_words sides (1 - before.side)) end after
        → (done : DoubleBuffer) → done.sides ≡ with_side sides (1 - before.side) after → done.side ≡ 1 - before.side → done.count ≡ end.written
        → Stepping (stepped_nodes lookup k (counted_nodes (tree_in before))) before (record { accepting = accepting; stable = stable }) done
    unfolding stepped_nodes
    sides_done over after end closing done sides-are side-is count-is =
        let here : words_on done to ≡ after = ap (λ (s : List Side). side_words s to) sides-are ∙ side_set sides to after (omega (arith, v.two)) in
        let size : length (nodes_in after) ≡ places = nodes_many after closing.long in
        let all : take i nodes ≡ nodes = take_all i nodes (omega (arith, many v.ready)) in
        let p : pass_at after A end accepting stable ≡ closed_to 0 (read_nodes (look_up lookup) k 0 at_start nodes) =
        closing.pass accepting stable ∙ ap (closed_to 0) (v.pass ∙ ap (read_nodes (look_up lookup) k 0 at_start) all) in
        let front = ap (λ (q : Pass). q.nodes) p in
        record {
          side = side-is;
          nodes = ap₂ (λ (n : ℕ) (l : List ℕ). take n (nodes_in l)) count-is (ap (words_on done) side-is ∙ here) ∙ front;
          count = count-is ∙ sym (length-take-le end.written (nodes_in after)
              (omega (arith, size, closing.room, v.fewer, v.within, v.ready.few))) ∙ ap length front;
          accepting = ap (λ (q : Pass). q.accepting) p;
          stable = ap (λ (q : Pass). q.stable) p;
          kept = ap (λ (s : List Side). side_words s from) sides-are ∙ side_other sides to from after (λ e. omega (arith, before.on_a_side)) ∙ v.kept;
          behind = ap₂ (λ (n : ℕ) (l : List ℕ). drop n l) count-is (ap (words_on done) side-is ∙ here)
              ∙ closing.behind ∙ drop_later (side_words sides to) (words_on before to) at.written end.written closing.more v.behind
              ∙ sym (ap₂ (λ (n s : ℕ). drop n (words_on before s)) count-is side-is);
        }
