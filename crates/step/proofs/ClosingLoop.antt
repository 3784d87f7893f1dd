-- The loop of `close_levels`: what stands in its variables is the pass with the levels deeper than the deepest one closed. One law for
-- each way through the loop's body.
use mathlib.Core.Path.{◌≡◌, refl, sym, ◌∙◌, ap}
use mathlib.Core.Logic.{◌⊎◌, inl, inr, ⊎_elim}
use mathlib.Core.List.{List, ◌∷◌, ◌++◌, append-nil}
use Prim.Native.Nat.{ℕ, zero, suc, ◌+◌, ◌-◌, ◌≤◌, ◌<◌}
use native.Mathlib.Omega.{arith}
use borrow.Author.Tests.{eq-eqb, ne_eqb}
use lib.Bits.{bit_or}
use lib.ListN.{length, get_or, set, take, drop, length-set}
use Rattle.tree.specs.Inner.PackedNodes.{unpacked, nodes_in}
use Rattle.tree.specs.Inner.Places.{places}
use Rattle.tree.specs.declared.nodes.Node.{Node as CodeNode}
use Rattle.tree.proofs.TreeNodes.{behind_kept, front_more}
use Rattle.step.specs.Inner.Pass.{sprout_node, written, closed_to}
use Rattle.step.specs.Inner.LevelArrays.{level_at, waiting_levels, levels_of, pass_at, Closable, Closing}
use Rattle.step.specs.declared.pass.Levels.{Levels}
use Rattle.step.specs.declared.pass.Standing.{Standing}
use Rattle.step.proofs.Levels.{waiting_length}
use Rattle.step.proofs.PassSteps.{pass, closed_level, none_closed, closed_again}

-- ONE LEVEL

waiting_next : (A : Levels) (top : ℕ) → 0 < top
    → waiting_levels A top ≡ level_at A (top - 1) (get_or A.waiting (top - 1) 0) ∷ waiting_levels A (top - 1)
unfolding waiting_levels
waiting_next A zero h = absurd (omega arith)
waiting_next A (suc c) h = let e : suc c - 1 ≡ c = omega arith in rw e

-- the deepest level is closed, and the one above it goes on
close_one : (A : Levels) (top running : ℕ) (nodes : List CodeNode) (accepting stable : ℕ) → 0 < top
    → closed_to (top - 1) (pass (level_at A top running ∷ waiting_levels A top) nodes accepting stable)
    ≡ pass (level_at A (top - 1) (get_or A.waiting (top - 1) 0) ∷ waiting_levels A (top - 1))
    (nodes ++ written (sprout_node top (get_or A.sprout top 0) (bit_or (get_or A.above top 0) running))) accepting stable
close_one A top running nodes accepting stable h =
    let n = waiting_length A top in
    (rw n at (closed_level (top - 1) (level_at A top running) (waiting_levels A top) nodes accepting stable (omega arith)))
    ∙ none_closed (top - 1) (pass (waiting_levels A top) _ accepting stable) (omega arith)
    ∙ rw (waiting_next A top h)

-- THE LOOP

module _ (A : Levels) (depth : ℕ) (at : Standing) (before : List ℕ) where
  -- the loop's variables: levels open and nodes written keep within bounds; what they hold is the pass at the beginning with the levels
  -- deeper than `top` closed
  pub record ClosedSoFar (side : List ℕ) (top running written : ℕ) : Type 0 where
    pub before_closing : Closable A at
    pub long : length side ≡ places
    pub behind : drop written side ≡ drop written before
    pub shallower : top ≤ at.top
    pub more : at.written ≤ written
    pub room : written + top ≤ at.written + at.top
    pub between : (depth ≤ top) ⊎ (top ≡ at.top)
    pub pass : (accepting stable : ℕ)
        → pass_at side A (record { top = top; running = running; written = written }) accepting stable
        ≡ closed_to top (pass_at before A at accepting stable)

  -- at the beginning
  pub closing_start : Closable A at → length before ≡ places → ClosedSoFar before at.top at.running at.written
  closing_start ready long = record {
    before_closing = ready;
    long = long;
    behind = refl;
    shallower = omega arith;
    more = omega arith;
    room = omega arith;
    between = inr refl;
    pass = λ accepting stable. sym (none_closed at.top _ (omega (arith, waiting_length A at.top)));
  }

  module _ {side : List ℕ} {top running many : ℕ} (v : ClosedSoFar side top running many) where
    module _ (h : depth < top) where
      -- there is room for its sprouted child
      closing_room : many < places
      closing_room = omega (arith, v.room, v.before_closing.room)

      module _ (s : CodeNode) (made : s ≡ sprout_node top (get_or A.sprout top 0) (bit_or (get_or A.above top 0) running)) where
        -- what is left of the pass once the level is closed
        closed : (accepting stable : ℕ)
            → record {
              levels = levels_of A (record { top = top - 1; running = (get_or A.waiting (top - 1) 0); written = many });
              nodes = take many (nodes_in side) ++ written s;
              accepting = accepting;
              stable = stable;
            } ≡ closed_to (top - 1) (pass_at before A at accepting stable)
        closed accepting stable = rw made
            (sym (close_one A top running (take many (nodes_in side)) accepting stable (omega arith))
            ∙ ap (closed_to (top - 1)) (v.pass accepting stable)
            ∙ closed_again (top - 1) top _ (omega arith))

        -- nothing is left for the sprouted child
        pub close_none : s.label ≡ 0 → ClosedSoFar side (top - 1) (get_or A.waiting (top - 1) 0) many
        unfolding written
        close_none gone = record {
          before_closing = v.before_closing;
          long = v.long;
          behind = v.behind;
          shallower = omega (arith, v.shallower);
          more = v.more;
          room = omega (arith, v.room);
          between = inl (omega arith);
          pass = λ accepting stable. rw (eq-eqb s.label 0 gone, append-nil (take many (nodes_in side))) at (closed accepting stable);
        }

        -- the sprouted child is written
        pub close_some : (s.label ≡ 0 → ⊥) → (word : ℕ) → unpacked word ≡ s
            → ClosedSoFar (set side many word) (top - 1) (get_or A.waiting (top - 1) 0) (many + 1)
        unfolding written
        close_some stays word is = record {
          before_closing = v.before_closing;
          long = length-set side many word ∙ v.long;
          behind = behind_kept side before many word v.behind;
          shallower = omega (arith, v.shallower);
          more = omega (arith, v.more);
          room = omega (arith, v.room);
          between = inl (omega arith);
          pass = λ accepting stable.
              rw (front_more side many word s is (omega (arith, closing_room, v.long)))
              (rw (ne_eqb s.label 0 stays) at (closed accepting stable));
        }

    -- at the end
    pub closing_done : top ≤ depth → Closing A depth at before (record { top = top; running = running; written = many }) side
    closing_done end = record {
      long = v.long;
      behind = v.behind;
      shallow = end;
      shallower = v.shallower;
      more = v.more;
      room = v.room;
      pass = λ accepting stable. v.pass accepting stable ∙ ⊎_elim
          (λ deep. let same : top ≡ depth = omega arith in
          ap (λ (d : ℕ). closed_to d (pass_at before A at accepting stable)) same)
          (λ whole. let n = waiting_length A at.top in
          none_closed top _ (omega arith) ∙ sym (none_closed depth _ (omega arith)))
          v.between;
    }
