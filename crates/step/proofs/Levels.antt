-- The levels of a pass as they stand in arrays by depth: what the stores at a node that is read leave of them.
use mathlib.Core.Path.{◌≡◌, refl, ap₂}
use mathlib.Core.Bool.{false}
use mathlib.Core.List.{List, ◌∷◌}
use Prim.Native.Nat.{ℕ, zero, suc, ◌+◌, ◌<◌}
use native.Mathlib.Omega.{arith}
use native.Mathlib.Numerals.{add-one}
use borrow.Author.Tests.{eq-eqb, ne_eqb}
use lib.Bits.{bit_or}
use lib.ListN.{length, get_or, set, length-set}
use lib.Seq.{get_or-set_same, get_or-set_other}
use Rattle.rule.specs.Limits.{max_states}
use Rattle.step.specs.Inner.Pass.{Level, entered}
use Rattle.step.specs.Inner.LevelArrays.{EachDepth, level_at, waiting_levels, Entered}
use Rattle.step.specs.declared.pass.Levels.{Levels}
use Rattle.step.specs.declared.pass.NewLabels.{NewLabels}
use Rattle.step.specs.declared.pass.Standing.{Standing}

-- as many levels as asked for
pub waiting_length : (A : Levels) (c : ℕ) → length (waiting_levels A c) ≡ c
unfolding waiting_levels
waiting_length A zero = refl
waiting_length A (suc c) = let e = waiting_length A c in omega arith

-- arrays that are the same up to a depth have the same levels there
waiting_same : (A B : Levels) (c : ℕ)
    → ((d : ℕ) → d < c → level_at A d (get_or A.waiting d 0) ≡ level_at B d (get_or B.waiting d 0)) → waiting_levels A c ≡ waiting_levels B c
unfolding waiting_levels
waiting_same A B zero same = refl
waiting_same A B (suc c) same =
    ap₂ (λ (l : Level) (levels : List Level). l ∷ levels) (same c (omega arith)) (waiting_same A B c (λ d h. same d (omega arith)))

-- what `enter` leaves in the arrays
module _ (m : NewLabels) (at : Standing) (A : Levels) (room : at.top < max_states) (sizes : EachDepth A) where
  abbrev top : ℕ
  top = at.top

  abbrev joined : ℕ
  joined = bit_or at.running m.label

  -- where the node is removed: the names at its depth are lost
  abbrev unnamed : Levels
  unnamed = record { above = A.above; waiting = A.waiting; sprout = A.sprout; named = set A.named top false }

  pub enter_removed : m.label ≡ 0 → Entered m at A at unnamed
  unfolding entered
  enter_removed gone = record {
    deeper = omega arith;
    written = refl;
    sizes = simp length-set sizes;
    levels = rw (
      eq-eqb _ _ gone,
      get_or-set_same A.named top false false (omega arith),
      waiting_same unnamed A top (λ d h. rw (get_or-set_other A.named top d false false (λ e. omega arith))),
    );
  }

  -- where it accepts: its states join the running set
  pub enter_accepting : (m.label ≡ 0 → ⊥) → m.label ≡ m.kids
      → Entered m at A (record { top = top; running = joined; written = at.written }) A
  unfolding entered
  enter_accepting stays full =
      record { deeper = omega arith; written = refl; sizes = sizes; levels = rw (ne_eqb _ _ stays, eq-eqb _ _ full) }

  -- where it keeps its children: their level is opened besides, one deeper
  abbrev opened : ℕ → Levels
  opened below = record {
    above = set A.above below (bit_or (get_or A.above top 0) at.running);
    waiting = set A.waiting top joined;
    sprout = set A.sprout below m.sprout;
    named = set A.named below (get_or A.named top false);
  }

  waiting_still : waiting_levels (opened (suc top)) top ≡ waiting_levels A top
  waiting_still = waiting_same (opened (suc top)) A top (λ d h. rw (
    get_or-set_other A.above (suc top) d (bit_or (get_or A.above top 0) at.running) 0 (λ e. omega arith),
    get_or-set_other A.waiting top d joined 0 (λ e. omega arith),
    get_or-set_other A.sprout (suc top) d m.sprout 0 (λ e. omega arith),
    get_or-set_other A.named (suc top) d (get_or A.named top false) false (λ e. omega arith),
  ))

  pub enter_kept : (m.label ≡ 0 → ⊥) → (m.label ≡ m.kids → ⊥)
      → Entered m at A (record { top = top + 1; running = 0; written = at.written }) (opened (top + 1))
  unfolding entered waiting_levels
  enter_kept stays other = rw (add-one top) (record {
    deeper = omega arith;
    written = refl;
    sizes = simp length-set sizes;
    levels = rw (
      ne_eqb _ _ stays,
      ne_eqb _ _ other,
      waiting_still,
      get_or-set_same A.above (suc top) (bit_or (get_or A.above top 0) at.running) 0 (omega arith),
      get_or-set_same A.sprout (suc top) m.sprout 0 (omega arith),
      get_or-set_same A.named (suc top) (get_or A.named top false) false (omega arith),
      get_or-set_other A.above (suc top) top (bit_or (get_or A.above top 0) at.running) 0 (λ e. omega arith),
      get_or-set_other A.sprout (suc top) top m.sprout 0 (λ e. omega arith),
      get_or-set_other A.named (suc top) top (get_or A.named top false) false (λ e. omega arith),
      get_or-set_same A.waiting top joined 0 (omega arith),
    );
  })
