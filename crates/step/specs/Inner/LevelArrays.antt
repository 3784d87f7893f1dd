-- The levels of a pass as the code has them: arrays by depth, and the running set of the deepest one in a variable. What is asked and
-- promised where a node is read and where levels are closed.
use Rattle.std.specs.Prelude.{◌≡◌, false, List, [], ◌∷◌, ℕ, zero, suc, ◌+◌, ◌≤◌, length, get_or, take, drop}
use Rattle.rule.specs.Limits.{max_states}
use Rattle.tree.specs.Inner.PackedNodes.{nodes_in}
use Rattle.tree.specs.Inner.Places.{places}
use Rattle.step.specs.Inner.Pass.{Level, entered, Pass, closed_to}
use Rattle.step.specs.declared.pass.Levels.{Levels}
use Rattle.step.specs.declared.pass.NewLabels.{NewLabels}
use Rattle.step.specs.declared.pass.Standing.{Standing}

-- they have a place for each depth
abbrev pub EachDepth : Levels → Type 0
EachDepth A =
    (length A.above ≡ suc max_states)
    × ((length A.waiting ≡ suc max_states) × ((length A.sprout ≡ suc max_states) × (length A.named ≡ suc max_states)))

-- the level at depth d with a running set
abbrev pub level_at : Levels → ℕ → ℕ → Level
level_at A d running =
    record { above = get_or A.above d 0; running = running; sprout = get_or A.sprout d 0; named = get_or A.named d false }

-- the first c levels, the deepest first: they wait
unfoldable pub waiting_levels : Levels → ℕ → List Level
waiting_levels A zero = []
waiting_levels A (suc c) = level_at A c (get_or A.waiting c 0) ∷ waiting_levels A c

-- all levels, where the pass stands
abbrev pub levels_of : Levels → Standing → List Level
levels_of A at = level_at A at.top at.running ∷ waiting_levels A at.top

-- where the pass stands once a node of the deepest level is read
pub record Entered (m : NewLabels) (at : Standing) (A : Levels) (next : Standing) (B : Levels) : Type 0 where
  pub deeper : next.top ≤ suc at.top
  pub written : next.written ≡ at.written
  pub sizes : EachDepth B
  pub levels : levels_of B next ≡ entered m (levels_of A at)

-- the pass that has written the first nodes of a side
abbrev pub pass_at : List ℕ → Levels → Standing → ℕ → ℕ → Pass
pass_at side A at accepting stable =
    record { levels = levels_of A at; nodes = take at.written (nodes_in side); accepting = accepting; stable = stable }

-- there is room for the sprouted children of all levels
pub record Closable (A : Levels) (at : Standing) : Type 0 where
  pub by_depth : EachDepth A
  pub shallow : at.top ≤ max_states
  pub room : at.written + at.top ≤ places

-- the levels deeper than `depth` are closed; all else on the side is as it was
pub record Closing (A : Levels) (depth : ℕ) (at : Standing) (side : List ℕ) (end : Standing) (after : List ℕ) : Type 0 where
  pub long : length after ≡ places
  pub behind : drop end.written after ≡ drop end.written side
  pub shallow : end.top ≤ depth
  pub shallower : end.top ≤ at.top
  pub more : at.written ≤ end.written
  pub room : end.written + end.top ≤ at.written + at.top
  pub pass : (accepting stable : ℕ) → pass_at after A end accepting stable ≡ closed_to depth (pass_at side A at accepting stable)
