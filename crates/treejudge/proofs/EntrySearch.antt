-- The search for the entry, with the period known: two places that are a period apart go forward together, towards the entry.
use mathlib.Core.Path.{◌≡◌}
use mathlib.Core.Bool.{true, false}
use mathlib.Core.List.{List}
use Prim.Native.Nat.{ℕ, ◌+◌, ◌-◌, ◌≤◌}
use native.Mathlib.Omega.{arith}
use native.Mathlib.Decide.{ℕ_discrete}
use Rattle.rule.specs.Rule.{Rule}
use Rattle.word.specs.Inner.WalkLookups.{Lookups}
use Rattle.history.specs.Rounds.{read_letters, round_tree}
use Rattle.history.proofs.Walk.TreesOfWalk.{round_next}
use Rattle.history.proofs.Repeat.FirstRepeats.{repeat_only}
use Rattle.tree.specs.declared.nodes.Tree.{Tree as CodeTree}
use Rattle.letters.specs.Inner.Reading.{ReadsTo}
use Rattle.treejudge.specs.Inner.SameNodes.{same_trees}
use Rattle.treejudge.specs.Inner.Cycles.{AtRound, Ahead, ReadTo, Bracket, Searched}
use Rattle.treejudge.specs.declared.cycle.Cycle.{Cycle}
use Rattle.treejudge.proofs.RoundsRead.{round_read, rounds_read, nodes_same, nodes_differ}

module _ {R : Rule} {u v : List ℕ} {lookups : Lookups} {k entry period place high : ℕ} {x y : CodeTree}
    (N : Bracket R u v lookups k entry period place high x y) where
  -- where the two trees are the same, the place is the entry
  pub entry_here : same_trees x y ≡ true → place ≡ entry
  entry_here same =
      let F = N.repeat in
      let (late, _) = repeat_only (round_tree R u v) (read_letters R v) (round_next R u v) entry period F place (place + period)
      (omega (arith, F.positive)) (nodes_same N.place N.ahead same) in
      omega (arith, N.from)

  module _ (differ : same_trees x y ≡ false) where
    -- otherwise the entry is later
    pub entry_later : place + 1 ≤ entry
    entry_later = go (ℕ_discrete place entry)
      where
        go : Dec (place ≡ entry) → place + 1 ≤ entry
        go (yes e) = absurd (nodes_differ N.place N.ahead differ (rw e N.repeat.back))
        go (no e) = omega (arith, N.from)

    -- and both places go forward
    pub bracket_more : {x' y' : CodeTree} → ReadsTo lookups k v x x' → ReadsTo lookups k v y y'
        → Bracket R u v lookups k entry period (place + 1) high x' y'
    bracket_more read read-ahead =
        let e : place + period + 1 ≡ place + 1 + period = omega arith in
        record {
          place = round_read N.place read;
          ahead = rw e at (round_read N.ahead read-ahead);
          repeat = N.repeat;
          from = entry_later;
          upto = N.upto;
        }

-- WHERE THE SEARCH BEGINS

module _ {R : Rule} {u v : List ℕ} {lookups : Lookups} {k entry period : ℕ} {first : CodeTree} {c : Cycle}
    (S : Searched R u v lookups k entry period first c) where
  -- the tree that is saved, and the one that was saved before
  pub saved_place : AtRound R u v lookups k (c.power - 1) c.saved
  saved_place = record { holds = S.place.holds; has_lookups = S.place.has_lookups; tree = S.cycle.saved }

  pub before_place : AtRound R u v lookups k (c.half - 1) c.before
  before_place = record { holds = S.place.holds; has_lookups = S.place.has_lookups; tree = S.cycle.before }

  -- a place no later than the entry, and the one a period further
  bracket_from : {low : ℕ} → low ≤ entry → {x y : CodeTree}
      → AtRound R u v lookups k low x → AtRound R u v lookups k (low + c.period) y
      → Bracket R u v lookups k entry c.period low (c.power - 1) x y
  bracket_from from here there = record {
    place = here;
    ahead = there;
    repeat = rw S.cycle.back S.repeat;
    from = from;
    upto = S.cycle.late;
  }

  -- from t(0) on
  pub bracket_first : {y : CodeTree} → ReadTo lookups k v (c.half - 1) c.before (c.power - 1) c.saved c.period y
      → Bracket R u v lookups k entry c.period 0 (c.power - 1) first y
  unfolding ReadTo
  bracket_first on = let e : c.period ≡ 0 + c.period = omega arith in
      bracket_from (omega arith) S.place (rw e at (on R u before_place saved_place))

  module _ (short : c.period ≤ c.half) where
    -- a period no longer than `half` begins at t(half) or later
    pub entry_from_half : c.half ≤ entry
    entry_from_half = S.cycle.skips (omega (arith, S.cycle.back))

    module _ {x : CodeTree} (read : Ahead lookups k v 1 c.before x) where
      pub half_place : AtRound R u v lookups k c.half x
      half_place = rounds_read before_place 1 read (omega (arith, S.repeat.positive, S.cycle.back))

      -- so the search may begin there
      pub bracket_half : {y : CodeTree} → ReadTo lookups k v c.half x (c.power - 1) c.saved (c.half + c.period) y
          → Bracket R u v lookups k entry c.period c.half (c.power - 1) x y
      unfolding ReadTo
      bracket_half on = bracket_from entry_from_half half_place (on R u half_place saved_place)
