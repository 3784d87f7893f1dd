-- Two rules, each along a walk, with the same cells at every position, have the same trees, position by position. So they have the same
-- witnesses, wherever the trees at their round ends repeat: a witness is a name that is stable from some position on, and accepting again and
-- again. And if the walk is the same, so are the trees at the round ends, and where they repeat.
use mathlib.Core.Path.{◌≡◌, sym, ◌∙◌, ap, subst}
use mathlib.Core.List.{List}
use Prim.Native.Nat.{ℕ, zero, suc, ◌+◌, ◌*◌, ◌≤◌}
use native.Mathlib.Omega.{arith}
use lib.ListN.{length}
use Rattle.rule.specs.Rule.{Rule}
use Rattle.word.specs.Walk.{letter_at}
use Rattle.word.proofs.SameAlong.{SameAlong, along_back}
use Rattle.history.specs.Tree.{Tree, start_tree}
use Rattle.history.specs.Letter.{next_tree}
use Rattle.history.specs.Rounds.{round_tree, FirstRepeat}
use Rattle.history.specs.Verdict.{Witness}
use Rattle.history.specs.Finding.{Finding, yes_node, no_node, Found}
use Rattle.history.proofs.Step.SameSquares.{same_next, same_accepting, same_stable}
use Rattle.history.proofs.Walk.TreesOfWalk.{tree_at, tree_at_round}
use Rattle.history.proofs.Walk.WitnessByPosition.{stable_at, accepting_at, accepts_late, witness_lasts, lasts_witness}

-- TWO RULES, EACH ALONG A WALK

module _ {R S : Rule} {u v u' v' : List ℕ} (same : SameAlong R S u v u' v') where
  same_trees_lem : (p : ℕ) → tree_at R u v p ≡ tree_at S u' v' p
  unfolding tree_at start_tree
  same_trees_lem zero = rw same.start
  same_trees_lem (suc p) =
      same_next R S same.states same.sets (letter_at u v p) (letter_at u' v' p) (same.cells p) (tree_at R u v p)
      ∙ ap (next_tree S (letter_at u' v' p)) (same_trees_lem p)

  -- a name is stable and accepting at the same positions
  same_stable_at : (w : List ℕ) (p : ℕ) → stable_at R u v w p ≡ stable_at S u' v' w p
  same_stable_at w p = rw (← same_trees_lem p)
      (same_stable R S same.states same.sets (letter_at u v p) (letter_at u' v' p) (same.cells p) (tree_at R u v p) w)

  same_accepting_at : (w : List ℕ) (p : ℕ) → accepting_at R u v w p ≡ accepting_at S u' v' w p
  same_accepting_at w p = rw (← same_trees_lem p)
      (same_accepting R S same.states same.sets (letter_at u v p) (letter_at u' v' p) (same.cells p) (tree_at R u v p) w)

-- wherever the trees of each repeat, a witness of one is a witness of the other
witness_along : {R S : Rule} {u v u' v' : List ℕ} → SameAlong R S u v u' v' → 1 ≤ length v → 1 ≤ length v'
    → {entry period entry' period' : ℕ} → FirstRepeat (round_tree R u v) entry period → FirstRepeat (round_tree S u' v') entry' period'
    → (w : List ℕ) → Witness R u v entry period w → Witness S u' v' entry' period' w
witness_along {R} {S} {u} {v} {u'} {v'} same filled filled' {entry} {period} {entry'} {period'} F F' w W =
    let L = witness_lasts R u v filled entry period F entry (omega arith) w W in
    let (q, behind, accepts) = accepts_late L (length u' + entry' * length v') in
    lasts_witness S u' v' filled' entry' period' F' entry' (omega arith) w (length u + entry * length v)
    (λ p h. sym (same_stable_at same w p) ∙ L.stays p h) q behind (sym (same_accepting_at same w q) ∙ accepts)

-- so what is found of one is found of the other
module _ {R S : Rule} {u v u' v' : List ℕ} (same : SameAlong R S u v u' v') (filled : 1 ≤ length v) (filled' : 1 ≤ length v')
    {entry period entry' period' : ℕ} (F : FirstRepeat (round_tree R u v) entry period) (F' : FirstRepeat (round_tree S u' v') entry' period') where
  back : (w : List ℕ) → Witness S u' v' entry' period' w → Witness R u v entry period w
  back = witness_along (along_back same) filled' filled F' F

  pub found_along : (finding : Finding) → Found R u v entry period finding → Found S u' v' entry' period' finding
  found_along (yes_node w) f = record {
    witness = witness_along same filled filled' F F' w f.witness;
    first = λ p W before. f.first p (back p W) before;
  }
  found_along no_node none = λ w W. none w (back w W)

-- TWO RULES ALONG ONE WALK

module _ {R S : Rule} {u v : List ℕ} (same : SameAlong R S u v u v) (filled : 1 ≤ length v) where
  rounds_along : (r : ℕ) → round_tree R u v r ≡ round_tree S u v r
  rounds_along r = sym (tree_at_round R u v filled r) ∙ same_trees_lem same (length u + r * length v) ∙ tree_at_round S u v filled r

  pub repeat_along : {entry period : ℕ} → FirstRepeat (round_tree R u v) entry period → FirstRepeat (round_tree S u v) entry period
  repeat_along {entry} {period} F = subst (λ (t : ℕ → Tree). FirstRepeat t entry period) (λ i r. rounds_along r i) F
