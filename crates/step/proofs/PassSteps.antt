-- The pass one move at a time: a level is closed, a node is passed over, or a node is read.
use mathlib.Core.Path.{◌≡◌, refl, ◌∙◌, ap}
use mathlib.Core.Bool.{Bool, true, false}
use mathlib.Core.List.{List, [], ◌∷◌, ◌++◌, append_assoc, append-nil}
use Prim.Native.Nat.{ℕ, suc, ◌+◌, ◌^◌, ◌≤◌, ◌<◌}
use native.Mathlib.Omega.{arith}
use native.Mathlib.Decide.{dec_lt}
use borrow.Author.Tests.{lt-ltb, le-ltb}
use lib.Bits.{bit_or}
use lib.Dec.{eqb}
use lib.ListN.{length}
use Rattle.history.specs.Letter.{next_set}
use Rattle.tree.specs.declared.nodes.Node.{Node as CodeNode}
use Rattle.step.specs.Inner.Pass.{Level, held, written, sprout_node, levels_to, sprouts_to, deepest, Pass, closed_to, new_labels, passed_node, read_node, read_nodes, settled_node, joined_if, entered}
use Rattle.step.specs.declared.pass.NewLabels.{NewLabels}

-- a level and a pass by their parts
abbrev pub level : ℕ → ℕ → ℕ → Bool → Level
level above running sprout named = record { above = above; running = running; sprout = sprout; named = named }

abbrev pub pass : List Level → List CodeNode → ℕ → ℕ → Pass
pass levels nodes accepting stable = record { levels = levels; nodes = nodes; accepting = accepting; stable = stable }

-- CLOSING

-- the node that the closing of a level at depth d writes
abbrev pub sprout_of_level : ℕ → Level → List CodeNode
sprout_of_level d l = written (sprout_node d l.sprout (held l))

-- a level deeper than d is closed
pub closed_level : (d : ℕ) (l : Level) (levels : List Level) (nodes : List CodeNode) (accepting stable : ℕ) → d < length levels
    → closed_to d (pass (l ∷ levels) nodes accepting stable)
    ≡ closed_to d (pass levels (nodes ++ sprout_of_level (length levels) l) accepting stable)
unfolding closed_to levels_to sprouts_to
closed_level d l levels nodes accepting stable h =
    rw (lt-ltb d (length levels) h, append_assoc nodes (sprout_of_level (length levels) l) (sprouts_to d levels))

-- levels no deeper than d stay
levels_stay : (d : ℕ) (levels : List Level) → length levels ≤ suc d → (levels_to d levels ≡ levels) × (sprouts_to d levels ≡ [])
unfolding levels_to sprouts_to
levels_stay d [] h = (refl, refl)
levels_stay d (l ∷ levels) h = let e = le-ltb d (length levels) (omega arith) in (rw e, rw e)

pub none_closed : (d : ℕ) (p : Pass) → length p.levels ≤ suc d → closed_to d p ≡ p
unfolding closed_to
none_closed d p h = let (same, none) = levels_stay d p.levels h in rw (same, none, append-nil p.nodes)

-- levels deeper than c are closed first, then those deeper than d
levels_again : (d c : ℕ) (levels : List Level) → d ≤ c
    → (levels_to d (levels_to c levels) ≡ levels_to d levels) × (sprouts_to c levels ++ sprouts_to d (levels_to c levels) ≡ sprouts_to d levels)
unfolding levels_to sprouts_to
levels_again d c [] h = (refl, refl)
levels_again d c (l ∷ levels) h = go (levels_again d c levels h) (dec_lt c (length levels))
  where
    go : (levels_to d (levels_to c levels) ≡ levels_to d levels) × (sprouts_to c levels ++ sprouts_to d (levels_to c levels) ≡ sprouts_to d levels)
        → Dec (c < length levels)
        → (levels_to d (levels_to c (l ∷ levels)) ≡ levels_to d (l ∷ levels))
        × (sprouts_to c (l ∷ levels) ++ sprouts_to d (levels_to c (l ∷ levels)) ≡ sprouts_to d (l ∷ levels))
    go (same, more) (yes deep) =
        let closes = lt-ltb c (length levels) deep in
        let closes-too = lt-ltb d (length levels) (omega arith) in (
          rw (closes, closes-too) same,
          rw (
            closes,
            closes-too,
            append_assoc (sprout_of_level (length levels) l) (sprouts_to c levels) (sprouts_to d (levels_to c levels)),
            more,
          ),
        )
    go further (no shallow) = let stays = le-ltb c (length levels) (omega arith) in (rw stays, rw stays)

pub closed_again : (d c : ℕ) (p : Pass) → d ≤ c → closed_to d (closed_to c p) ≡ closed_to d p
unfolding closed_to
closed_again d c p h =
    let (same, more) = levels_again d c p.levels h in
    rw (same, append_assoc p.nodes (sprouts_to c p.levels) (sprouts_to d (levels_to c p.levels)), more)

-- no level deeper than d is left, and none is new
pub levels_left : (d : ℕ) (levels : List Level) → (length (levels_to d levels) ≤ suc d) × (length (levels_to d levels) ≤ length levels)
unfolding levels_to
levels_left d [] = (omega arith, omega arith)
levels_left d (l ∷ levels) = go (levels_left d levels) (dec_lt d (length levels))
  where
    go : (length (levels_to d levels) ≤ suc d) × (length (levels_to d levels) ≤ length levels) → Dec (d < length levels)
        → (length (levels_to d (l ∷ levels)) ≤ suc d) × (length (levels_to d (l ∷ levels)) ≤ length (l ∷ levels))
    go (few, fewer) (yes deep) = let closes = lt-ltb d (length levels) deep in (rw closes few, rw closes (omega arith))
    go (few, fewer) (no shallow) = let stays = le-ltb d (length levels) (omega arith) in (rw stays (omega arith), rw stays (omega arith))

-- READING

module _ (E : ℕ → ℕ → ℕ) (k : ℕ) where
  module _ (i : ℕ) (p : Pass) (x : CodeNode) where
    -- a node deeper than the deepest level is passed over
    pub read_skips : length p.levels ≤ x.depth → read_node E k i x p ≡ p
    unfolding read_node
    read_skips h = rw (le-ltb x.depth (length p.levels) h)

    -- a node of the deepest level is read
    pub read_deepest : length p.levels ≡ suc x.depth
        → read_node E k i x p ≡ passed_node k i x (new_labels E x (held (deepest p.levels))) p
    unfolding read_node
    read_deepest h = rw (lt-ltb x.depth (length p.levels) (omega arith))

  -- no node, or a first one
  pub read_nil : (i : ℕ) (p : Pass) → read_nodes E k i p [] ≡ p
  unfolding read_nodes
  read_nil i p = refl

  pub read_cons_lem : (i : ℕ) (p : Pass) (x : CodeNode) (nodes : List CodeNode)
      → read_nodes E k i p (x ∷ nodes) ≡ read_nodes E k (suc i) (read_node E k i x (closed_to x.depth p)) nodes
  unfolding read_nodes
  read_cons_lem i p x nodes = refl

  -- some nodes, then some more
  pub read_append : (i : ℕ) (p : Pass) (nodes more : List CodeNode)
      → read_nodes E k i p (nodes ++ more) ≡ read_nodes E k (i + length nodes) (read_nodes E k i p nodes) more
  unfolding read_nodes
  read_append i p [] more = let e : i ≡ i + 0 = omega arith in ap (λ (n : ℕ). read_nodes E k n p more) e
  read_append i p (x ∷ nodes) more =
      let e : suc i + length nodes ≡ i + suc (length nodes) = omega arith in
      read_append (suc i) (read_node E k i x (closed_to x.depth p)) nodes more
      ∙ ap (λ (n : ℕ). read_nodes E k n (read_nodes E k (suc i) (read_node E k i x (closed_to x.depth p)) nodes) more) e

-- READING A NODE

module _ (k i : ℕ) (x : CodeNode) (m : NewLabels) (l : Level) (levels : List Level) (nodes : List CodeNode) (accepting stable : ℕ) where
  -- a node that is removed
  pub passed_removed : eqb m.label 0 ≡ true
      → passed_node k i x m (pass (l ∷ levels) nodes accepting stable)
      ≡ pass (level l.above l.running l.sprout false ∷ levels) nodes accepting stable
  unfolding passed_node entered
  passed_removed gone = rw gone

  -- one that loses its descendants and accepts
  pub passed_accepting : eqb m.label 0 ≡ false → eqb m.label m.kids ≡ true
      → passed_node k i x m (pass (l ∷ levels) nodes accepting stable)
      ≡ pass (level l.above (bit_or l.running m.label) l.sprout l.named ∷ levels)
      (nodes ++ (record { depth = x.depth; label = m.label; kids = 0; active = next_set k x.active; old = i } ∷ []))
      (bit_or accepting (2 ^ i)) (joined_if stable i l.named)
  unfolding passed_node entered settled_node joined_if deepest
  passed_accepting stays full = rw (stays, full)

  -- one that keeps its children
  pub passed_kept : eqb m.label 0 ≡ false → eqb m.label m.kids ≡ false
      → passed_node k i x m (pass (l ∷ levels) nodes accepting stable)
      ≡ pass (level (held l) 0 m.sprout l.named
      ∷ level l.above (bit_or l.running m.label) l.sprout l.named ∷ levels)
      (nodes ++ (record { depth = x.depth; label = m.label; kids = m.kids; active = x.active; old = i } ∷ []))
      accepting (joined_if stable i l.named)
  unfolding passed_node entered settled_node joined_if deepest
  passed_kept stays other = rw (stays, other)

-- no level is deeper than the children of the node that is read
entered_most : (m : NewLabels) (levels : List Level) → length (entered m levels) ≤ suc (length levels)
unfolding entered
entered_most m [] = omega arith
entered_most m (l ∷ levels) = go (eqb m.label 0) (eqb m.label m.kids) refl refl
  where
    go : (gone full : Bool) → eqb m.label 0 ≡ gone → eqb m.label m.kids ≡ full
        → length (entered m (l ∷ levels)) ≤ suc (suc (length levels))
    go true full e e' = rw e (omega arith)
    go false true e e' = rw (e, e') (omega arith)
    go false false e e' = rw (e, e') (omega arith)

passed_levels : (k i : ℕ) (x : CodeNode) (m : NewLabels) (p : Pass) → (passed_node k i x m p).levels ≡ entered m p.levels
unfolding passed_node
passed_levels k i x m p = go (eqb m.label 0) refl
  where
    go : (gone : Bool) → eqb m.label 0 ≡ gone → (passed_node k i x m p).levels ≡ entered m p.levels
    go true e = rw e
    go false e = rw e

read_most : (E : ℕ → ℕ → ℕ) (k i : ℕ) (x : CodeNode) (p : Pass) → length (read_node E k i x p).levels ≤ suc (length p.levels)
unfolding read_node
read_most E k i x p = go (dec_lt x.depth (length p.levels))
  where
    m : NewLabels
    m = new_labels E x (held (deepest p.levels))

    go : Dec (x.depth < length p.levels) → length (read_node E k i x p).levels ≤ suc (length p.levels)
    go (yes h) = rw (lt-ltb x.depth (length p.levels) h, passed_levels k i x m p) (entered_most m p.levels)
    go (no h) = rw (le-ltb x.depth (length p.levels) (omega arith)) (omega arith)

pub levels_open : (E : ℕ → ℕ → ℕ) (k i : ℕ) (x : CodeNode) (p : Pass)
    → length (read_node E k i x (closed_to x.depth p)).levels ≤ suc (suc x.depth)
unfolding closed_to
levels_open E k i x p = omega (arith, read_most E k i x (closed_to x.depth p), (levels_left x.depth p.levels).0)
