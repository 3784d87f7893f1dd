-- One node under one letter: what the tree theorem needs to know of a single letter.
--   Where labels come from: each state of a new label has a predecessor in the old one; each state below an old
--   predecessor below, or a predecessor in the node by a transition of the active set.
--   What is kept: a transition of the active set leads into the children; from a child any transition leads into a
--   child, whose place among its siblings is no higher; if the place is the same, that child and all older ones survive.
-- The children of a node make the same kind of step, so this serves at every depth.
use mathlib.Core.Path.{◌≡◌, refl, sym, ◌∙◌}
use mathlib.Core.Logic.{◌⊎◌, ⊎_elim}
use mathlib.Core.Bool.{Bool, true, false, not, ◌||◌, cond, or-true}
use mathlib.Core.List.{List, [], ◌∷◌}
use Prim.Native.Nat.{ℕ, zero, suc, ◌≤◌}
use native.Mathlib.Omega.{arith}
use lib.Bits.{bit_or}
use lib.Dec.{eqb}
use borrow.Author.Tests.{eqb-true}
use Rattle.base.specs.BitSet.{member}
use Rattle.base.proofs.Logic.{look, clash, never, and_in, or_in, not_in}
use Rattle.base.proofs.BitSet.{member_none, member_union, member_minus, image_in, image_out}
use Rattle.rule.specs.Rule.{Rule, edge, edge_in, successors, successors_in}
use Rattle.rule.specs.WellFormed.{WellFormed}
use Rattle.rule.proofs.Edges.{edge_inside, edge_in_edge}
use Rattle.history.specs.Forest.{nil, node}
use Rattle.history.specs.Tree.{Node, Tree, labels}
use Rattle.history.specs.Letter.{next_set}
use Rattle.history.proofs.Step.LocalStep.{settled, settle, new_label, sprout_of, step, Branch, branch_at, survive, taken, new_below, accepts, step_branch, branch_of, taken_at, name_kept}
use Rattle.history.proofs.Step.LabelsOfStep.{labels_step}

-- the place of the first sibling that holds q
unfoldable pub place_of : ℕ → Tree → ℕ
place_of q nil = 0
place_of q (node x below younger) = cond (member x.label q) 0 (suc (place_of q younger))

-- the sibling at that place holds q
pub holds_at_place : (q : ℕ) (T : Tree) → member (labels T) q ≡ true → member (branch_at T (place_of q T)).top.label q ≡ true
unfolding labels branch_at place_of
holds_at_place q nil h = clash (member_none q) h
holds_at_place q (node x below younger) h =
    go (holds_at_place q younger) (member x.label q) refl (sym (member_union x.label (labels younger) q) ∙ h)
  where
    go : (member (labels younger) q ≡ true → member (branch_at younger (place_of q younger)).top.label q ≡ true)
        → (b : Bool) → member x.label q ≡ b → (b || member (labels younger) q) ≡ true
        → member (branch_at (node x below younger) (cond b 0 (suc (place_of q younger)))).top.label q ≡ true
    go further true e k = e
    go further false e k = further k

-- a set with a member does not test empty
member_filled : (s q : ℕ) → member s q ≡ true → eqb s 0 ≡ false
member_filled s q h = never _ (λ e. clash (member_none q) (rw (eqb-true s 0 e) at h))

module _ (R : Rule) where
  -- SUCCESSORS

  -- each successor has a predecessor
  pub successors_out : (a s r : ℕ) → member (successors R a s) r ≡ true → (q : ℕ) × (member s q ≡ true) × (edge R.grid a q r ≡ true)
  unfolding successors
  successors_out a s r h = let (q, _, _, m, e) = image_out R.states (edge R.grid a) s r h in (q, m, e)

  pub successors_in_out : (i a s r : ℕ) → member (successors_in R i a s) r ≡ true
      → (q : ℕ) × (member s q ≡ true) × (edge_in R.grid i a q r ≡ true)
  unfolding successors_in
  successors_in_out i a s r h = let (q, _, _, m, e) = image_out R.states (edge_in R.grid i a) s r h in (q, m, e)

  -- and each transition leads to a successor
  pub successors_in_lem : WellFormed R → (a s q r : ℕ) → member s q ≡ true → edge R.grid a q r ≡ true
      → member (successors R a s) r ≡ true
  unfolding successors
  successors_in_lem well a s q r m e =
      let (_, hq, hr) = edge_inside R well a q r e in image_in R.states (edge R.grid a) s q r hq hr m e

  pub successors_in_in : WellFormed R → (i a s q r : ℕ) → member s q ≡ true → edge_in R.grid i a q r ≡ true
      → member (successors_in R i a s) r ≡ true
  unfolding successors_in
  successors_in_in well i a s q r m e =
      let (_, hq, hr) = edge_inside R well a q r (edge_in_edge R.grid i a q r e) in
      image_in R.states (edge_in R.grid i a) s q r hq hr m e

  module _ (a : ℕ) where
    -- THE BRANCH AFTER THE LETTER

    pub step_accepting : (older : ℕ) (b : Branch) → accepts R a older b ≡ true
        → step_branch R a older b
        ≡ record { top = record { label = new_label R a older b.top; active = next_set R.sets b.top.active }; below = nil }
    unfolding step_branch
    step_accepting older b e = rw e

    pub step_quiet : (older : ℕ) (b : Branch) → accepts R a older b ≡ false
        → step_branch R a older b
        ≡ record { top = record { label = new_label R a older b.top; active = b.top.active }; below = new_below R a older b }
    unfolding step_branch
    step_quiet older b e = rw e

    pub step_label : (older : ℕ) (b : Branch) → (step_branch R a older b).top.label ≡ new_label R a older b.top
    step_label older b = ⊎_elim (λ e. rw (step_accepting older b e)) (λ e. rw (step_quiet older b e)) (look (accepts R a older b))

    -- WHERE LABELS COME FROM

    -- a state of the new label is a successor, and not taken
    pub label_from : (older : ℕ) (x : Node) (q : ℕ) → member (new_label R a older x) q ≡ true
        → (member (successors R a x.label) q ≡ true) × (member older q ≡ false)
    unfolding new_label
    label_from older x q h =
        let (m, n) = and_in (member (successors R a x.label) q) _ (sym (member_minus _ older q) ∙ h) in (m, not_in _ n)

    -- a state below comes from below, or from the node by its active set
    pub below_from : (older : ℕ) (b : Branch) (q : ℕ) → member (labels (new_below R a older b)) q ≡ true
        → (member (successors R a (labels b.below)) q ≡ true) ⊎ (member (sprout_of R a b.top) q ≡ true)
    unfolding new_below
    below_from older b q h =
        or_in _ _ (and_in (member (successors R a (labels b.below)) q || member (sprout_of R a b.top) q) _
        (sym (labels_step R a older (sprout_of R a b.top) b.below q) ∙ h)).0

    -- and where the node accepts, so does each state of its label
    pub accepted_from : (older : ℕ) (b : Branch) (q : ℕ) → accepts R a older b ≡ true → member (new_label R a older b.top) q ≡ true
        → (member (successors R a (labels b.below)) q ≡ true) ⊎ (member (sprout_of R a b.top) q ≡ true)
    unfolding accepts
    accepted_from older b q e h =
        below_from older b q (rw (eqb-true (new_label R a older b.top) (labels (new_below R a older b)) e) at h)

    -- a branch at its place, if all siblings up to it survive
    branch_settled : (e f : Bool) (x : Node) (below younger : Tree) → e ≡ false
        → branch_at (settled R.sets e f x below younger) 0
        ≡ cond f (record { top = record { label = x.label; active = next_set R.sets x.active }; below = nil })
        (record { top = x; below = below })
    unfolding settled branch_at
    branch_settled true f x below younger n = clash n refl
    branch_settled false true x below younger n = refl
    branch_settled false false x below younger n = refl

    younger_settled : (e f : Bool) (x : Node) (below younger : Tree) (i : ℕ) → e ≡ false
        → branch_at (settled R.sets e f x below younger) (suc i) ≡ branch_at younger i
    unfolding settled branch_at
    younger_settled true f x below younger i n = clash n refl
    younger_settled false true x below younger i n = refl
    younger_settled false false x below younger i n = refl

    pub branch_step : (older sprout : ℕ) (T : Tree) (i : ℕ) → survive R a older T i ≡ true
        → branch_at (step R a older sprout T) i ≡ step_branch R a (taken R a older T i) (branch_at T i)
    unfolding step settle survive taken step_branch branch_at accepts new_below
    branch_step older sprout nil i h = clash refl h
    branch_step older sprout (node x below younger) zero h = branch_settled _ _ _ _ _ (not_in _ h)
    branch_step older sprout (node x below younger) (suc i) h =
        let (n, rest) = and_in (not (eqb (new_label R a older x) 0)) _ h in
        younger_settled _ _ _ _ _ i (not_in _ n) ∙ branch_step (bit_or older (new_label R a older x)) sprout younger i rest

    -- a name that is kept: its branch goes on as a branch by itself
    pub name_step : (w : List ℕ) (older : ℕ) (b : Branch) → name_kept R a older b w ≡ true
        → branch_of (step_branch R a older b) w ≡ step_branch R a (taken_at R a older b w) (branch_of b w)
    unfolding branch_of name_kept taken_at new_below
    name_step [] older b h = refl
    name_step (i ∷ w) older b h =
        let (quiet, rest) = and_in (not (accepts R a older b)) _ h in
        let (alive, kept) = and_in (survive R a older b.below i) _ rest in
        rw (step_quiet older b (not_in _ quiet), branch_step older (sprout_of R a b.top) b.below i alive)
        (name_step w (taken R a older b.below i) (branch_at b.below i) kept)

    -- WHAT IS KEPT

    module _ (well : WellFormed R) where
      -- a transition of the active set leads into the children, unless the state is taken
      pub enters_below : (older : ℕ) (b : Branch) (q r : ℕ) → member b.top.label q ≡ true
          → edge_in R.grid b.top.active a q r ≡ true → member older r ≡ false → member (labels (new_below R a older b)) r ≡ true
      unfolding new_below sprout_of
      enters_below older b q r m e free = rw (labels_step, free, successors_in_in well _ a _ q r m e, or-true)

      -- siblings keep what they hold, unless it is taken
      pub stays_among : (older sprout : ℕ) (T : Tree) (q r : ℕ) → member (labels T) q ≡ true → edge R.grid a q r ≡ true
          → member older r ≡ false → member (labels (step R a older sprout T)) r ≡ true
      stays_among older sprout T q r m e free = rw (labels_step, free, successors_in_lem well a _ q r m e)

      -- the place among siblings of the one that holds the state does not rise
      place_settled : (e f : Bool) (x : Node) (below younger : Tree) (q i : ℕ) → member x.label q ≡ false
          → place_of q younger ≤ i → place_of q (settled R.sets e f x below younger) ≤ suc i
      unfolding settled place_of
      place_settled true f x below younger q i m h = omega arith
      place_settled false true x below younger q i m h = rw m (omega arith)
      place_settled false false x below younger q i m h = rw m (omega arith)

      first_settled : (e f : Bool) (x : Node) (below younger : Tree) (q : ℕ) → e ≡ false → member x.label q ≡ true
          → place_of q (settled R.sets e f x below younger) ≡ 0
      unfolding settled place_of
      first_settled true f x below younger q n m = clash n refl
      first_settled false true x below younger q n m = rw m
      first_settled false false x below younger q n m = rw m

      pub place_falls : (older sprout : ℕ) (T : Tree) (q r : ℕ) → member (labels T) q ≡ true → edge R.grid a q r ≡ true
          → member older r ≡ false → place_of r (step R a older sprout T) ≤ place_of q T
      unfolding step settle place_of labels new_label
      place_falls older sprout nil q r m e free = clash (member_none q) m
      place_falls older sprout (node x below younger) q r m e free =
          go (place_falls (bit_or older (new_label R a older x)) sprout younger q r) (member x.label q) refl
          (member (new_label R a older x) r) refl (sym (member_union x.label (labels younger) q) ∙ m)
        where
          now : ℕ
          now = bit_or older (new_label R a older x)

          next : Tree
          next = step R a older sprout (node x below younger)

          go : (member (labels younger) q ≡ true → edge R.grid a q r ≡ true → member now r ≡ false
              → place_of r (step R a now sprout younger) ≤ place_of q younger)
              → (b : Bool) → member x.label q ≡ b → (c : Bool) → member (new_label R a older x) r ≡ c
              → (b || member (labels younger) q) ≡ true → place_of r next ≤ cond b 0 (suc (place_of q younger))
          go further b i true j k = let z : place_of r next ≡ 0 = first_settled _ _ _ _ _ r (member_filled _ r j) j in omega arith
          go further true i false j k = clash j (rw (member_minus, free, successors_in_lem well a _ q r i e))
          go further false i false j k =
              place_settled _ _ _ _ _ r (place_of q younger) j (further k e (rw (member_union, free, j)))

      -- if it is the same place, that sibling and all older ones survive, and none of the older ones takes the state
      same_settled : (e f : Bool) (x : Node) (below younger : Tree) (q i : ℕ) → member x.label q ≡ false
          → place_of q younger ≤ i → place_of q (settled R.sets e f x below younger) ≡ suc i → (e ≡ false) × (place_of q younger ≡ i)
      unfolding settled place_of
      same_settled true f x below younger q i m h s = absurd (omega arith)
      same_settled false true x below younger q i m h s = let s' = rw m at s in (refl, omega arith)
      same_settled false false x below younger q i m h s = let s' = rw m at s in (refl, omega arith)

      pub place_same : (older sprout : ℕ) (T : Tree) (q r : ℕ) → member (labels T) q ≡ true → edge R.grid a q r ≡ true
          → member older r ≡ false → place_of r (step R a older sprout T) ≡ place_of q T
          → (survive R a older T (place_of q T) ≡ true) × (member (taken R a older T (place_of q T)) r ≡ false)
      unfolding step settle place_of labels survive taken new_label
      place_same older sprout nil q r m e free s = clash (member_none q) m
      place_same older sprout (node x below younger) q r m e free s =
          go (place_same (bit_or older (new_label R a older x)) sprout younger q r) (member x.label q) refl
          (member (new_label R a older x) r) refl (sym (member_union x.label (labels younger) q) ∙ m) s
        where
          now : ℕ
          now = bit_or older (new_label R a older x)

          next : Tree
          next = step R a older sprout (node x below younger)

          go : (member (labels younger) q ≡ true → edge R.grid a q r ≡ true → member now r ≡ false
              → place_of r (step R a now sprout younger) ≡ place_of q younger
              → (survive R a now younger (place_of q younger) ≡ true) × (member (taken R a now younger (place_of q younger)) r ≡ false))
              → (b : Bool) → member x.label q ≡ b → (c : Bool) → member (new_label R a older x) r ≡ c
              → (b || member (labels younger) q) ≡ true → place_of r next ≡ cond b 0 (suc (place_of q younger))
              → (survive R a older (node x below younger) (cond b 0 (suc (place_of q younger))) ≡ true)
              × (member (taken R a older (node x below younger) (cond b 0 (suc (place_of q younger)))) r ≡ false)
          go further true i true j k s = (rw (member_filled _ r j), free)
          go further true i false j k s = clash j (rw (member_minus, free, successors_in_lem well a _ q r i e))
          go further false i true j k s =
              let z : place_of r next ≡ 0 = first_settled _ _ _ _ _ r (member_filled _ r j) j in absurd (omega arith)
          go further false i false j k s =
              let now-free : member now r ≡ false = rw (member_union, free, j) in
              let (n, same) = same_settled _ _ _ _ _ r (place_of q younger) j (place_falls now sprout younger q r k e now-free) s in
              rw n (further k e now-free same)
