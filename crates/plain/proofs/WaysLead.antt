-- Letters read by their look-ups lead where the paths of the rule lead: the states after the lead-in, and the rows of a tail.
use mathlib.Core.Path.{◌≡◌, refl, sym, ◌∙◌, ap, subst}
use mathlib.Core.Logic.{◌⊎◌, ⊎_elim, inl, inr}
use mathlib.Core.Bool.{Bool, true, ◌&&◌}
use mathlib.Core.List.{List, [], ◌∷◌}
use Prim.Native.Nat.{ℕ, zero, suc, ◌^◌, ◌≤◌, ◌<◌}
use native.Mathlib.Omega.{arith}
use borrow.Author.Tests.{eqb-true, eq-eqb}
use lib.Bits.{bit_or}
use lib.Dec.{eqb}
use lib.ListN.{get_or}
use lib.Pow.{pow-lt}
use Rattle.base.specs.BitSet.{member}
use Rattle.base.specs.Lists.{Every}
use Rattle.base.proofs.BitSet.{member_none, member_single, member_union, image_in, image_out}
use Rattle.base.proofs.Logic.{clash, and_in, or_l, or_r, or_in}
use Rattle.rule.specs.Limits.{max_sets}
use Rattle.rule.specs.Inner.Lanes.{lane_width, map_of}
use Rattle.rule.specs.Inner.Lookup.{Lookup, look_up}
use Rattle.rule.specs.Rule.{Rule, cell_at, edge, edge_in, successors, successors_in}
use Rattle.rule.specs.WellFormed.{WellFormed}
use Rattle.rule.proofs.Edges.{edge_inside, edge_in_edge, edge_in_member, member_edge_in}
use Rattle.rule.proofs.LaneLaws.{in_lane_member}
use Rattle.rule.proofs.LookupLaws.{look_up_successors, look_up_successors_in}
use Rattle.word.specs.Lasso.{Leads}
use Rattle.word.specs.Inner.WalkLookups.{Lookups, HasLookup}
use Rattle.plain.specs.Inner.Letters.{over, states_after, own_row, extended, row_after}
use Rattle.plain.proofs.LetterLaws.{onward_in, onward_out, extended_at}
use Rattle.plain.proofs.WayLaws.{Takes, takes_union, takes_apart}

-- a way of a row to q, and behind it one whose transitions have the sets c: relation i has the two together
abbrev Behind : ℕ → ℕ → ℕ → ℕ → Type 0
Behind row q c i = (member (map_of row i) q ≡ true) ⊎ ((member (map_of row 0) q ≡ true) × Takes c i)

-- the row of no letter: its state by relation 0
own_at : (s i t : ℕ) → s < lane_width → member (map_of (own_row s) i) t ≡ (eqb i 0 && eqb s t)
unfolding own_row
own_at s i t s-lt = in_lane_member (2 ^ s) 0 i t (pow-lt s-lt) ∙ ap (λ (b : Bool). eqb i 0 && b) (member_single s t)

own_out : (s i t : ℕ) → s < lane_width → member (map_of (own_row s) i) t ≡ true → (s ≡ t) × (i ≡ 0)
own_out s i t s-lt m = let (lowest, same) = and_in (eqb i 0) (eqb s t) (sym (own_at s i t s-lt) ∙ m) in
    (eqb-true s t same, eqb-true i 0 lowest)

own_in : (s : ℕ) → s < lane_width → member (map_of (own_row s) 0) s ≡ true
own_in s s-lt = own_at s 0 s s-lt ∙ eq-eqb s s refl

module _ (R : Rule) (well : WellFormed R) (states : R.states ≤ lane_width) (lookups : Lookups) where
  -- ONE LETTER

  module _ (a : ℕ) (has_lookups : HasLookup R lookups a) where
    abbrev lookup : Lookup
    lookup = get_or lookups a []

    -- a look-up has the states that transitions lead to
    look_out : (i S r : ℕ) → i ≤ max_sets → member (look_up lookup i S) r ≡ true
        → (q : ℕ) × (member S q ≡ true) × (edge R.grid a q r ≡ true) × Takes (cell_at R.grid a q r) i
    unfolding successors successors_in
    look_out zero S r h m =
        let (q, _, _, inside, e) = image_out R.states (edge R.grid a) S r
        (rw (has_lookups.entries, look_up_successors R well states a S) at m) in
        (q, inside, e, tt)
    look_out (suc i) S r h m =
        let (q, _, _, inside, e) = image_out R.states (edge_in R.grid (suc i) a) S r
        (rw (has_lookups.entries, look_up_successors_in R well states (suc i) a S (omega arith) (omega arith)) at m) in
        (q, inside, edge_in_edge R.grid (suc i) a q r e, edge_in_member R.grid i a q r e)

    look_in : (i S q r : ℕ) → i ≤ max_sets → member S q ≡ true → edge R.grid a q r ≡ true → Takes (cell_at R.grid a q r) i
        → member (look_up lookup i S) r ≡ true
    unfolding successors successors_in
    look_in zero S q r h m e takes =
        let (_, q-lt, r-lt) = edge_inside R well a q r e in
        rw (has_lookups.entries, look_up_successors R well states a S) (image_in R.states (edge R.grid a) S q r q-lt r-lt m e)
    look_in (suc i) S q r h m e takes =
        let (_, q-lt, r-lt) = edge_inside R well a q r e in
        rw (has_lookups.entries, look_up_successors_in R well states (suc i) a S (omega arith) (omega arith))
        (image_in R.states (edge_in R.grid (suc i) a) S q r q-lt r-lt m (member_edge_in R.grid i a q r e takes))

    -- the ways of a row with the letter behind it: a way of the row, and a transition behind it
    extended_out : (row r i : ℕ) → i ≤ max_sets → member (map_of (extended lookup row) i) r ≡ true
        → (q : ℕ) × (edge R.grid a q r ≡ true) × Behind row q (cell_at R.grid a q r) i
    extended_out row r i h m = ⊎_elim
        (λ k. let (q, inside, e, takes) = look_out i (map_of row 0) r h k in (q, e, inr (inside, takes)))
        (λ k. let (q, inside, e, _) = look_out 0 (map_of row i) r (omega arith) (onward_out lookup (map_of row i) r k) in (q, e, inl inside))
        (or_in (member (look_up lookup i (map_of row 0)) r) _ (sym (member_union _ _ r) ∙ (rw (extended_at lookup row i h) at m)))

    extended_in : (row q r i : ℕ) → i ≤ max_sets → edge R.grid a q r ≡ true → Behind row q (cell_at R.grid a q r) i
        → member (map_of (extended lookup row) i) r ≡ true
    extended_in row q r i h e (inl k) = rw (extended_at lookup row i h) (member_union _ _ r
        ∙ or_r (member (look_up lookup i (map_of row 0)) r) _ (onward_in lookup (map_of row i) q r k (look_in 0 (map_of row i) q r (omega arith) k e tt)))
    extended_in row q r i h e (inr (k, takes)) = rw (extended_at lookup row i h) (member_union _ _ r
        ∙ or_l (member (look_up lookup i (map_of row 0)) r) _ (look_in i (map_of row 0) q r h k e takes))

  -- THE LEAD-IN

  pub states_out : (w : List ℕ) (S t : ℕ) → Every (HasLookup R lookups) w → member (states_after lookups w S) t ≡ true
      → (s : ℕ) × (c : ℕ) × (member S s ≡ true) × Leads R w s c t
  unfolding states_after over
  states_out [] S t fit m = (t, 0, m, (refl, refl))
  states_out (a ∷ w) S t (has_lookups, fit) m =
      let (r, d, inside, p) = states_out w (look_up (get_or lookups a []) 0 S) t fit m in
      let (s, inside', e, _) = look_out a has_lookups 0 S r (omega arith) inside in
      (s, _, inside', (r, d, e, p, refl))

  pub states_in : (w : List ℕ) (S s c t : ℕ) → Every (HasLookup R lookups) w → member S s ≡ true → Leads R w s c t
      → member (states_after lookups w S) t ≡ true
  unfolding states_after over
  states_in [] S s c t fit m (e, _) = rw e at m
  states_in (a ∷ w) S s c t (has_lookups, fit) m (r, d, e, p, _) =
      states_in w (look_up (get_or lookups a []) 0 S) r d t fit (look_in a has_lookups 0 S s r (omega arith) m e tt) p

  -- THE TAIL

  -- the ways of a row with letters behind it: a way of the row, and a path behind it
  row_out : (w : List ℕ) (row t i : ℕ) → Every (HasLookup R lookups) w → i ≤ max_sets → member (map_of (row_after lookups w row) i) t ≡ true
      → (q : ℕ) × (c : ℕ) × Leads R w q c t × Behind row q c i
  unfolding row_after over
  row_out [] row t i fit h m = (t, 0, (refl, refl), inl m)
  row_out (a ∷ w) row t i (has_lookups, fit) h m =
      let (r, d, p, either) = row_out w (extended (get_or lookups a []) row) t i fit h m in
      go r d p either
    where
      go : (r d : ℕ) → Leads R w r d t → Behind (extended (get_or lookups a []) row) r d i
          → (q : ℕ) × (c : ℕ) × Leads R (a ∷ w) q c t × Behind row q c i
      go r d p (inl k) =
          let (q, e, either) = extended_out a has_lookups row r i h k in
          let x = cell_at R.grid a q r in
          (q, bit_or x d, (r, d, e, p, refl), ⊎_elim inl (λ (z, takes). inr (z, takes_union x d i (inl takes))) either)
      go r d p (inr (k, takes)) =
          let (q, e, either) = extended_out a has_lookups row r 0 (omega arith) k in
          let x = cell_at R.grid a q r in
          (q, bit_or x d, (r, d, e, p, refl), inr (⊎_elim (λ m. m) (λ m. m.0) either, takes_union x d i (inr takes)))

  row_in : (w : List ℕ) (row q c t i : ℕ) → Every (HasLookup R lookups) w → i ≤ max_sets → Leads R w q c t → Behind row q c i
      → member (map_of (row_after lookups w row) i) t ≡ true
  unfolding row_after over
  row_in [] row q c t i fit h (e, z) (inl m) = rw e at m
  row_in [] row q c t zero fit h (e, z) (inr (m, _)) = rw e at m
  row_in [] row q c t (suc i) fit h (e, z) (inr (_, takes)) = clash (member_none i) (rw z at takes)
  row_in (a ∷ w) row q c t i (has_lookups, fit) h (r, d, e, p, z) either =
      row_in w (extended (get_or lookups a []) row) r d t i fit h p (go either)
    where
      x : ℕ
      x = cell_at R.grid a q r

      go : Behind row q c i → Behind (extended (get_or lookups a []) row) r d i
      go (inl m) = inl (extended_in a has_lookups row q r i h e (inl m))
      go (inr (m, takes)) = ⊎_elim (λ k. inl (extended_in a has_lookups row q r i h e (inr (m, k))))
          (λ k. inr (extended_in a has_lookups row q r 0 (omega arith) e (inl m), k))
          (takes_apart x d i (subst (λ c. Takes c i) z takes))

  -- the ways of the tail from one state
  module _ (v : List ℕ) (fit : Every (HasLookup R lookups) v) (s : ℕ) (s-lt : s < lane_width) where
    pub tail_out : (t i : ℕ) → i ≤ max_sets → member (map_of (row_after lookups v (own_row s)) i) t ≡ true
        → (c : ℕ) × Leads R v s c t × Takes c i
    tail_out t i h m = let (q, c, p, either) = row_out v (own_row s) t i fit h m in go q c p either
      where
        go : (q c : ℕ) → Leads R v q c t → Behind (own_row s) q c i → (c : ℕ) × Leads R v s c t × Takes c i
        go q c p (inl k) = let (e, z) = own_out s i q s-lt k in (c, rw e p, rw z tt)
        go q c p (inr (k, takes)) = let (e, _) = own_out s 0 q s-lt k in (c, rw e p, takes)

    pub tail_in : (c t i : ℕ) → i ≤ max_sets → Leads R v s c t → Takes c i → member (map_of (row_after lookups v (own_row s)) i) t ≡ true
    tail_in c t i h p takes = row_in v (own_row s) s c t i fit h p (inr (own_in s s-lt, takes))
