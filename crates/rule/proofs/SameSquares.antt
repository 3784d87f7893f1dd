-- The transitions under a letter depend on the square of that letter alone: two letters with the same square, of one rule or of two,
-- have the same transitions in the same sets, and so the same successors.
use mathlib.Core.Path.{◌≡◌, refl, ap, ap₂}
use mathlib.Core.Bool.{Bool}
use mathlib.Core.List.{List, []}
use Prim.Native.Nat.{ℕ, zero, suc}
use lib.ListN.{get_or}
use Rattle.base.specs.BitSet.{image}
use Rattle.rule.specs.Limits.{no_transition}
use Rattle.rule.specs.Rule.{Rule, square_of, cell_at, edge, edge_in, successors, successors_in}

module _ (R S : Rule) (a b : ℕ) (same : square_of R a ≡ square_of S b) where
  pub same_cell : (q r : ℕ) → cell_at R.grid a q r ≡ cell_at S.grid b q r
  unfolding cell_at
  same_cell q r = ap (λ (square : List (List ℕ)). get_or (get_or square q []) r no_transition) same

  pub same_edge : (q r : ℕ) → edge R.grid a q r ≡ edge S.grid b q r
  unfolding edge
  same_edge q r = rw (same_cell q r)

  pub same_edge_in : (i q r : ℕ) → edge_in R.grid i a q r ≡ edge_in S.grid i b q r
  unfolding edge_in
  same_edge_in zero q r = refl
  same_edge_in (suc i) q r = rw (same_edge q r, same_cell q r)

  -- the images of a set of states
  module _ (states : R.states ≡ S.states) where
    same_image : (E F : ℕ → ℕ → Bool) → ((q r : ℕ) → E q r ≡ F q r) → (s : ℕ) → image R.states E s ≡ image S.states F s
    same_image E F each s = ap₂ (λ (n : ℕ) (D : ℕ → ℕ → Bool). image n D s) states (λ i q r. each q r i)

    pub same_successors : (s : ℕ) → successors R a s ≡ successors S b s
    unfolding successors
    same_successors s = same_image (edge R.grid a) (edge S.grid b) same_edge s

    pub same_successors_in : (i s : ℕ) → successors_in R i a s ≡ successors_in S i b s
    unfolding successors_in
    same_successors_in i s = same_image (edge_in R.grid i a) (edge_in S.grid i b) (same_edge_in i) s
