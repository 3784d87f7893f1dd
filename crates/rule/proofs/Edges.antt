-- What well-formedness says of transitions: they lie inside the rule's letters and states; and which sets they belong to.
use mathlib.Core.Path.{◌≡◌, refl, ap}
use mathlib.Core.Bool.{true, ◌||◌}
use mathlib.Core.Logic.{⊎_elim}
use mathlib.Core.List.{List, [], ◌∷◌}
use Prim.Native.Nat.{ℕ, zero, suc, ◌^◌, ◌<◌, suc-le-suc}
use native.Mathlib.Omega.{arith}
use borrow.Author.Tests.{eqb-true, eqb-false, ltb-true}
use lib.Dec.{eqb, ltb}
use lib.ListN.{length, get_or}
use Rattle.base.specs.BitSet.{member}
use Rattle.base.proofs.Logic.{clash, and_both, and_in, or_in, not_in}
use Rattle.base.proofs.BitSet.{member_lt}
use Rattle.base.proofs.Every.{every_at}
use Rattle.rule.specs.Limits.{no_transition}
use Rattle.rule.specs.Rule.{Grid, Rule, cell_at, edge, edge_in}
use Rattle.rule.specs.WellFormed.{bytes_fit, RowFits, SquareFits, WellFormed}

-- a place that holds anything but the default is a place of the list
inside : {A : Type 0} (l : List A) (i : ℕ) (d : A) → (get_or l i d ≡ d → ⊥) → i < length l
inside [] i d h = absurd (h refl)
inside (x ∷ l) zero d h = omega arith
inside (x ∷ l) (suc i) d h = suc-le-suc (inside l i d h)

-- a byte of a fitting row is no transition, or a map of the k sets
set_byte_lem : (k : ℕ) (row : List ℕ) (r : ℕ) → bytes_fit k row ≡ true → (get_or row r no_transition ≡ no_transition → ⊥)
    → get_or row r no_transition < 2 ^ k
unfolding bytes_fit
set_byte_lem k [] r fit there = absurd (there refl)
set_byte_lem k (x ∷ row) zero fit there = ⊎_elim (λ e. absurd (there (eqb-true x no_transition e))) (ltb-true x (2 ^ k))
    (or_in (eqb x no_transition) (ltb x (2 ^ k)) (and_in (eqb x no_transition || ltb x (2 ^ k)) (bytes_fit k row) fit).0)
set_byte_lem k (x ∷ row) (suc r) fit there = set_byte_lem k row r (and_in (eqb x no_transition || ltb x (2 ^ k)) (bytes_fit k row) fit).1 there

-- the places of a transition in a well-formed rule's grid
module _ (R : Rule) (well : WellFormed R) (a q r : ℕ) (h : edge R.grid a q r ≡ true) where
  abbrev square : List (List ℕ)
  square = get_or R.grid a []

  abbrev row : List ℕ
  row = get_or square q []

  there : get_or row r no_transition ≡ no_transition → ⊥
  unfolding edge cell_at
  there = eqb-false (get_or row r no_transition) no_transition (not_in _ h)

  a_in : a < length R.grid
  a_in = inside R.grid a [] (λ e. there (ap (λ (s : List (List ℕ)). get_or (get_or s q []) r no_transition) e))

  q_in : q < length square
  q_in = inside square q [] (λ e. there (ap (λ (l : List ℕ). get_or l r no_transition) e))

  square_fits : SquareFits R.states R.sets square
  square_fits = every_at (SquareFits R.states R.sets) R.grid a [] well.fits a_in

  row_fits : RowFits R.states R.sets row
  row_fits = every_at (RowFits R.states R.sets) square q [] square_fits.1 q_in

  -- it has a letter and states of the rule
  pub edge_inside : (a < R.letters) × (q < R.states) × (r < R.states)
  edge_inside = (
    omega (arith, a_in, well.squares),
    omega (arith, q_in, square_fits.0),
    omega (arith, inside row r no_transition there, row_fits.0),
  )

  -- and its byte is a map of the rule's sets
  pub edge_sets : cell_at R.grid a q r < 2 ^ R.sets
  unfolding cell_at
  edge_sets = set_byte_lem R.sets row r row_fits.1 there

-- a transition of a set is a transition
pub edge_in_edge : (grid : Grid) (i a q r : ℕ) → edge_in grid i a q r ≡ true → edge grid a q r ≡ true
unfolding edge_in
edge_in_edge grid zero a q r h = clash refl h
edge_in_edge grid (suc i) a q r h = (and_in (edge grid a q r) _ h).0

-- a transition belongs to set i + 1 just if bit i of its byte stands
pub edge_in_member : (grid : Grid) (i a q r : ℕ) → edge_in grid (suc i) a q r ≡ true → member (cell_at grid a q r) i ≡ true
unfolding edge_in
edge_in_member grid i a q r h = (and_in (edge grid a q r) (member (cell_at grid a q r) i) h).1

pub member_edge_in : (grid : Grid) (i a q r : ℕ)
    → edge grid a q r ≡ true → member (cell_at grid a q r) i ≡ true → edge_in grid (suc i) a q r ≡ true
unfolding edge_in
member_edge_in grid i a q r e m = and_both (edge grid a q r) (member (cell_at grid a q r) i) e m

-- there are only the rule's sets
pub edge_in_set : (R : Rule) → WellFormed R → (i a q r : ℕ) → edge_in R.grid (suc i) a q r ≡ true → i < R.sets
edge_in_set R well i a q r h = member_lt R.sets (cell_at R.grid a q r) i
    (edge_sets R well a q r (edge_in_edge R.grid (suc i) a q r h)) (edge_in_member R.grid i a q r h)
