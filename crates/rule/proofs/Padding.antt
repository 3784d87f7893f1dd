-- The arrays that hold a grid have the same transitions as the grid, so they give the same successors.
use mathlib.Core.Path.{◌≡◌, refl, sym, ◌∙◌}
use mathlib.Core.Bool.{Bool, true}
use mathlib.Core.List.{List, [], ◌∷◌, ◌++◌, map}
use Prim.Native.Nat.{ℕ, zero, suc, ◌-◌, ◌<◌, ◌≤◌}
use native.Mathlib.Omega.{arith}
use lib.ListN.{length, get_or, replicate}
use Rattle.base.specs.BitSet.{member, image}
use Rattle.base.specs.Lists.{pad}
use Rattle.base.proofs.Logic.{bool_ext}
use Rattle.base.proofs.BitSet.{set_ext, image_in, image_out}
use Rattle.rule.specs.Limits.{max_states, max_letters, no_transition}
use Rattle.rule.specs.Rule.{Grid, Rule, cell_at, edge, edge_in, successors, successors_in}
use Rattle.rule.specs.WellFormed.{WellFormed}
use Rattle.rule.specs.Inner.Padded.{blank_row, blank_square, padded_row, padded_square, padded}
use Rattle.rule.proofs.Edges.{edge_inside, edge_in_edge}

-- a view of elements to which the padding z looks like the default d
module _ {A B : Type 0} (view : A → B) (z d : A) (same : view z ≡ view d) where
  view_behind : (l : List A) (c i : ℕ) → view (get_or (l ++ replicate c z) i d) ≡ view (get_or l i d)
  view_behind [] zero i = refl
  view_behind [] (suc c) zero = same
  view_behind [] (suc c) (suc i) = view_behind [] c i
  view_behind (x ∷ l) c zero = refl
  view_behind (x ∷ l) c (suc i) = view_behind l c i

  -- does not see the padding
  view_pad : (w : ℕ) (l : List A) (i : ℕ) → view (get_or (pad w z l) i d) ≡ view (get_or l i d)
  unfolding pad
  view_pad w l i = view_behind l (w - length l) i

  -- nor a change f of the elements that leaves the view of each
  view_pad_map : (f : A → A) → ((x : A) → view (f x) ≡ view x) → (w : ℕ) (l : List A) (i : ℕ)
      → view (get_or (pad w z (map f l)) i d) ≡ view (get_or l i d)
  view_pad_map f kept w l i = view_pad w (map f l) i ∙ mapped l i
    where
      mapped : (l : List A) (i : ℕ) → view (get_or (map f l) i d) ≡ view (get_or l i d)
      mapped [] i = refl
      mapped (x ∷ l) zero = kept x
      mapped (x ∷ l) (suc i) = mapped l i

-- no transition in a blank row
pub blank_row_lem : (r : ℕ) → get_or blank_row r no_transition ≡ no_transition
blank_row_lem r = view_behind (λ x. x) no_transition no_transition refl [] max_states r

-- the byte that the arrays hold at a place is the grid's
padded_row_lem : (row : List ℕ) (r : ℕ) → get_or (padded_row row) r no_transition ≡ get_or row r no_transition
unfolding padded_row
padded_row_lem row r = view_pad (λ x. x) no_transition no_transition refl max_states row r

padded_square_lem : (square : List (List ℕ)) (q r : ℕ)
    → get_or (get_or (padded_square square) q []) r no_transition ≡ get_or (get_or square q []) r no_transition
unfolding padded_square
padded_square_lem square q r =
    view_pad_map (λ row. get_or row r no_transition) blank_row [] (blank_row_lem r) padded_row (λ row. padded_row_lem row r) max_states square q

padded_cell : (grid : Grid) (a q r : ℕ) → cell_at (padded grid) a q r ≡ cell_at grid a q r
unfolding cell_at padded
padded_cell grid a q r =
    view_pad_map (λ square. get_or (get_or square q []) r no_transition) blank_square []
    (view_behind (λ row. get_or row r no_transition) blank_row [] (blank_row_lem r) [] max_states q)
    padded_square (λ square. padded_square_lem square q r) max_letters grid a

-- so they have the grid's transitions
pub padded_edge : (grid : Grid) (a q r : ℕ) → edge (padded grid) a q r ≡ edge grid a q r
unfolding edge
padded_edge grid a q r = rw (padded_cell grid a q r)

pub padded_edge_in : (grid : Grid) (i a q r : ℕ) → edge_in (padded grid) i a q r ≡ edge_in grid i a q r
unfolding edge_in
padded_edge_in grid zero a q r = refl
padded_edge_in grid (suc i) a q r = rw (padded_edge grid a q r, padded_cell grid a q r)

-- a relation on the numbers below n has the same images at any greater width
image_wider : (n w : ℕ) (E F : ℕ → ℕ → Bool) → n ≤ w → ((q r : ℕ) → F q r ≡ E q r)
    → ((q r : ℕ) → E q r ≡ true → (q < n) × (r < n)) → (s : ℕ) → image w F s ≡ image n E s
image_wider n w E F le same within s = set_ext _ _ λ r. bool_ext _ _ (narrow r) (widen r)
  where
    narrow : (r : ℕ) → member (image w F s) r ≡ true → member (image n E s) r ≡ true
    narrow r h = let (q, _, _, m, f) = image_out w F s r h in
        let e = sym (same q r) ∙ f in
        image_in n E s q r (within q r e).0 (within q r e).1 m e

    widen : (r : ℕ) → member (image n E s) r ≡ true → member (image w F s) r ≡ true
    widen r h = let (q, q_in, r-in, m, e) = image_out n E s r h in image_in w F s q r (omega arith) (omega arith) m (same q r ∙ e)

-- at any width w from the number of states up
module _ (R : Rule) (well : WellFormed R) (w : ℕ) (small : R.states ≤ w) where
  -- the successors of a set, from the arrays
  pub image_padded : (a s : ℕ) → image w (edge (padded R.grid) a) s ≡ successors R a s
  unfolding successors
  image_padded a = image_wider R.states w (edge R.grid a) _ small (padded_edge R.grid a)
      (λ q r h. let inside = edge_inside R well a q r h in (inside.1, inside.2))

  -- and those by transitions of one set, by any relation that has these in the arrays
  pub image_padded_in : (i a s : ℕ) (F : ℕ → ℕ → Bool) → ((q r : ℕ) → F q r ≡ edge_in (padded R.grid) i a q r)
      → image w F s ≡ successors_in R i a s
  unfolding successors_in
  image_padded_in i a s F same = image_wider R.states w (edge_in R.grid i a) F small (λ q r. same q r ∙ padded_edge_in R.grid i a q r)
      (λ q r h. let inside = edge_inside R well a q r (edge_in_edge R.grid i a q r h) in (inside.1, inside.2)) s
