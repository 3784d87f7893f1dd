-- Properties that every element of a list has, and tests of all elements.
use mathlib.Core.Path.{◌≡◌, refl, ap}
use mathlib.Core.Logic.{⊎_elim}
use mathlib.Core.Bool.{Bool, true, ◌||◌}
use mathlib.Core.List.{List, [], ◌∷◌, ◌++◌, map, flatten}
use Prim.Native.Nat.{ℕ, zero, suc, ◌<◌}
use native.Mathlib.Omega.{arith}
use native.Mathlib.Nat.{le_of_suc-le-suc, not-suc-le-zero}
use borrow.Author.Tests.{ltb-true, lt-ltb, eqb-true, eq-eqb}
use lib.Dec.{eqb, ltb}
use lib.ListN.{length, get_or, drop}
use lib.Seq.{drop-cons}
use Rattle.std.specs.List.{list_any}
use Rattle.base.specs.Lists.{Every, all_of, any_of, all_below}
use Rattle.base.proofs.Logic.{clash, and_in, and_both, or_l, or_r, or_in}

module _ {A : Type 0} (P : A → Type 0) where
  -- the element at each place has it
  pub every_at : (l : List A) (i : ℕ) (d : A) → Every P l → i < length l → P (get_or l i d)
  every_at [] i d h b = absurd (not-suc-le-zero b)
  every_at (x ∷ l) zero d h b = h.0
  every_at (x ∷ l) (suc i) d h b = every_at l i d h.1 (le_of_suc-le-suc b)

  -- a list and another behind it
  pub every_append : (l r : List A) → Every P l → Every P r → Every P (l ++ r)
  every_append [] r h g = g
  every_append (x ∷ l) r h g = (h.0, every_append l r h.1 g)

  pub append_every : (l r : List A) → Every P (l ++ r) → Every P l × Every P r
  append_every [] r h = (tt, h)
  append_every (x ∷ l) r h = let both = append_every l r h.1 in ((h.0, both.0), both.1)

  -- a list of lists
  pub every_flatten : (ls : List (List A)) → Every (Every P) ls → Every P (flatten ls)
  unfolding flatten
  every_flatten [] h = tt
  every_flatten (l ∷ ls) h = every_append l (flatten ls) h.0 (every_flatten ls h.1)

  pub flatten_every : (ls : List (List A)) → Every P (flatten ls) → Every (Every P) ls
  unfolding flatten
  flatten_every [] h = tt
  flatten_every (l ∷ ls) h = let both = append_every l (flatten ls) h in (both.0, flatten_every ls both.1)

  -- every value of f has it
  pub every_value : {B : Type 0} (f : B → A) (l : List B) → ((x : B) → P (f x)) → Every P (map f l)
  every_value f [] h = tt
  every_value f (x ∷ l) h = (h x, every_value f l h)

module _ {A : Type 0} (P Q : A → Type 0) where
  -- a property that follows from another one
  pub every_weaker : (l : List A) → ((x : A) → P x → Q x) → Every P l → Every Q l
  every_weaker [] f h = tt
  every_weaker (x ∷ l) f h = (f x h.0, every_weaker l f h.1)

  -- two properties at once
  pub every_both : (l : List A) → Every P l → Every Q l → Every (λ x. P x × Q x) l
  every_both [] h g = tt
  every_both (x ∷ l) h g = ((h.0, g.0), every_both l h.1 g.1)

-- TESTS

-- a test of some element, as a chain of iterators answers it
pub any_listed : {A : Type 0} (f : A → Bool) (l : List A) → list_any f l ≡ any_of f l
unfolding any_of
any_listed f [] = refl
any_listed f (x ∷ l) = ap (λ (b : Bool). f x || b) (any_listed f l)

-- the elements from a place on: the one there, then those behind it
pub any_from : {A : Type 0} (f : A → Bool) (l : List A) (at : ℕ) (d : A) → at < length l
    → any_of f (drop at l) ≡ (f (get_or l at d) || any_of f (drop (suc at) l))
unfolding any_of
any_from f l at d h = rw (drop-cons l at d h)

-- numbers that are found to be below a limit are
pub below_every : (limit : ℕ) (l : List ℕ) → all_below limit l ≡ true → Every (λ x. x < limit) l
unfolding all_of
below_every limit [] h = tt
below_every limit (x ∷ l) h = let (first, rest) = and_in (ltb x limit) _ h in (ltb-true x limit first, below_every limit l rest)

-- and each of them is
pub below_at : (limit : ℕ) (l : List ℕ) → all_below limit l ≡ true → (i : ℕ) → i < length l → get_or l i 0 < limit
below_at limit l h i lt = every_at (λ x. x < limit) l i 0 (below_every limit l h) lt

pub below_in : (limit : ℕ) (l : List ℕ) → ((i : ℕ) → i < length l → get_or l i 0 < limit) → all_below limit l ≡ true
unfolding all_of
below_in limit [] h = refl
below_in limit (x ∷ l) h = and_both (ltb x limit) _ (lt-ltb x limit (h 0 (omega arith))) (below_in limit l (λ i lt. h (suc i) (omega arith)))

-- a number is found among others just if it is one of them
pub found_at : (x : ℕ) (l : List ℕ) → any_of (λ y. eqb y x) l ≡ true → (i : ℕ) × (i < length l) × (get_or l i 0 ≡ x)
unfolding any_of
found_at x [] h = clash refl h
found_at x (y ∷ l) h = ⊎_elim (λ e. (0, omega arith, eqb-true y x e))
    (λ e. let (i, lt, z) = found_at x l e in (suc i, omega arith, z)) (or_in (eqb y x) _ h)

pub found_in : (x : ℕ) (l : List ℕ) (i : ℕ) → i < length l → get_or l i 0 ≡ x → any_of (λ y. eqb y x) l ≡ true
unfolding any_of
found_in x [] i lt e = absurd (omega arith)
found_in x (y ∷ l) zero lt e = or_l (eqb y x) _ (eq-eqb y x e)
found_in x (y ∷ l) (suc i) lt e = or_r (eqb y x) _ (found_in x l i (omega arith) e)
