-- The largest of some numbers (specs/Inner/Largest.antt): of those from a place on, and against a limit.
use mathlib.Core.Path.{◌≡◌, refl, ◌∙◌, ap}
use mathlib.Core.Bool.{Bool, ◌&&◌, ◌||◌, and-true}
use mathlib.Core.List.{List, [], ◌∷◌}
use Prim.Native.Nat.{ℕ, suc, max, ◌<◌}
use native.Mathlib.Omega.{arith}
use borrow.Author.Tests.{ltb-true, lt-ltb}
use lib.Dec.{eqb, ltb, eqb-suc-zero}
use lib.ListN.{length, get_or, drop}
use lib.Seq.{drop-cons}
use Rattle.base.specs.Lists.{all_of, all_below}
use Rattle.base.specs.Inner.Largest.{largest}
use Rattle.base.proofs.Logic.{bool_ext, and_both, and_in}

-- of the numbers from a place on: the one there, or the largest behind it
pub largest_from : (l : List ℕ) (at : ℕ) → at < length l → largest (drop at l) ≡ max (get_or l at 0) (largest (drop (suc at) l))
unfolding largest
largest_from l at h = rw (drop-cons l at 0 h)

-- the larger of two numbers is below a limit just if both are
max_below : (x y limit : ℕ) → (ltb x limit && ltb y limit) ≡ ltb (max x y) limit
max_below x y limit = bool_ext (ltb x limit && ltb y limit) (ltb (max x y) limit)
    (λ h. let (first, second) = and_in (ltb x limit) _ h in
    lt-ltb (max x y) limit (omega (arith, ltb-true x limit first, ltb-true y limit second)))
    (λ h. let less = ltb-true (max x y) limit h in and_both (ltb x limit) _ (lt-ltb x limit (omega arith)) (lt-ltb y limit (omega arith)))

-- so for a number and others behind it
some_below : (limit x : ℕ) (l : List ℕ) → all_below limit (x ∷ l) ≡ ltb (largest (x ∷ l)) limit
unfolding all_of largest
some_below limit x [] = let one : x ≡ max x 0 = omega arith in and-true (ltb x limit) ∙ ap (λ (y : ℕ). ltb y limit) one
some_below limit x (y ∷ l) = ap (λ (b : Bool). ltb x limit && b) (some_below limit y l) ∙ max_below x (largest (y ∷ l)) limit

-- numbers are below a limit just if there are none, or the largest one is
pub largest_below : (limit : ℕ) (l : List ℕ) → all_below limit l ≡ (eqb (length l) 0 || ltb (largest l) limit)
unfolding all_of
largest_below limit [] = refl
largest_below limit (x ∷ l) = rw (eqb-suc-zero (length l)) (some_below limit x l)
