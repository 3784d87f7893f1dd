-- What tests say: a negated test of a call's answer, of the definition that the answer equals; a test of all numbers below n, of each.
use mathlib.Core.Path.{◌≡◌, refl, sym, ◌∙◌}
use mathlib.Core.Bool.{Bool, true, false, not}
use Prim.Native.Nat.{ℕ, ◌<◌}
use borrow.Author.Tests.{eqb-true, not-true, not-false}
use lib.Dec.{eqb}
use Rattle.base.specs.BitSet.{some}
use Rattle.base.proofs.BitSet.{some_in}
use Rattle.base.proofs.Logic.{clash, not_out}

pub told_no : {answer defined : Bool} → answer ≡ defined → not answer ≡ true → defined ≡ false
told_no {answer} e t = sym e ∙ not-true answer t

pub told_yes : {answer defined : Bool} → answer ≡ defined → not answer ≡ false → defined ≡ true
told_yes {answer} e t = sym e ∙ not-false answer t

-- values of two functions that a test below n finds the same
pub same_below : (n : ℕ) (f g : ℕ → ℕ) → some n (λ x. not (eqb (f x) (g x))) ≡ false → (x : ℕ) → x < n → f x ≡ g x
same_below n f g none x l = eqb-true (f x) (g x) (go (eqb (f x) (g x)) refl)
  where
    go : (b : Bool) → eqb (f x) (g x) ≡ b → eqb (f x) (g x) ≡ true
    go true e = e
    go false e = clash none (some_in n (λ x. not (eqb (f x) (g x))) x l (not_out _ e))
