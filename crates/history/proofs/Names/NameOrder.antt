-- Dictionary order of names, "a name before its extensions": any two names are in order one way or are the same, and a
-- tree's nodes stand in it by number. So the lowest numbered of some nodes is the first of them in dictionary order.
use mathlib.Core.Path.{◌≡◌, refl, sym, ap, ap₂, subst, ◌∙◌}
use mathlib.Core.Logic.{◌⊎◌, inl, inr}
use mathlib.Core.List.{List, [], ◌∷◌, ◌++◌, map, map-append, append_assoc, append-nil}
use Prim.Native.Nat.{ℕ, zero, suc, ◌≤◌, ◌<◌}
use native.Mathlib.Omega.{arith}
use native.Mathlib.Decide.{dec_lt}
use lib.ListN.{length, get_or}
use Rattle.base.specs.Lists.{Every}
use Rattle.base.proofs.Every.{every_at, every_weaker}
use Rattle.history.specs.Forest.{Forest, nil, node, listing, named_from, named, names}
use Rattle.history.specs.Verdict.{Before}

-- THE ORDER

-- no two names stand before one another
pub before_asym : (p w : List ℕ) → Before p w → Before w p → ⊥
before_asym [] [] h k = h
before_asym [] (j ∷ w) h k = k
before_asym (i ∷ p) [] h k = h
before_asym (i ∷ p) (j ∷ w) (inl h) (inl k) = omega arith
before_asym (i ∷ p) (j ∷ w) (inl h) (inr (e, k)) = omega arith
before_asym (i ∷ p) (j ∷ w) (inr (e, h)) (inl k) = omega arith
before_asym (i ∷ p) (j ∷ w) (inr (e, h)) (inr (f, k)) = before_asym p w h k

-- of two names one stands before the other, or they are the same
pub before_total : (p w : List ℕ) → Before p w ⊎ ((p ≡ w) ⊎ Before w p)
before_total [] [] = inr (inl refl)
before_total [] (j ∷ w) = inl tt
before_total (i ∷ p) [] = inr (inr tt)
before_total (i ∷ p) (j ∷ w) = go (dec_lt i j) (dec_lt j i) (before_total p w)
  where
    go : Dec (i < j) → Dec (j < i) → Before p w ⊎ ((p ≡ w) ⊎ Before w p)
        → Before (i ∷ p) (j ∷ w) ⊎ (((i ∷ p) ≡ (j ∷ w)) ⊎ Before (j ∷ w) (i ∷ p))
    go (yes h) _ _ = inl (inl h)
    go (no h) (yes k) _ = inr (inr (inl k))
    go (no h) (no k) (inl b) = inl (inr (omega arith, b))
    go (no h) (no k) (inr (inl e)) = let z : i ≡ j = omega arith in inr (inl (ap₂ (λ (x : ℕ) (l : List ℕ). x ∷ l) z e))
    go (no h) (no k) (inr (inr b)) = inr (inr (inr (omega arith, b)))

-- below the same node names are ordered by what follows
before_below : (p x y : List ℕ) → Before x y → Before (p ++ x) (p ++ y)
before_below [] x y h = h
before_below (i ∷ p) x y h = inr (refl, before_below p x y h)

-- LISTS IN ORDER

-- each name stands before all that follow
abbrev Ascending : List (List ℕ) → Type 0
Ascending [] = Unit {0}
Ascending (w ∷ l) = Every (Before w) l × Ascending l

pub every_append : (P : List ℕ → Type 0) (l r : List (List ℕ)) → Every P l → Every P r → Every P (l ++ r)
every_append P [] r h g = g
every_append P (x ∷ l) r h g = (h.0, every_append P l r h.1 g)

ascending_append : (l r : List (List ℕ)) → Ascending l → Ascending r → Every (λ w. Every (Before w) r) l → Ascending (l ++ r)
ascending_append [] r a b h = b
ascending_append (w ∷ l) r a b h = (every_append (Before w) l r a.0 h.0, ascending_append l r a.1 b h.1)

ascending_at : (l : List (List ℕ)) → Ascending l → (i j : ℕ) → i < j → j < length l → Before (get_or l i []) (get_or l j [])
ascending_at [] a i j h k = absurd (omega arith)
ascending_at (w ∷ l) a i zero h k = absurd (omega arith)
ascending_at (w ∷ l) a zero (suc j) h k = every_at (Before w) l j [] a.0 (omega arith)
ascending_at (w ∷ l) a (suc i) (suc j) h k = ascending_at l a.1 i j (omega arith) (omega arith)

-- THE NAMES OF A TREE

-- a name below p that goes on with a number from c up
record Follows (p : List ℕ) (c : ℕ) (w : List ℕ) : Type 0 where
  number : ℕ
  rest : List ℕ
  low : c ≤ number
  is : w ≡ p ++ (number ∷ rest)

module _ {A : Type 0} where
  -- the names of siblings from child number c on below the node that is named p, and of all below them
  unfoldable pub names_from : List ℕ → ℕ → Forest A → List (List ℕ)
  names_from p c nil = []
  names_from p c (node x below younger) = (p ++ (c ∷ [])) ∷ (names_from (p ++ (c ∷ [])) 0 below ++ names_from p (suc c) younger)

  pub names_from_lem : (p : List ℕ) (c : ℕ) (F : Forest A) → map (λ x. x.name) (listing (named_from p c F)) ≡ names_from p c F
  unfolding names_from listing named_from
  names_from_lem p c nil = refl
  names_from_lem p c (node x below younger) =
      ap (λ (l : List (List ℕ)). (p ++ (c ∷ [])) ∷ l)
      (map-append (λ x. x.name) (listing (named_from (p ++ (c ∷ [])) 0 below)) (listing (named_from p (suc c) younger))
      ∙ ap₂ (λ (l r : List (List ℕ)). l ++ r) (names_from_lem (p ++ (c ∷ [])) 0 below) (names_from_lem p (suc c) younger))

  all_follow : (p : List ℕ) (c : ℕ) (F : Forest A) → Every (Follows p c) (names_from p c F)
  unfolding names_from
  all_follow p c nil = tt
  all_follow p c (node x below younger) = (
    record { number = c; rest = []; low = omega arith; is = refl },
    every_append (Follows p c) (names_from (p ++ (c ∷ [])) 0 below) (names_from p (suc c) younger)
        (every_weaker _ (Follows p c) (names_from (p ++ (c ∷ [])) 0 below) deeper (all_follow (p ++ (c ∷ [])) 0 below))
        (every_weaker _ (Follows p c) (names_from p (suc c) younger) later (all_follow p (suc c) younger)),
  )
    where
      deeper : (w : List ℕ) → Follows (p ++ (c ∷ [])) 0 w → Follows p c w
      deeper w f =
          record { number = c; rest = f.number ∷ f.rest; low = omega arith; is = f.is ∙ append_assoc p (c ∷ []) (f.number ∷ f.rest) }

      later : (w : List ℕ) → Follows p (suc c) w → Follows p c w
      later w f = record { number = f.number; rest = f.rest; low = omega (arith, f.low); is = f.is }

  ascend : (p : List ℕ) (c : ℕ) (F : Forest A) → Ascending (names_from p c F)
  unfolding names_from
  ascend p c nil = tt
  ascend p c (node x below younger) = (
    every_append (Before (p ++ (c ∷ []))) (names_from (p ++ (c ∷ [])) 0 below) (names_from p (suc c) younger)
        (every_weaker _ _ (names_from (p ++ (c ∷ [])) 0 below) extended (all_follow (p ++ (c ∷ [])) 0 below))
        (every_weaker _ _ (names_from p (suc c) younger) (higher []) (all_follow p (suc c) younger)),
    ascending_append (names_from (p ++ (c ∷ [])) 0 below) (names_from p (suc c) younger)
        (ascend (p ++ (c ∷ [])) 0 below) (ascend p (suc c) younger)
        (every_weaker _ _ (names_from (p ++ (c ∷ [])) 0 below) between (all_follow (p ++ (c ∷ [])) 0 below)),
  )
    where
      extended : (w : List ℕ) → Follows (p ++ (c ∷ [])) 0 w → Before (p ++ (c ∷ [])) w
      extended w f =
          let h = before_below (p ++ (c ∷ [])) [] (f.number ∷ f.rest) tt in
          let h' = rw append-nil at h in
          rw f.is h'

      higher : (x : List ℕ) (w : List ℕ) → Follows p (suc c) w → Before (p ++ (c ∷ x)) w
      higher x w f = rw f.is (before_below p (c ∷ x) (f.number ∷ f.rest) (inl f.low))

      between : (w : List ℕ) → Follows (p ++ (c ∷ [])) 0 w → Every (Before w) (names_from p (suc c) younger)
      between w f =
          rw (f.is, append_assoc)
          (every_weaker _ _ (names_from p (suc c) younger) (higher (f.number ∷ f.rest)) (all_follow p (suc c) younger))

  -- the root has the empty name
  pub names_root : (x : A) (below younger : Forest A) → names (node x below younger) ≡ [] ∷ names_from [] 0 below
  unfolding names named listing
  names_root x below younger =
      ap (λ (l : List (List ℕ)). [] ∷ l)
      (ap (map (λ x. x.name)) (append-nil (listing (named_from [] 0 below))) ∙ names_from_lem [] 0 below)

  -- by number they are in order
  pub names_ascend : (T : Forest A) (i j : ℕ) → i < j → j < length (names T) → Before (get_or (names T) i []) (get_or (names T) j [])
  unfolding names named listing
  names_ascend nil i j h k = absurd (omega arith)
  names_ascend (node x below younger) i j h k = ascending_at (names (node x below younger)) all i j h k
    where
      all : Ascending (names (node x below younger))
      all =
          subst Ascending (sym (names_root x below younger))
          (every_weaker (Follows [] 0) (Before []) (names_from [] 0 below) (λ w f. rw f.is tt) (all_follow [] 0 below), ascend [] 0 below)
