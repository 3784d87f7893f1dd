-- The ways that may pass states between two of the ways W (specs/Inner/Rounds.antt): they are ways of W one behind the other, and
-- two of them one behind the other are among them, if the state between them may be passed.
use mathlib.Core.Path.{◌≡◌}
use mathlib.Core.Logic.{◌⊎◌, inl, inr, ⊎_elim}
use mathlib.Core.Bool.{Bool, true, ◌&&◌, ◌||◌}
use Prim.Native.Nat.{ℕ, zero, suc, ◌≤◌, ◌<◌}
use native.Mathlib.Decide.{ℕ_discrete}
use native.Mathlib.Omega.{arith}
use Rattle.base.proofs.Logic.{and_both, and_in, or_l, or_r, or_in}
use Rattle.plain.specs.Inner.Ways.{Ways, joined}
use Rattle.plain.specs.Inner.Rounds.{through, closure}

-- relation i has s and t
abbrev Has : Ways → ℕ → ℕ → ℕ → Type 0
Has W s t i = W s t i ≡ true

-- two ways, one behind the other, of which one takes set i
abbrev Two : Ways → ℕ → ℕ → ℕ → ℕ → Type 0
Two W s p t i = (Has W s p 0 × Has W p t i) ⊎ (Has W s p i × Has W p t 0)

-- two such ways are among the ways, if the state between them is below m
abbrev Closed : Ways → ℕ → Type 0
Closed W m = (s p t i : ℕ) → p < m → Two W s p t i → Has W s t i

-- what is joined
module _ (a b : ℕ → Bool) (i : ℕ) where
  joined_out : joined a b i ≡ true → ((a 0 ≡ true) × (b i ≡ true)) ⊎ ((a i ≡ true) × (b 0 ≡ true))
  unfolding joined
  joined_out h = ⊎_elim (λ k. inl (and_in (a 0) (b i) k)) (λ k. inr (and_in (a i) (b 0) k)) (or_in (a 0 && b i) (a i && b 0) h)

  joined_in : ((a 0 ≡ true) × (b i ≡ true)) ⊎ ((a i ≡ true) × (b 0 ≡ true)) → joined a b i ≡ true
  unfolding joined
  joined_in (inl (h, k)) = or_l (a 0 && b i) _ (and_both (a 0) (b i) h k)
  joined_in (inr (h, k)) = or_r (a 0 && b i) _ (and_both (a i) (b 0) h k)

-- ONE STATE MORE

module _ (W : Ways) (m : ℕ) where
  -- by way of m: once, or with a loop at m that takes set i
  abbrev Via : ℕ → ℕ → ℕ → Type 0
  Via s t i = Two W s m t i ⊎ (Has W s m 0 × Has W m m i × Has W m t 0)

  abbrev Passes : ℕ → ℕ → ℕ → Type 0
  Passes s t i = Has W s t i ⊎ Via s t i

  -- from m on
  own : ℕ → ℕ → Bool
  own t i = W m t i || joined (W m m) (W m t) i

  own_out : (t i : ℕ) → own t i ≡ true → Has W m t i ⊎ (Has W m m i × Has W m t 0)
  unfolding own
  own_out t i h = ⊎_elim inl (λ k. ⊎_elim (λ (_, x). inl x) inr (joined_out (W m m) (W m t) i k)) (or_in (W m t i) _ h)

  own_in : (t i : ℕ) → Has W m t i ⊎ (Has W m m i × Has W m t 0) → own t i ≡ true
  unfolding own
  own_in t i (inl h) = or_l (W m t i) _ h
  own_in t i (inr two) = or_r (W m t i) _ (joined_in (W m m) (W m t) i (inr two))

  -- which ways are there then
  through_out : (s t i : ℕ) → Has (through m W) s t i → Passes s t i
  unfolding through own
  through_out s t i h = ⊎_elim inl (λ k. inr (go (joined_out (W s m) (own t) i k))) (or_in (W s t i) _ h)
    where
      go : (Has W s m 0 × (own t i ≡ true)) ⊎ (Has W s m i × (own t 0 ≡ true)) → Via s t i
      go (inl (x, y)) = ⊎_elim (λ k. inl (inl (x, k))) (λ (k, l). inr (x, k, l)) (own_out t i y)
      go (inr (x, y)) = inl (inr (x, ⊎_elim (λ k. k) (λ k. k.1) (own_out t 0 y)))

  through_in : (s t i : ℕ) → Passes s t i → Has (through m W) s t i
  unfolding through own
  through_in s t i (inl h) = or_l (W s t i) _ h
  through_in s t i (inr v) = or_r (W s t i) _ (joined_in (W s m) (own t) i (go v))
    where
      go : Via s t i → (Has W s m 0 × (own t i ≡ true)) ⊎ (Has W s m i × (own t 0 ≡ true))
      go (inl (inl (x, y))) = inl (x, own_in t i (inl y))
      go (inl (inr (x, y))) = inr (x, own_in t 0 (inl y))
      go (inr (x, y, z)) = inl (x, own_in t i (inr (y, z)))

  -- to m, and from m: the loop at m comes last, or first
  to_m : (s i : ℕ) → Passes s m i → Has W s m i ⊎ (Has W s m 0 × Has W m m i)
  to_m s i (inl h) = inl h
  to_m s i (inr (inl (inl two))) = inr two
  to_m s i (inr (inl (inr (x, _)))) = inl x
  to_m s i (inr (inr (x, y, _))) = inr (x, y)

  from_m : (t i : ℕ) → Passes m t i → Has W m t i ⊎ (Has W m m i × Has W m t 0)
  from_m t i (inl h) = inl h
  from_m t i (inr (inl (inl (_, y)))) = inl y
  from_m t i (inr (inl (inr two))) = inr two
  from_m t i (inr (inr (_, y, z))) = inr (y, z)

  -- with no set asked for
  via_zero : (s t : ℕ) → Via s t 0 → Has W s m 0 × Has W m t 0
  via_zero s t (inl (inl two)) = two
  via_zero s t (inl (inr two)) = two
  via_zero s t (inr (x, _, z)) = (x, z)

  -- m may be passed too
  module _ (closed : Closed W m) where
    -- a state below m between two ways, of which the second takes set i, or the first
    back : (s p t i : ℕ) → p < m → Passes s p 0 → Passes p t i → Passes s t i
    back s p t i l (inl h) (inl k) = inl (closed s p t i l (inl (h, k)))
    back s p t i l (inl h) (inr (inl (inl (x, y)))) = inr (inl (inl (closed s p m 0 l (inl (h, x)), y)))
    back s p t i l (inl h) (inr (inl (inr (x, y)))) = inr (inl (inr (closed s p m i l (inl (h, x)), y)))
    back s p t i l (inl h) (inr (inr (x, y, z))) = inr (inr (closed s p m 0 l (inl (h, x)), y, z))
    back s p t i l (inr v) k = let (first, second) = via_zero s p v in go first second k
      where
        go : Has W s m 0 → Has W m p 0 → Passes p t i → Passes s t i
        go x y (inl k) = inr (inl (inl (x, closed m p t i l (inl (y, k)))))
        go x y (inr (inl (inl (_, z)))) = inr (inl (inl (x, z)))
        go x y (inr (inl (inr (k, z)))) = inr (inr (x, closed m p m i l (inl (y, k)), z))
        go x y (inr (inr (_, k, z))) = inr (inr (x, k, z))

    front : (s p t i : ℕ) → p < m → Passes s p i → Passes p t 0 → Passes s t i
    front s p t i l (inl h) (inl k) = inl (closed s p t i l (inr (h, k)))
    front s p t i l (inr (inl (inl (x, y)))) (inl k) = inr (inl (inl (x, closed m p t i l (inr (y, k)))))
    front s p t i l (inr (inl (inr (x, y)))) (inl k) = inr (inl (inr (x, closed m p t 0 l (inr (y, k)))))
    front s p t i l (inr (inr (x, y, z))) (inl k) = inr (inr (x, y, closed m p t 0 l (inr (z, k))))
    front s p t i l h (inr v) = let (first, second) = via_zero p t v in go h first second
      where
        go : Passes s p i → Has W p m 0 → Has W m t 0 → Passes s t i
        go (inl h) y z = inr (inl (inr (closed s p m i l (inr (h, y)), z)))
        go (inr (inl (inl (x, h)))) y z = inr (inr (x, closed m p m i l (inr (h, y)), z))
        go (inr (inl (inr (x, _)))) y z = inr (inl (inr (x, z)))
        go (inr (inr (x, h, _))) y z = inr (inr (x, h, z))

    through_closed : Closed (through m W) (suc m)
    through_closed s p t i p-lt two = through_in s t i (go (ℕ_discrete p m) two)
      where
        go : Dec (p ≡ m) → Two (through m W) s p t i → Passes s t i
        go (no other) (inl (h, k)) = back s p t i (omega arith) (through_out s p 0 h) (through_out p t i k)
        go (no other) (inr (h, k)) = front s p t i (omega arith) (through_out s p i h) (through_out p t 0 k)
        go (yes e) (inl (h, k)) =
            let first : Has W s m 0 = ⊎_elim (λ x. x) (λ x. x.0) (to_m s 0 (through_out s m 0 (rw e at h))) in
            inr (⊎_elim (λ x. inl (inl (first, x))) (λ (x, y). inr (first, x, y)) (from_m t i (through_out m t i (rw e at k))))
        go (yes e) (inr (h, k)) =
            let second : Has W m t 0 = ⊎_elim (λ x. x) (λ x. x.1) (from_m t 0 (through_out m t 0 (rw e at k))) in
            inr (⊎_elim (λ x. inl (inr (x, second))) (λ (x, y). inr (x, y, second)) (to_m s i (through_out s m i (rw e at h))))

-- ALL STATES BELOW m

module _ (W : Ways) where
  pub closure_closed : (m : ℕ) → Closed (closure m W) m
  unfolding closure
  closure_closed zero s p t i p-lt two = absurd (omega arith)
  closure_closed (suc m) s p t i p-lt two = through_closed (closure m W) m (closure_closed m) s p t i p-lt two

  -- the ways W are among them
  pub closure_has : (m s t i : ℕ) → Has W s t i → Has (closure m W) s t i
  unfolding closure
  closure_has zero s t i h = h
  closure_has (suc m) s t i h = through_in (closure m W) m s t i (inl (closure_has m s t i h))

  -- and what holds of the ways W from a state below n by a relation up to k, and of two ways one behind the other, holds of them
  module _ (n k : ℕ) (P : ℕ → ℕ → ℕ → Type 0) (once : (s t i : ℕ) → s < n → i ≤ k → Has W s t i → P s t i)
      (back : (s p t i : ℕ) → P s p 0 → P p t i → P s t i) (front : (s p t i : ℕ) → P s p i → P p t 0 → P s t i) where
    pub closure_sound : (m s t i : ℕ) → m ≤ n → s < n → i ≤ k → Has (closure m W) s t i → P s t i
    unfolding closure
    closure_sound zero s t i within s-lt h has = once s t i s-lt h has
    closure_sound (suc m) s t i within s-lt h has =
        go (through_out (closure m W) m s t i has) (λ s t i l h. closure_sound m s t i (omega arith) l h)
      where
        go : Passes (closure m W) m s t i → ((s t i : ℕ) → s < n → i ≤ k → Has (closure m W) s t i → P s t i) → P s t i
        go (inl x) below = below s t i s-lt h x
        go (inr (inl (inl (x, y)))) below = back s m t i (below s m 0 s-lt (omega arith) x) (below m t i (omega arith) h y)
        go (inr (inl (inr (x, y)))) below = front s m t i (below s m i s-lt h x) (below m t 0 (omega arith) (omega arith) y)
        go (inr (inr (x, y, z))) below = front s m t i (back s m m i (below s m 0 s-lt (omega arith) x) (below m m i (omega arith) h y))
            (below m t 0 (omega arith) (omega arith) z)
