-- Laws of paths: of `Leads`, "the letters w lead from state s to state t, taking the sets c". Stated once, for the
-- lasso theorem and for the judges.
use mathlib.Core.Path.{◌≡◌, refl, sym, ap, ◌∙◌, subst}
use mathlib.Core.Bool.{true}
use mathlib.Core.List.{List, [], ◌∷◌, ◌++◌, append_assoc, append-nil}
use Prim.Native.Nat.{ℕ, zero, suc, ◌+◌, ◌*◌, ◌≤◌, ◌<◌}
use native.Mathlib.Omega.{arith}
use native.Mathlib.Nat.{zero-add, zero-mul, suc-add}
use lib.Bits.{bit_or, or_zero_r, or_self}
use Rattle.base.proofs.BitSet.{union_assoc}
use Rattle.rule.specs.Rule.{Rule, edge, cell_at}
use Rattle.rule.specs.WellFormed.{WellFormed}
use Rattle.rule.proofs.Edges.{edge_inside}
use Rattle.word.specs.Walk.{rounds}
use Rattle.word.specs.Lasso.{Leads}

-- ROUNDS

-- rounds add up
pub rounds_add : (i j : ℕ) (v : List ℕ) → rounds (i + j) v ≡ rounds i v ++ rounds j v
unfolding rounds
rounds_add zero j v = rw zero-add
rounds_add (suc i) j v = rw (suc-add, append_assoc, rounds_add i j v)

-- one round is the tail
pub rounds_one : (v : List ℕ) → rounds 1 v ≡ v
unfolding rounds
rounds_one v = append-nil v

-- i times j rounds are i rounds of j rounds
pub rounds_mul : (i j : ℕ) (v : List ℕ) → rounds (i * j) v ≡ rounds i (rounds j v)
unfolding rounds
rounds_mul zero j v = rw zero-mul
rounds_mul (suc i) j v =
    let e : suc i * j ≡ j + i * j = omega arith in
    rw (e, rounds_add, rounds_mul i j v)

module _ (R : Rule) where
  -- PATHS

  -- a transition is a path of one letter, and a path of one letter a transition
  pub leads_one : (a s r : ℕ) → edge R.grid a s r ≡ true → Leads R (a ∷ []) s (cell_at R.grid a s r) r
  leads_one a s r e = (r, 0, e, (refl, refl), sym (or_zero_r (cell_at R.grid a s r)))

  pub one_leads : (a s c r : ℕ) → Leads R (a ∷ []) s c r → (edge R.grid a s r ≡ true) × (c ≡ cell_at R.grid a s r)
  one_leads a s c r (t, d, e, (x, y), z) = (rw x at e, z ∙ rw (y, x) (or_zero_r (cell_at R.grid a s r)))

  -- paths are joined: the sets are united
  pub leads_append : (w w' : List ℕ) (s c t d r : ℕ) → Leads R w s c t → Leads R w' t d r → Leads R (w ++ w') s (bit_or c d) r
  leads_append [] w' s c t d r (e, z) q = rw (e, z) q
  leads_append (a ∷ w) w' s c t d r (m, f, e, p, z) q =
      (m, bit_or f d, e, leads_append w w' m f t d r p q, rw z (sym (union_assoc (cell_at R.grid a s m) f d)))

  -- and cut
  pub leads_split : (w w' : List ℕ) (s e r : ℕ) → Leads R (w ++ w') s e r
      → (t : ℕ) × (c : ℕ) × (d : ℕ) × Leads R w s c t × Leads R w' t d r × (e ≡ bit_or c d)
  leads_split [] w' s e r p = (s, 0, e, (refl, refl), p, refl)
  leads_split (a ∷ w) w' s e r (m, f, x, p, z) =
      let (t, c, d, q, q', y) = leads_split w w' m f r p in (
        t,
        bit_or (cell_at R.grid a s m) c,
        d,
        (m, c, x, q, refl),
        q',
        z ∙ ap (bit_or (cell_at R.grid a s m)) y ∙ union_assoc (cell_at R.grid a s m) c d,
      )

  -- the same over rounds
  pub leads_rounds : (i j : ℕ) (v : List ℕ) (s c t d r : ℕ)
      → Leads R (rounds i v) s c t → Leads R (rounds j v) t d r → Leads R (rounds (i + j) v) s (bit_or c d) r
  leads_rounds i j v s c t d r p q = rw rounds_add (leads_append (rounds i v) (rounds j v) s c t d r p q)

  pub leads_rounds_split : (i j : ℕ) (v : List ℕ) (s e r : ℕ) → Leads R (rounds (i + j) v) s e r
      → (t : ℕ) × (c : ℕ) × (d : ℕ) × Leads R (rounds i v) s c t × Leads R (rounds j v) t d r × (e ≡ bit_or c d)
  leads_rounds_split i j v s e r p = leads_split (rounds i v) (rounds j v) s e r (rw rounds_add at p)

  -- a path stays within the states
  pub leads_inside : WellFormed R → (w : List ℕ) (s c t : ℕ) → Leads R w s c t → s < R.states → t < R.states
  leads_inside wf [] s c t (e, z) h = omega arith
  leads_inside wf (a ∷ w) s c t (r, d, e, p, z) h = leads_inside wf w r d t p (edge_inside R wf a s r e).2

  -- LOOPS

  -- a loop may be repeated: the sets stay the same
  pub leads_again : (w : List ℕ) (s c d : ℕ) → 1 ≤ d → Leads R w s c s → Leads R (rounds d w) s c s
  unfolding rounds
  leads_again w s c zero h p = absurd (omega arith)
  leads_again w s c (suc zero) h p = rw rounds_one p
  leads_again w s c (suc (suc d)) h p =
      subst (λ x. Leads R (w ++ rounds (suc d) w) s x s) (or_self c)
      (leads_append w (rounds (suc d) w) s c s c s p (leads_again w s c (suc d) (omega arith) p))

  pub leads_repeat : (v : List ℕ) (s c j d : ℕ) → 1 ≤ d → Leads R (rounds j v) s c s → Leads R (rounds (d * j) v) s c s
  leads_repeat v s c j d h p = rw rounds_mul (leads_again (rounds j v) s c d h p)
