-- A path place by place. `Leads` says that a path is there; here it is a function that gives the state at each place
-- of it. The two are the same, so that a path may be read off an endless run, and an endless run made of paths.
use mathlib.Core.Path.{◌≡◌, refl, sym, ap₂, ◌∙◌}
use mathlib.Core.Bool.{true}
use mathlib.Core.Logic.{⊎_elim}
use mathlib.Core.List.{List, [], ◌∷◌}
use Prim.Native.Nat.{ℕ, zero, suc, ◌<◌}
use native.Mathlib.Omega.{arith}
use lib.Bits.{bit_or}
use lib.ListN.{length, get_or}
use Rattle.base.specs.BitSet.{member}
use Rattle.base.proofs.Logic.{clash, or_l, or_r, or_in}
use Rattle.base.proofs.BitSet.{member_union, member_none}
use Rattle.rule.specs.Rule.{Rule, edge, cell_at}
use Rattle.word.specs.Lasso.{Leads}

-- the states ρ 0, ρ 1, .. move over the letters w: a transition at each place
abbrev pub MovesOver : Rule → List ℕ → (ℕ → ℕ) → Type 0
MovesOver R w ρ = (q : ℕ) → q < length w → edge R.grid (get_or w q 0) (ρ q) (ρ (suc q)) ≡ true

-- the transition at place q belongs to set i + 1
abbrev pub InSet : Rule → List ℕ → (ℕ → ℕ) → ℕ → ℕ → Type 0
InSet R w ρ i q = member (cell_at R.grid (get_or w q 0) (ρ q) (ρ (suc q))) i ≡ true

-- all sets that are taken on the way
unfoldable pub sets_over : Rule → List ℕ → (ℕ → ℕ) → ℕ
sets_over R [] ρ = 0
sets_over R (a ∷ w) ρ = bit_or (cell_at R.grid a (ρ 0) (ρ 1)) (sets_over R w (λ q. ρ (suc q)))

-- a path over w from s to t with the sets c, by its states
pub record Trace (R : Rule) (w : List ℕ) (s c t : ℕ) : Type 0 where
  pub state : ℕ → ℕ
  pub enters : state 0 ≡ s
  pub leaves : state (length w) ≡ t
  pub moves : MovesOver R w state
  pub sets : c ≡ sets_over R w state

-- a state in front of others
abbrev front : ℕ → (ℕ → ℕ) → ℕ → ℕ
front s ρ zero = s
front s ρ (suc q) = ρ q

module _ (R : Rule) where
  -- a set is taken on the way just if it is taken at some place
  pub taken_at_lem : (w : List ℕ) (ρ : ℕ → ℕ) (i q : ℕ) → q < length w → InSet R w ρ i q → member (sets_over R w ρ) i ≡ true
  unfolding sets_over
  taken_at_lem [] ρ i q h m = absurd (omega arith)
  taken_at_lem (a ∷ w) ρ i zero h m =
      member_union (cell_at R.grid a (ρ 0) (ρ 1)) (sets_over R w (λ q. ρ (suc q))) i ∙ or_l _ _ m
  taken_at_lem (a ∷ w) ρ i (suc q) h m =
      member_union (cell_at R.grid a (ρ 0) (ρ 1)) (sets_over R w (λ q. ρ (suc q))) i
      ∙ or_r (member (cell_at R.grid a (ρ 0) (ρ 1)) i) _ (taken_at_lem w (λ q. ρ (suc q)) i q (omega arith) m)

  pub place_of : (w : List ℕ) (ρ : ℕ → ℕ) (i : ℕ) → member (sets_over R w ρ) i ≡ true → (q : ℕ) × (q < length w) × InSet R w ρ i q
  unfolding sets_over
  place_of [] ρ i m = clash (member_none i) m
  place_of (a ∷ w) ρ i m =
      ⊎_elim (λ h. (0, omega arith, h)) (λ h. let (q, l, k) = place_of w (λ q. ρ (suc q)) i h in (suc q, omega arith, k))
      (or_in (member (cell_at R.grid a (ρ 0) (ρ 1)) i) _
      (sym (member_union (cell_at R.grid a (ρ 0) (ρ 1)) (sets_over R w (λ q. ρ (suc q))) i) ∙ m))

  -- from states to a path, and back
  pub trace_leads : (w : List ℕ) (ρ : ℕ → ℕ) → MovesOver R w ρ → Leads R w (ρ 0) (sets_over R w ρ) (ρ (length w))
  unfolding sets_over
  trace_leads [] ρ moves = (refl, refl)
  trace_leads (a ∷ w) ρ moves = (
    ρ 1,
    sets_over R w (λ q. ρ (suc q)),
    moves 0 (omega arith),
    trace_leads w (λ q. ρ (suc q)) (λ q h. moves (suc q) (omega arith)),
    refl,
  )

  pub leads_trace : (w : List ℕ) (s c t : ℕ) → Leads R w s c t → Trace R w s c t
  unfolding sets_over
  leads_trace [] s c t (e, z) = record { state = λ _. s; enters = refl; leaves = e; moves = λ q h. absurd (omega arith); sets = z }
  leads_trace (a ∷ w) s c t (r, d, e, p, z) = go (leads_trace w r d t p)
    where
      go : Trace R w r d t → Trace R (a ∷ w) s c t
      go T = record {
        state = front s T.state;
        enters = refl;
        leaves = T.leaves;
        moves = moves;
        sets = z ∙ ap₂ (λ x y. bit_or (cell_at R.grid a s x) y) (sym T.enters) T.sets;
      }
        where
          moves : MovesOver R (a ∷ w) (front s T.state)
          moves zero h = rw T.enters e
          moves (suc q) h = T.moves q (omega arith)
