-- The judge on look-ups that are ready for a walk: what its calls need, and that its verdict is right for every rule that they are of.
use mathlib.Core.Path.{◌≡◌, refl, sym, ◌∙◌}
use mathlib.Core.Logic.{inl, inr}
use mathlib.Core.Bool.{Bool, true, false}
use mathlib.Core.List.{List}
use Prim.Native.Nat.{ℕ, ◌<◌}
use native.Mathlib.Omega.{arith}
use lib.ListN.{get_or}
use Rattle.std.specs.Int.{from_bool}
use Rattle.std.specs.Prelude.{◌↔◌}
use Rattle.base.specs.Lists.{Every}
use Rattle.base.proofs.Logic.{clash}
use Rattle.base.proofs.Every.{every_weaker}
use Rattle.rule.specs.Limits.{max_letters}
use Rattle.rule.specs.Rule.{Rule}
use Rattle.table.specs.declared.header.Header.{Header}
use Rattle.word.specs.Keeps.{KeepsByLasso}
use Rattle.word.specs.Verdict.{Decides}
use Rattle.word.specs.Inner.Prepared.{Prepared}
use Rattle.word.specs.Inner.WalkLookups.{Lookups, HasLookup}
use Rattle.plain.specs.Inner.Ways.{ways, AreWays}
use Rattle.plain.specs.Inner.Letters.{states_after, own_row, row_after}
use Rattle.plain.specs.Inner.Rounds.{closure}
use Rattle.plain.specs.Inner.Search.{SomeLasso}
use Rattle.plain.proofs.WaysLead.{states_out, states_in, tail_out, tail_in}
use Rattle.plain.proofs.RoundsLead.{TailWays, RoundsWays, rounds_ways}
use Rattle.plain.proofs.LassoSearch.{LeadStates, found_lasso, lasso_found}

-- the byte that a verdict is answered by
pub decides_byte : (verdict : Bool) {P : Type 0} → (verdict ≡ true) ↔ P → Decides (from_bool verdict) P
decides_byte true (right, _) = inl (refl, right refl)
decides_byte false (_, all) = inr (refl, λ p. clash refl (all p))

module _ {R : Rule} {header : Header} {lookups : Lookups} {u v : List ℕ} (w : Prepared R header lookups u v) where
  -- the letters are within the limits
  has_lookups_small : (l : List ℕ) → Every (HasLookup R lookups) l → Every (λ a. a < max_letters) l
  has_lookups_small l all = every_weaker _ _ l (λ a t. omega (arith, t.below, w.limits.letters)) all

  pub lead_small : Every (λ a. a < max_letters) u
  lead_small = has_lookups_small u w.lead

  pub tail_small : Every (λ a. a < max_letters) v
  tail_small = has_lookups_small v w.tail

  -- what is found is a loop of the rule, and a loop is found
  pub verdict_right : (verdict : Bool) (from : ℕ) (tail wide : List ℕ) → from ≡ states_after lookups u header.start
      → ((s : ℕ) → s < header.states → get_or tail s 0 ≡ row_after lookups v (own_row s))
      → AreWays header.states (closure header.states (ways tail)) wide
      → (verdict ≡ true) ↔ SomeLasso (ways wide) header.states header.sets from → (verdict ≡ true) ↔ KeepsByLasso R u v
  unfolding ways KeepsByLasso
  verdict_right verdict from tail wide start rows more d =
      let (found, finds) = rw (w.numbers.states, w.numbers.sets) at d in (
        λ yes. found_lasso R w.limits.well w.limits.sets u v from lead (ways wide) rounds (found yes),
        λ keeps. finds (lasso_found R w.limits.well w.limits.sets u v from lead (ways wide) rounds keeps),
      )
    where
      lead : LeadStates R u from
      lead = record {
        sound = λ t m. states_out R w.limits.well w.limits.states lookups u R.start t w.lead (rw (start, w.numbers.start) at m);
        complete = λ origin c t m p. rw (start, w.numbers.start)
            (states_in R w.limits.well w.limits.states lookups u R.start origin c t w.lead m p);
      }

      row : (s : ℕ) → s < R.states → get_or tail s 0 ≡ row_after lookups v (own_row s)
      row = rw w.numbers.states at rows

      one : TailWays R v (ways tail)
      one = record {
        sound = λ s t i s-lt h m. tail_out R w.limits.well w.limits.states lookups v w.tail s (omega (arith, w.limits.states)) t i h (rw (row s s-lt) at m);
        complete = λ s c t i s-lt h p takes. rw (row s s-lt)
            (tail_in R w.limits.well w.limits.states lookups v w.tail s (omega (arith, w.limits.states)) c t i h p takes);
      }

      are : AreWays R.states (closure R.states (ways tail)) wide
      are = rw w.numbers.states at more

      all : RoundsWays R v (closure R.states (ways tail))
      all = rounds_ways R w.limits.well v (ways tail) one

      rounds : RoundsWays R v (ways wide)
      rounds = record {
        sound = λ s t i s-lt h m. all.sound s t i s-lt h (sym (are s t i s-lt h) ∙ m);
        complete = λ s c t j i s-lt h p takes. are s t i s-lt h ∙ all.complete s c t j i s-lt h p takes;
      }
