-- The verdict may be gathered over any p rounds from the entry on: a cycle of trees that is read from another of its
-- rounds has the same stable and the same accepting names. So whoever finds the period somewhere on the cycle need not
-- go back to the entry for the verdict.
use mathlib.Core.Logic.{◌↔◌}
use mathlib.Core.List.{List}
use Prim.Native.Nat.{ℕ, ◌+◌, ◌*◌, ◌≤◌}
use native.Mathlib.Omega.{arith}
use lib.ListN.{length}
use Rattle.rule.specs.Rule.{Rule}
use Rattle.history.specs.Rounds.{round_tree, FirstRepeat}
use Rattle.history.specs.Verdict.{Witness, FirstWitness}
use Rattle.history.proofs.Walk.WitnessByPosition.{accepts_late, witness_lasts, lasts_witness}

module _ (R : Rule) (u v : List ℕ) (entry period : ℕ) (F : FirstRepeat (round_tree R u v) entry period) where
  moved : (from to : ℕ) → entry ≤ from → entry ≤ to → (w : List ℕ) → Witness R u v from period w → Witness R u v to period w
  moved from to h k w W =
      let filled : 1 ≤ length v = omega (arith, W.there.within) in
      let L = witness_lasts R u v filled entry period F from h w W in
      let (q, behind, accepts) = accepts_late L (length u + to * length v) in
      lasts_witness R u v filled entry period F to k w (length u + from * length v) L.stays q behind accepts

  -- a witness over p rounds from the entry is one over p rounds from any later round, and back
  pub any_rounds : (start : ℕ) → entry ≤ start → (w : List ℕ) → Witness R u v entry period w ↔ Witness R u v start period w
  any_rounds start h w = (moved entry start (omega arith) h w, moved start entry h (omega arith) w)

  -- and so is the first one
  pub any_rounds_first : (start : ℕ) → entry ≤ start → (w : List ℕ)
      → FirstWitness R u v entry period w ↔ FirstWitness R u v start period w
  any_rounds_first start h w = (
    (λ f. record { witness = (any_rounds start h w).0 f.witness; first = λ p W b. f.first p ((any_rounds start h p).1 W) b }),
    (λ f. record { witness = (any_rounds start h w).1 f.witness; first = λ p W b. f.first p ((any_rounds start h p).0 W) b }),
  )
