-- Single ways: which relations a way stands in, by the sets of its transitions.
use mathlib.Core.Path.{◌≡◌, sym, ◌∙◌}
use mathlib.Core.Logic.{◌⊎◌, inl, ⊎_elim}
use mathlib.Core.Bool.{true}
use Prim.Native.Nat.{ℕ, zero, suc}
use lib.Bits.{bit_or}
use Rattle.base.specs.BitSet.{member}
use Rattle.base.proofs.BitSet.{member_union}
use Rattle.base.proofs.Logic.{or_l, or_r, or_in}

-- a way whose transitions have the sets c stands in relation i: always in relation 0, otherwise if it takes set i.
-- In a map of sets bit i−1 stands for set i.
abbrev pub Takes : ℕ → ℕ → Type 0
Takes c zero = Unit {0}
Takes c (suc i) = member c i ≡ true

-- two ways, one behind the other
pub takes_union : (c d i : ℕ) → Takes c i ⊎ Takes d i → Takes (bit_or c d) i
takes_union c d zero either = tt
takes_union c d (suc i) either = member_union c d i
    ∙ ⊎_elim (λ h. or_l (member c i) (member d i) h) (λ h. or_r (member c i) (member d i) h) either

pub takes_apart : (c d i : ℕ) → Takes (bit_or c d) i → Takes c i ⊎ Takes d i
takes_apart c d zero h = inl tt
takes_apart c d (suc i) h = or_in (member c i) (member d i) (sym (member_union c d i) ∙ h)
