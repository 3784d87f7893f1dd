-- The byte that two digits have.
use Rattle.std.proofs.Common.{◌∙◌, sym, arith}
use Rattle.notation.specs.Hexadecimal.{pair_byte}
use Rattle.notation.proofs.ByteTexts.{digit_small}
use Rattle.notation.proofs.hexadecimal.pair.Goals as goal

pub returns-in_err-high : goal.returns-in_err-high
unfolding pair_byte
returns-in_err-high c =
    c.from_residual.ensures ∙ rw (← c.digit.ensures, c.in_err-high.was)

pub returns-in_err-low : goal.returns-in_err-low
unfolding pair_byte
returns-in_err-low c =
    c.from_residual-in_err-low.ensures ∙ rw (← c.digit.ensures, c.in_ok-high.was, ← c.digit-2.ensures, c.in_err-low.was)

pub overflow_mul-result : goal.overflow_mul-result
overflow_mul-result c =
    omega (arith, digit_small _ _ (sym c.digit.ensures ∙ c.in_ok-high.was))

pub overflow_add-result : goal.overflow_add-result
overflow_add-result c =
    omega (arith, digit_small _ _ (sym c.digit.ensures ∙ c.in_ok-high.was), digit_small _ _ (sym c.digit-2.ensures ∙ c.in_ok-low.was))

pub returns : goal.returns
unfolding pair_byte
returns c =
    rw (← c.digit.ensures, c.in_ok-high.was, ← c.digit-2.ensures, c.in_ok-low.was)
