-- The four numbers of a text.
use Rattle.std.proofs.Common.{◌∙◌, sym, arith}
use Rattle.notation.proofs.DecimalDigits.{limit_kept}
use Rattle.stored.proofs.rules.rule_of.Goals as goal

pub overflow_cast-result : goal.overflow_cast-result
overflow_cast-result c =
    omega (arith, (limit_kept 65535 _ _ (sym c.number_of-4.ensures ∙ c.in_ok-start.was)).1)
