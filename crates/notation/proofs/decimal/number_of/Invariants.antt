-- The number that a text has in decimal. The digits that the loop has passed have the value so far.
use Rattle.std.proofs.Common.{◌≡◌, drop}
use Rattle.notation.specs.Decimal.{digits_value, decimal}
use Rattle.notation.proofs.decimal.number_of.Given as goal

abbrev pub invariant-loop-letter : goal.invariant-loop-letter
invariant-loop-letter l = decimal l.text ≡ digits_value l.value (drop l.letter-index l.text)
