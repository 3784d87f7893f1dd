-- Does a text have just these numbers? Each part that the loop has passed has its number.
use Rattle.std.proofs.Common.{◌≡◌, ℕ, ◌<◌, get_or, Some}
use Rattle.notation.specs.Parts.{space, part_at}
use Rattle.notation.specs.Decimal.{decimal}
use Rattle.notation.proofs.decimal.numbers_are.Given as goal

abbrev pub invariant-loop-at : goal.invariant-loop-at
invariant-loop-at l = (k : ℕ) → k < l.at → decimal (part_at space l.text k) ≡ Some (get_or l.numbers k 0)
