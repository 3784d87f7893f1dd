-- A number in decimal.
use mathlib.Core.Path.{◌≡◌}
use lib.ListN.{length}
use Rattle.job.proofs.DecimalDigits.{DigitsFrom}
use Rattle.job.proofs.call.Text.append_number.Given as goal

abbrev pub invariant-loop-rest : goal.invariant-loop-rest
invariant-loop-rest l = (length l.places ≡ 20) × DigitsFrom l.number l.rest l.places l.at

abbrev pub decreases-loop-rest : goal.decreases-loop-rest
decreases-loop-rest l = l.rest
