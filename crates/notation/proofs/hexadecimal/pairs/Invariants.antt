-- Pairs of digits. The bytes of those that the loop has passed.
use Rattle.std.proofs.Common.{length}
use Rattle.notation.proofs.ByteTexts.{Laid}
use Rattle.notation.proofs.hexadecimal.pairs.Given as goal

abbrev pub invariant-loop-rest : goal.invariant-loop-rest
invariant-loop-rest l = Laid l.text l.rest l.bytes.bytes

abbrev pub decreases-loop-rest : goal.decreases-loop-rest
decreases-loop-rest l = length l.rest
