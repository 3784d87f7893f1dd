-- A node's name, by the laws of NameTexts.
use lib.ListN.{get_or}
use Rattle.job.proofs.NameTexts.{DottedSoFar}
use Rattle.job.proofs.call.Text.append_name.Given as goal

abbrev pub invariant-loop-number : goal.invariant-loop-number
invariant-loop-number l = DottedSoFar (get_or l.fn.name 0 0) l.others l.fn.self l.self l.number-index
