-- The numbers of an answer on successors.
use Rattle.std.proofs.Common.{rules}
use Rattle.stored.proofs.Comparing.{six_numbers}
use Rattle.stored.proofs.answers.successors_numbers.Goals as goal

pub returns : goal.returns
returns c =
    rw (c.from.ensures, c.from-2.ensures, c.from-3.ensures, c.from-4.ensures, c.from-5.ensures, c.from-6.ensures) (six_numbers _ (search rules))
