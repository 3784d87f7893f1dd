-- Questions 4 and 5 at one cell byte.
use Rattle.std.proofs.Common.{arith, ◌^◌}
use borrow.Author.Tests.{lt-ltb, le-ltb}
use Rattle.table.proofs.CellByte.{highest, byte_taken, byte_misfit}
use Rattle.table.proofs.cells.read_byte.Goals as goal

pub returns-then-width-from : goal.returns-then-width-from
returns-then-width-from c =
    byte_misfit c.args.width c.in-Some.byte _ _ c.in-Some.ensures.steps
    (le-ltb c.in-Some.byte (2 ^ c.args.width) (omega (arith, highest c.args.width c.requires, c.from.ensures, c.if-width-from.true)))

pub returns-else-width-from : goal.returns-else-width-from
returns-else-width-from c =
    byte_taken c.args.width c.in-Some.byte _ _ c.in-Some.ensures.steps
    (lt-ltb c.in-Some.byte (2 ^ c.args.width) (omega (arith, highest c.args.width c.requires, c.from.ensures, c.if-width-from.false)))
