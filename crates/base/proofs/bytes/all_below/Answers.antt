-- Bytes below a limit: the largest one tells.
use mathlib.Core.Path.{sym, ◌∙◌}
use Rattle.base.proofs.Largest.{largest_below}
use Rattle.base.proofs.bytes.all_below.Goals as goal

pub returns-then-is_empty : goal.returns-then-is_empty
returns-then-is_empty c = let e = sym c.is_empty.ensures ∙ c.if-is_empty.true in rw (largest_below, e) c.if-is_empty.true

pub returns-else-is_empty : goal.returns-else-is_empty
returns-else-is_empty c = let e = sym c.is_empty.ensures ∙ c.if-is_empty.false in rw (largest_below, e, c.from.ensures, c.largest.ensures)
