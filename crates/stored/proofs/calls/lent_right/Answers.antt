-- A call on a lent buffer: its numbers and its bytes.
use Rattle.stored.proofs.RightLines.{answered}
use Rattle.stored.proofs.calls.lent_right.Goals as goal

pub returns : goal.returns
returns c =
    answered _ _ _ _ _ _ _ _ _ _ c.arguments-arguments.ensures.0 c.field.ensures c.field-2.ensures c.numbers_right.ensures c.unwrap_or-right.ensures
    c.bytes_are.ensures
