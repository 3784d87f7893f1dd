-- Where a part ends.
use native.Mathlib.Omega.{arith}
use Rattle.base.proofs.PartEnds.{end_none, end_past, end_at}
use Rattle.base.proofs.part.part_end.Goals as goal

pub returns-in_err-get : goal.returns-in_err-get
returns-in_err-get c number = rw c.from_residual.ensures (end_none number _ _ (omega (arith, c.in_err-get.ensures.lookup)))

pub returns-in_default : goal.returns-in_default
returns-in_default c number = end_none number _ _ (omega (arith, c.in_ok-get.ensures.lookup))

pub returns-then-rest-size : goal.returns-then-rest-size
returns-then-rest-size c number =
    end_past number c.args.bytes.now c.args.at c.in_ok-get.field-0.now c.in_ok-get.ensures.lookup.0.2 c.in-len2-up.len_at_least
    (omega (arith, c.if-rest-size.true))

pub returns : goal.returns
returns c number =
    rw (c.from.ensures, c.from-2.ensures)
    (end_at number c.args.bytes.now c.args.at c.in_ok-get.field-0.now c.in_ok-get.ensures.lookup.0.2 c.in-len2-up.len_at_least
    (omega (arith, c.if-rest-size.false)))
