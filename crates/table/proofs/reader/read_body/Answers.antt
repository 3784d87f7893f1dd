-- The cells and the end of the table, by the laws of RuleReading.
use Rattle.std.proofs.lemmas.Result.{err_from_is_err_and}
use Rattle.table.proofs.RuleReading.{body_refused, body_unended, body_read}
use Rattle.table.proofs.reader.read_body.Goals as goal

pub returns-in_err-read_cells : goal.returns-in_err-read_cells
returns-in_err-read_cells c =
    let e = rw c.new-reader.ensures at c.in_err-read_cells.ensures in
    let p = err_from_is_err_and c.from_residual.result c.from_residual.ensures.1 in
    rw (p.1, p.2) (body_refused _ _ _ _ _ c.args.header.few_states _ e.0)

pub returns-in-Some : goal.returns-in-Some
returns-in-Some c =
    let e = rw c.new-reader.ensures at c.in_ok-read_cells.ensures in
    body_unended _ _ _ _ _ c.args.header.few_states _ _ e.0 _ _ c.in-Some.ensures.steps

pub returns-in-None : goal.returns-in-None
returns-in-None c =
    let e = rw c.new-reader.ensures at c.in_ok-read_cells.ensures in
    let (R, is, arrays) = body_read _ _ _ _ _ c.args.header.few_states _ _ e.0 c.in-None.ensures.steps in
    (R, is, (arrays, e.1))
