-- The questions, then the table, by the laws of WriteOutcome.
use native.Mathlib.Omega.{arith}
use Rattle.std.proofs.lemmas.Result.{err_from_is_err_and}
use Rattle.table.proofs.WriteOutcome.{length_header, writable, kept, put_refused, put_short, put_done}
use Rattle.table.proofs.writer.put_table.Goals as goal

pub returns-in_err-header : goal.returns-in_err-header
returns-in_err-header c =
    let e = put_refused _ _ _ _ _ c.args.table.now _ (length_header _ _ _ _ _ _ c.in_err-header.ensures) in
    let p = err_from_is_err_and c.from_residual.result c.from_residual.ensures.1 in
    rw (p.1, p.2) (e, kept e _)

pub returns-in_err-length : goal.returns-in_err-length
returns-in_err-length c =
    let (_, _, has) = c.in_ok-header.ensures in
    let refuses = rw (has.states, has.letters, has.sets, has.start) at c.in_err-length.ensures in
    let e = put_refused _ _ _ _ _ c.args.table.now _ refuses in
    let p = err_from_is_err_and c.from_residual-in_err-length.result c.from_residual-in_err-length.ensures.1 in
    rw (p.1, p.2) (e, kept e _)

pub returns-then-table-length : goal.returns-then-table-length
returns-then-table-length c =
    let (_, _, has) = c.in_ok-header.ensures in
    let (R, writes, size) = rw (has.states, has.letters, has.sets, has.start) at c.in_ok-length.ensures in
    let v = writable _ _ _ _ _ _ R writes size in
    let e = put_short _ _ _ _ _ c.args.table.now _ v c.if-table-length.true in
    (e, kept e _)

pub put_header-requires : goal.put_header-requires
put_header-requires c =
    let (_, _, has) = c.in_ok-header.ensures in
    let (R, writes, size) = c.in_ok-length.ensures in
    let v = writable _ _ _ _ _ _ R writes size in
    omega (arith, v.starts, v.exact)

pub put_cells-requires : goal.put_cells-requires
put_cells-requires c =
    let (R, writes, size) = c.in_ok-length.ensures in
    let v = writable _ _ _ _ _ _ R writes size in
    (v.whole, omega (arith, v.exact))

pub returns : goal.returns
returns c =
    let (_, _, has) = c.in_ok-header.ensures in
    let (R, writes, size) = rw (has.states, has.letters, has.sets, has.start) at c.in_ok-length.ensures in
    let v = writable _ _ _ _ _ _ R writes size in
    let header = rw (has.states, has.letters, has.sets, has.start) at c.put_header.ensures in
    let cells = rw (has.states, has.letters) at c.put_cells.ensures in
    put_done _ _ _ _ _ c.args.table.now _ v c.if-table-length.false _ _ header cells
