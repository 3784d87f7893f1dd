-- The questions, then the grid, by the laws of GridReading.
use Rattle.std.proofs.lemmas.Result.{err_from_is_err_and}
use Rattle.table.proofs.Asked.{read_yes}
use Rattle.table.proofs.GridReading.{kept, grid_refused, grid_no_room, grid_done}
use Rattle.table.proofs.reader.put_grid.Goals as goal

pub returns-in_err-header : goal.returns-in_err-header
returns-in_err-header c =
    let e = grid_refused _ c.args.grid.now _ c.in_err-header.ensures.answers in
    let p = err_from_is_err_and c.from_residual.result c.from_residual.ensures.1 in
    rw (p.1, p.2) (e, kept e _)

pub returns-then-grid-header : goal.returns-then-grid-header
returns-then-grid-header c =
    let e = grid_no_room (read_yes c.in_ok-header.ensures) _ c.if-grid-header.true in
    (e, kept e _)

pub returns : goal.returns
returns c =
    grid_done (read_yes c.in_ok-header.ensures) _ c.if-grid-header.false _ c.put_cells.ensures
