-- The cells of a letter, by the laws of ManyReading.
use mathlib.Core.List.{[]}
use mathlib.Core.Path.{◌∙◌}
use borrow.Author.Rules.{rules}
use lib.ListN.{get_or-replicate}
use Rattle.std.proofs.lemmas.Result.{err_from_is_err_and}
use Rattle.rule.specs.Limits.{max_states}
use Rattle.rule.specs.Inner.Padded.{blank_row}
use Rattle.rule.proofs.RowWords.{word_stored}
use Rattle.table.specs.Inner.Reader.{read_square}
use Rattle.table.proofs.ManyReading.{many_start, many_place, many_more, many_refused, many_done}
use Rattle.table.proofs.cells.read_letter.Goals as goal

pub loop-state-init : goal.loop-state-init
unfolding read_square
loop-state-init c =
    (rw c.requires.0 (many_start _ _ _ _), c.requires.1)

pub read_cell-requires : goal.read_cell-requires
read_cell-requires c =
    many_place c.loop-state.invariant.0 [] ∙ get_or-replicate max_states c.loop-state.state blank_row [] (search rules)

pub returns-in_err-read_cell : goal.returns-in_err-read_cell
returns-in_err-read_cell c =
    let e = many_refused c.loop-state.invariant.0 c.loop-state-test.true _ c.in_err-read_cell.ensures.0 in
    let p = err_from_is_err_and c.from_residual.result c.from_residual.ensures.1 in rw (p.1, p.2) (e, tt)

pub loop-state-preserved : goal.loop-state-preserved
loop-state-preserved c =
    let inv = c.loop-state.invariant in (
      many_more inv.0 c.loop-state-test.true (search rules) _ _ c.in_ok-read_cell.ensures.0,
      word_stored _ inv.1 _ _ c.in_ok-read_cell.ensures.1,
    )

pub returns : goal.returns
returns c =
    (many_done c.loop-state.invariant.0 c.loop-state-test.false, c.loop-state.invariant.1)
