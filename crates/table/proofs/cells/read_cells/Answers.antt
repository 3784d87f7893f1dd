-- The cells letter by letter, by the laws of ManyReading.
use mathlib.Core.List.{[]}
use mathlib.Core.Path.{◌∙◌}
use borrow.Author.Rules.{rules}
use lib.ListN.{get_or-replicate}
use Rattle.std.proofs.lemmas.Result.{err_from_is_err_and}
use Rattle.rule.specs.Limits.{max_letters}
use Rattle.rule.specs.Inner.Padded.{blank_square}
use Rattle.rule.proofs.RowWords.{words_at, words_stored}
use Rattle.table.specs.Inner.Reader.{read_padded}
use Rattle.table.proofs.ManyReading.{many_start, many_place, many_more, many_refused, many_done}
use Rattle.table.proofs.cells.read_cells.Goals as goal

pub loop-letter-init : goal.loop-letter-init
unfolding read_padded
loop-letter-init c =
    (rw c.requires.0 (many_start _ _ _ _), c.requires.1)

pub read_letter-requires : goal.read_letter-requires
read_letter-requires c =
    let inv = c.loop-letter.invariant in
    (many_place inv.0 [] ∙ get_or-replicate max_letters c.loop-letter.letter blank_square [] (search rules), rw inv.1 (words_at _ _))

pub returns-in_err-read_letter : goal.returns-in_err-read_letter
returns-in_err-read_letter c =
    let e = many_refused c.loop-letter.invariant.0 c.loop-letter-test.true _ c.in_err-read_letter.ensures.0 in
    let p = err_from_is_err_and c.from_residual.result c.from_residual.ensures.1 in rw (p.1, p.2) (e, tt)

pub loop-letter-preserved : goal.loop-letter-preserved
loop-letter-preserved c =
    let inv = c.loop-letter.invariant in (
      many_more inv.0 c.loop-letter-test.true (search rules) _ _ c.in_ok-read_letter.ensures.0,
      words_stored _ inv.1 _ _ c.in_ok-read_letter.ensures.1,
    )

pub returns : goal.returns
returns c =
    (many_done c.loop-letter.invariant.0 c.loop-letter-test.false, c.loop-letter.invariant.1)
