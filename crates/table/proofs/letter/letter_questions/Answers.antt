-- The questions to a table and a letter, by the laws of LetterAsked.
use Prim.Native.Nat.{◌<◌}
use native.Mathlib.Omega.{arith}
use Rattle.std.proofs.lemmas.Result.{err_from_is_err_and}
use Rattle.table.proofs.Asked.{read_yes}
use Rattle.table.proofs.LetterAsked.{letter_no_table, letter_no, letter_yes, letter_prepared}
use Rattle.table.proofs.letter.letter_questions.Goals as goal

pub returns-in_err-header : goal.returns-in_err-header
returns-in_err-header c =
    let p = err_from_is_err_and c.from_residual.result c.from_residual.ensures.1 in
    rw (p.1, p.2) (letter_no_table _ _ c.in_err-header.ensures.answers)

pub returns-then-header-a : goal.returns-then-header-a
returns-then-header-a c =
    letter_no (read_yes c.in_ok-header.ensures) _ (omega (arith, c.if-header-a.true))

pub returns : goal.returns
returns c =
    let v = read_yes c.in_ok-header.ensures in
    let small : c.args.letter < c.in_ok-header.header.letters = omega (arith, c.if-header-a.false) in
    (v.rule, letter_yes v _ small, letter_prepared v _ small (rw c.from-a.ensures at c.fill_lookup.ensures))
