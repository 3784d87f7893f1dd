-- A text on one line. The letters that the loop has passed stand at the front of the line: the line is the text just if the rest is the rest.
use Rattle.std.proofs.Common.{sym, ◌∙◌}
use Rattle.notation.proofs.Testing.{tests_no}
use Rattle.notation.proofs.OneLines.{line_other, line_more, line_end}
use Rattle.notation.proofs.texts.text_is.Goals as goal

pub returns-in_default : goal.returns-in_default
returns-in_default c =
    let l = c.loop-letter in
    tests_no (λ e. line_other c.args.text.now l.rest.now l.letter-index c.loop-letter-test.true c.in_default.ensures (l.invariant.0 e))

pub loop-letter-preserved : goal.loop-letter-preserved
loop-letter-preserved c =
    let l = c.loop-letter in
    let more = line_more c.args.text.now l.rest.now l.letter-index c.loop-letter-test.true _ c.in-Some.ensures in
    (λ e. more.0 (l.invariant.0 e), λ e. l.invariant.1 (more.1 e))

pub returns : goal.returns
returns c =
    let l = c.loop-letter in
    let all = line_end c.args.text.now l.rest.now l.letter-index c.loop-letter-test.false in
    (λ e. l.invariant.1 (all.0 (sym c.is_empty.ensures ∙ e)), λ e. c.is_empty.ensures ∙ all.1 (l.invariant.0 e))
