-- A byte string, by its form.
use Rattle.std.proofs.Common.{◌∙◌, sym, arith}
use Rattle.notation.specs.Hexadecimal.{byte_string, no_longer}
use Rattle.notation.proofs.Testing.{tests_not}
use Rattle.notation.proofs.ByteTexts.{empty_fits, a_dash, a_star, only_pairs}
use Rattle.notation.proofs.hexadecimal.put.Goals as goal

pub returns-then-same : goal.returns-then-same
unfolding byte_string
returns-then-same c =
    rw (a_dash _ (c.same.ensures.0 c.if-same.true), c.clear.ensures) (sym empty_fits)

pub returns-in_default : goal.returns-in_default
unfolding byte_string
returns-in_default c =
    let few = c.in_default.len_below in
    c.pairs.ensures ∙ rw (only_pairs c.args.text.now (tests_not c.same.ensures c.if-same.false) (λ three is. omega arith))

pub returns-then-third-ne42 : goal.returns-then-third-ne42
unfolding byte_string
returns-then-third-ne42 c =
    c.pairs-then-third-ne42.ensures
    ∙ rw (only_pairs c.args.text.now (tests_not c.same.ensures c.if-same.false) (λ three. c.if-third-ne42.true))

pub returns-in_err-pair : goal.returns-in_err-pair
unfolding byte_string no_longer
returns-in_err-pair c =
    let star = a_star c.args.text.now c.in-len3-up.len_at_least c.if-third-ne42.false in
    rw (c.from_residual.ensures, star, ← c.pair.ensures, c.in_err-pair.was)

pub returns : goal.returns
unfolding byte_string
returns c =
    let star = a_star c.args.text.now c.in-len3-up.len_at_least c.if-third-ne42.false in
    c.run.ensures ∙ rw (star, ← c.pair.ensures, c.in_ok-pair.was)
