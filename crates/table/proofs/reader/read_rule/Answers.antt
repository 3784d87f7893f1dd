-- Questions 1 to 3, then the cells, by the laws of RuleReading.
use mathlib.Core.Path.{refl, ◌∙◌}
use Rattle.std.proofs.lemmas.Result.{err_from_is_err_and}
use Rattle.rule.proofs.RowWords.{words_blank}
use Rattle.table.proofs.RuleReading.{into_no, into_yes, body_numbers, rule_short, rule_header, rule_body}
use Rattle.table.proofs.reader.read_rule.Goals as goal

pub returns-in_default : goal.returns-in_default
returns-in_default c =
    into_no (rule_short _ c.in_default.len_below) c.requires

pub returns-in_err-header : goal.returns-in_err-header
returns-in_err-header c =
    let asks = rw (c.from.ensures, c.from-2.ensures, c.from-3.ensures, c.from-4.ensures) at c.in_err-header.ensures in
    let p = err_from_is_err_and c.from_residual.result c.from_residual.ensures.1 in
    rw (p.1, p.2) (into_no (rule_header _ c.in-len4-up.len_at_least _ asks) c.requires)

pub returns-in-Err : goal.returns-in-Err
returns-in-Err c =
    let (any, asks, has) = rw (c.from.ensures, c.from-2.ensures, c.from-3.ensures, c.from-4.ensures) at c.in_ok-header.ensures in
    let body = rw (has.states, has.letters, has.sets, has.start) at c.in-Err.ensures in
    into_no (rule_body _ c.in-len4-up.len_at_least any asks ∙ body) (refl, words_blank)

pub returns : goal.returns
returns c =
    let (any, asks, has) = rw (c.from.ensures, c.from-2.ensures, c.from-3.ensures, c.from-4.ensures) at c.in_ok-header.ensures in
    let (R, body, (arrays, images)) = rw (has.states, has.letters, has.sets, has.start) at c.in_default-read_body.ensures in
    into_yes (rule_body _ c.in-len4-up.len_at_least any asks ∙ body) (body_numbers _ _ _ _ _ _ body has) arrays images
