-- Pairs of digits. The bytes of those that the loop has passed.
use Rattle.std.proofs.Common.{◌∙◌, sym}
use Rattle.std.proofs.Math.Bool.{false≢true}
use Rattle.std.proofs.lemmas.Bool.{eqb-true, eq-eqb}
use Rattle.notation.proofs.ByteTexts.{laid_none, laid_no_pair, laid_full, laid_more, laid_odd, laid_all}
use Rattle.notation.proofs.hexadecimal.pairs.Goals as goal

pub loop-rest-init : goal.loop-rest-init
loop-rest-init c =
    laid_none _ _ c.requires

pub returns-in_err-pair : goal.returns-in_err-pair
returns-in_err-pair c =
    rw c.from_residual.ensures (sym (laid_no_pair c.loop-rest.invariant c.in-len2-up.len_at_least (sym c.pair.ensures ∙ c.in_err-pair.was)))

pub returns-in_err-push : goal.returns-in_err-push
returns-in_err-push c =
    rw c.from_residual-in_err-push.ensures
    (sym (laid_full c.loop-rest.invariant c.in-len2-up.len_at_least _ (sym c.pair.ensures ∙ c.in_ok-pair.was) c.in_err-push.ensures))

pub loop-rest-preserved : goal.loop-rest-preserved
loop-rest-preserved c =
    let pushed = c.in_ok-push.ensures in
    laid_more c.loop-rest.invariant c.in-len2-up.len_at_least _ (sym c.pair.ensures ∙ c.in_ok-pair.was) _ pushed.0 pushed.1

pub returns-then-is_empty : goal.returns-then-is_empty
returns-then-is_empty c =
    sym (laid_all c.loop-rest.invariant (eqb-true _ 0 (sym c.is_empty.ensures ∙ c.if-is_empty.true)))

pub returns-else-is_empty : goal.returns-else-is_empty
returns-else-is_empty c =
    sym (laid_odd c.loop-rest.invariant c.in_default.len_below (λ e. false≢true (sym c.if-is_empty.false ∙ c.is_empty.ensures ∙ eq-eqb _ 0 e)))
