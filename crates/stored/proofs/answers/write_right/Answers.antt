-- The writer's answer compared.
use Rattle.std.proofs.Common.{sym, ap, subst, ◌∷◌, []}
use Rattle.stored.specs.Calls.{write_numbers, RuleText}
use Rattle.stored.specs.declared.calls.Call.TheVariants.{Write}
use Rattle.stored.proofs.Comparing.{compared_none, compared_some, present}
use Rattle.stored.proofs.answers.write_right.Goals as goal

pub returns-in_err-rule : goal.returns-in_err-rule
returns-in_err-rule c =
    compared_none Write _ _ _ _ c.from_residual.ensures
    (λ ms left G. c.in_err-rule.ensures G.n G.m G.k G.start
    (subst (λ text. RuleText text G.n G.m G.k G.start) (sym c.field.ensures) G.has_rule))

pub returns : goal.returns
returns c =
    let given = c.write-given.result in
    let rule = c.in_ok-rule.rule in
    compared_some Write _ _ _ _ _ (c.from.result ∷ given.written ∷ []) c.numbers_are.ensures
    (record {
      n = rule.n;
      m = rule.m;
      k = rule.k;
      start = rule.start;
      grid = c.as_slice.result.now;
      has_rule = subst (λ text. RuleText text rule.n rule.m rule.k rule.start) c.field.ensures c.in_ok-rule.ensures;
      has_grid = present (sym c.in_ok-grid.ensures.value) c.field_bytes-grid.ensures c.as_slice.ensures;
      answers = rw c.from.ensures (ap write_numbers c.write-given.ensures.0);
      leaves = c.write-given.ensures.1;
    })
