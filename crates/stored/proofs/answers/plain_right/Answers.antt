-- The plain judge's answer compared.
use Rattle.std.proofs.Common.{sym, ◌∷◌, []}
use Rattle.stored.specs.declared.calls.Call.TheVariants.{Plain}
use Rattle.stored.proofs.Comparing.{compared_some, present}
use Rattle.stored.proofs.answers.plain_right.Goals as goal

pub returns : goal.returns
returns c =
    compared_some Plain _ _ _ _ _ (c.from.result ∷ c.from-2.result ∷ []) c.numbers_are.ensures
    (record {
      table = c.as_slice.result.now;
      u = c.as_slice-2.result.now;
      v = c.as_slice-3.result.now;
      has_table = present (sym c.in_ok-table.ensures.value) c.field_bytes-table.ensures c.as_slice.ensures;
      has_lead = present (sym c.in_ok-u.ensures.value) c.field_bytes-u.ensures c.as_slice-2.ensures;
      has_tail = present (sym c.in_ok-v.ensures.value) c.field_bytes-v.ensures c.as_slice-3.ensures;
      answer = c.plain_judge-given.result;
      judged = c.plain_judge-given.ensures.0;
      answers = rw (c.from.ensures, c.from-2.ensures);
      leaves = c.plain_judge-given.ensures.1;
    })
