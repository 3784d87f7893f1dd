-- The comparison of two walks, its answer compared.
use Rattle.std.proofs.Common.{sym, refl, ◌∷◌, []}
use Rattle.stored.specs.declared.calls.Call.TheVariants.{Same}
use Rattle.stored.proofs.Comparing.{compared_some, present}
use Rattle.stored.proofs.answers.same_right.Goals as goal

pub returns : goal.returns
returns c =
    compared_some Same _ _ _ _ _ (c.from.result ∷ c.from-2.result ∷ []) c.numbers_are.ensures
    (record {
      u = c.as_slice.result.now;
      v = c.as_slice-2.result.now;
      u' = c.as_slice-3.result.now;
      v' = c.as_slice-4.result.now;
      has_lead = present (sym c.in_ok-u.ensures.value) c.field_bytes-u.ensures c.as_slice.ensures;
      has_tail = present (sym c.in_ok-v.ensures.value) c.field_bytes-v.ensures c.as_slice-2.ensures;
      has_lead' = present (sym c.in_ok-u2.ensures.value) c.field_bytes-u2.ensures c.as_slice-3.ensures;
      has_tail' = present (sym c.in_ok-v2.ensures.value) c.field_bytes-v2.ensures c.as_slice-4.ensures;
      answer = c.same_walk-given.result;
      compared = c.same_walk-given.ensures;
      answers = rw (c.from.ensures, c.from-2.ensures);
      leaves = refl;
    })
