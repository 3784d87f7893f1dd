-- The step's answer compared.
use Rattle.std.proofs.Common.{◌∙◌, sym, ap, arith, ◌∷◌, []}
use Rattle.notation.proofs.DecimalDigits.{limit_kept}
use Rattle.stored.specs.Calls.{step_numbers}
use Rattle.stored.specs.declared.calls.Call.TheVariants.{Step}
use Rattle.stored.proofs.Comparing.{compared_some, present, number_present}
use Rattle.stored.proofs.answers.step_right.Goals as goal

pub overflow_cast-letter : goal.overflow_cast-letter
overflow_cast-letter c =
    omega (arith, (limit_kept 255 _ _ (sym c.number_of.ensures ∙ c.in_ok-letter.was)).1)

pub returns : goal.returns
returns c =
    let given = c.step-given.result in
    compared_some Step _ _ _ _ _ (c.from.result ∷ given.written ∷ c.from-2.result ∷ c.from-3.result ∷ []) c.numbers_are.ensures
    (record {
      table = c.as_slice.result.now;
      letter = c.in_ok-letter.letter;
      bytes = c.as_slice-2.result.now;
      has_table = present (sym c.in_ok-table.ensures.value) c.field_bytes-table.ensures c.as_slice.ensures;
      has_letter = number_present 255 _ _ _ _ c.in_ok-letter.was c.number_of.ensures c.field.ensures;
      has_bytes = present (sym c.in_ok-bytes.ensures.value) c.field_bytes-bytes.ensures c.as_slice-2.ensures;
      answers = rw (c.from.ensures, c.from-2.ensures, c.from-3.ensures) (ap step_numbers c.step-given.ensures.0);
      leaves = c.step-given.ensures.1;
    })
