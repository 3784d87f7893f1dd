-- The look-up of a set's successors, its answer compared.
use Rattle.std.proofs.Common.{◌∙◌, sym, refl, ap, arith}
use Rattle.notation.proofs.DecimalDigits.{limit_kept}
use Rattle.stored.specs.Calls.{successors_numbers}
use Rattle.stored.specs.declared.calls.Call.TheVariants.{Successors}
use Rattle.stored.proofs.Comparing.{compared_some, present, number_present}
use Rattle.stored.proofs.answers.successors_right.Goals as goal

pub overflow_cast-letter : goal.overflow_cast-letter
overflow_cast-letter c =
    omega (arith, (limit_kept 255 _ _ (sym c.number_of.ensures ∙ c.in_ok-letter.was)).1)

pub overflow_cast-states : goal.overflow_cast-states
overflow_cast-states c =
    omega (arith, (limit_kept 65535 _ _ (sym c.number_of-2.ensures ∙ c.in_ok-states.was)).1)

pub returns : goal.returns
returns c =
    compared_some Successors _ _ _ _ _ _ c.numbers_are.ensures
    (record {
      table = c.as_slice.result.now;
      letter = c.in_ok-letter.letter;
      states = c.in_ok-states.states;
      has_table = present (sym c.in_ok-table.ensures.value) c.field_bytes-table.ensures c.as_slice.ensures;
      has_letter = number_present 255 _ _ _ _ c.in_ok-letter.was c.number_of.ensures c.field.ensures;
      has_states = number_present 65535 _ _ _ _ c.in_ok-states.was c.number_of-2.ensures c.field-2.ensures;
      answers = c.successors_numbers.ensures ∙ ap successors_numbers c.successors-given.ensures;
      leaves = refl;
    })
