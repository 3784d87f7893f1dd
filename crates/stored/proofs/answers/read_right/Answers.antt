-- The reader's answer compared.
use Rattle.std.proofs.Common.{sym, ap, ◌∷◌, []}
use Rattle.stored.specs.Calls.{read_numbers}
use Rattle.stored.specs.declared.calls.Call.TheVariants.{Read}
use Rattle.stored.proofs.Comparing.{compared_some, present}
use Rattle.stored.proofs.answers.read_right.Goals as goal

pub returns : goal.returns
returns c =
    let given = c.read-given.result in
    compared_some Read _ _ _ _ _ (c.from.result ∷ given.states ∷ given.letters ∷ given.sets ∷ c.from-2.result ∷ []) c.numbers_are.ensures
    (record {
      table = c.as_slice.result.now;
      has_table = present (sym c.in_ok-table.ensures.value) c.field_bytes-table.ensures c.as_slice.ensures;
      answers = rw (c.from.ensures, c.from-2.ensures) (ap read_numbers c.read-given.ensures.0);
      leaves = c.read-given.ensures.1;
    })
