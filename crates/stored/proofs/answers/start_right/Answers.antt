-- The starting record's answer compared.
use Rattle.std.proofs.Common.{sym, ap, ◌∷◌, []}
use Rattle.stored.specs.Calls.{start_numbers}
use Rattle.stored.specs.declared.calls.Call.TheVariants.{Start}
use Rattle.stored.proofs.Comparing.{compared_some, present}
use Rattle.stored.proofs.answers.start_right.Goals as goal

pub returns : goal.returns
returns c =
    let given = c.start-given.result in
    compared_some Start _ _ _ _ _ (c.from.result ∷ given.written ∷ []) c.numbers_are.ensures
    (record {
      table = c.as_slice.result.now;
      has_table = present (sym c.in_ok-table.ensures.value) c.field_bytes-table.ensures c.as_slice.ensures;
      answers = rw c.from.ensures (ap start_numbers c.start-given.ensures.0);
      leaves = c.start-given.ensures.1;
    })
