-- A stored call: its line.
use Rattle.std.proofs.Common.{◌∙◌, sym, ap}
use Rattle.notation.specs.Bytes.{bytes_in}
use Rattle.notation.proofs.Testing.{tests_no}
use Rattle.stored.proofs.Comparing.{present}
use Rattle.stored.proofs.RightLines.{not_named, not_whole, not_lent, line_tests}
use Rattle.stored.proofs.calls.call_right.Goals as goal

pub returns-in_default : goal.returns-in_default
returns-in_default c =
    tests_no (not_named _ _ c.field.ensures c.in_default.ensures)

pub returns-then-separators-arguments : goal.returns-then-separators-arguments
returns-then-separators-arguments c =
    tests_no
    (not_whole _ _ c.field.ensures _ _ c.in-Some.ensures c.arguments-arguments.ensures.0 _ c.separators.ensures c.if-separators-arguments.true)

pub returns-in_default-found : goal.returns-in_default-found
returns-in_default-found c =
    tests_no
    (not_lent _ _ c.field.ensures _ _ c.in-Some.ensures c.arguments-arguments.ensures.0 (sym c.field_bytes-found.ensures ∙ ap bytes_in c.in_default-found.is))

pub returns : goal.returns
returns c =
    line_tests _ _ c.field.ensures _ _ c.in-Some.ensures c.arguments-arguments.ensures.0 _ _ _ c.separators.ensures c.if-separators-arguments.false
    (present c.in-Some-found.is c.field_bytes-found.ensures c.as_mut_slice.ensures) c.lent_right.ensures
