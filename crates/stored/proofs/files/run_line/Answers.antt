-- One line counted.
use Rattle.std.proofs.Common.{refl, sym, ◌∙◌}
use Rattle.notation.proofs.Testing.{tests_not}
use Rattle.stored.specs.Inner.Comparing.{not_counted, found_right, found_different}
use Rattle.stored.proofs.files.run_line.Goals as goal

pub returns-then-not-has_case-clause-counted : goal.returns-then-not-has_case-clause-counted
returns-then-not-has_case-clause-counted g c kind tests =
    not_counted (sym c.has_case.ensures ∙ c.if-not-has_case.true) refl

pub returns-then-not-right-clause-counted : goal.returns-then-not-right-clause-counted
returns-then-not-right-clause-counted g c kind tests =
    let case = sym c.has_case.ensures ∙ c.if-not-has_case.false in
    let answered = tests c.args.line.now c.right.result (record { shown = c.args.line; shows = refl; says = record { met = c.right.ensures } }) in
    found_different case (tests_not answered c.if-not-right.true) refl

pub returns-else-not-right-clause-counted : goal.returns-else-not-right-clause-counted
returns-else-not-right-clause-counted g c kind tests =
    let case = sym c.has_case.ensures ∙ c.if-not-has_case.false in
    let answered = tests c.args.line.now c.right.result (record { shown = c.args.line; shows = refl; says = record { met = c.right.ensures } }) in
    found_right case (answered.0 c.if-not-right.false) refl
