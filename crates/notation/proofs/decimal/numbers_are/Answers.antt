-- Does a text have just these numbers? Each part that the loop has passed has its number.
use Rattle.std.proofs.Common.{◌≤◌, ◌∙◌, sym, ap, length, arith}
use borrow.Author.Count.{below_more}
use Rattle.notation.specs.Parts.{space, parts}
use Rattle.notation.specs.Decimal.{decimal}
use Rattle.notation.proofs.Testing.{tests_yes, tests_no}
use Rattle.notation.proofs.DecimalDigits.{has_number, has_count, all_numbers, part_other, part_same}
use Rattle.notation.proofs.decimal.numbers_are.Goals as goal

pub returns-then-numbers-spaces : goal.returns-then-numbers-spaces
returns-then-numbers-spaces c =
    let args = c.args in
    tests_no (λ has. omega (arith, has_count (parts space args.text.now) args.numbers.now has))

pub returns-then-ne : goal.returns-then-ne
returns-then-ne c =
    let at = c.loop-at.at in
    let args = c.args in
    let known = c.type_inv.numbers at in
    let texts = parts space args.text.now in
    tests_no
    (λ has. part_other 18446744073709551615 _ c.number_of.result _ c.number_of.ensures (omega arith) (sym c.ne.ensures ∙ c.if-ne.true)
    (ap decimal c.part.ensures ∙ has_number texts args.numbers.now has at (omega arith)))

pub loop-at-preserved : goal.loop-at-preserved
loop-at-preserved c =
    below_more _ _ c.loop-at.invariant
    (ap decimal (sym c.part.ensures) ∙ part_same 18446744073709551615 _ c.number_of.result _ c.number_of.ensures (sym c.ne.ensures ∙ c.if-ne.false))

pub returns : goal.returns
returns c =
    let args = c.args in
    let few : length (parts space args.text.now) ≤ length args.numbers.now = omega arith in
    tests_yes (all_numbers (parts space args.text.now) args.numbers.now few (λ k less. c.loop-at.invariant k (omega arith)))
