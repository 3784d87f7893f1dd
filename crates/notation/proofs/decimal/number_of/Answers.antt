-- The number that a text has in decimal. The digits that the loop has passed have the value so far.
use Rattle.std.proofs.Common.{◌≡◌, ◌∙◌, sym, ap, ℕ, ◌+◌, ◌*◌, arith, drop}
use Rattle.std.proofs.Math.Bool.{false≢true}
use Rattle.std.proofs.lemmas.Bool.{eqb-true, eq-eqb, lt-leb, le-leb}
use Rattle.notation.specs.Decimal.{no_larger, digits_value}
use Rattle.notation.proofs.DecimalDigits.{no_letter, first_place, no_digit, large_digit, one_digit, all_digits, too_large_next}
use Rattle.notation.proofs.decimal.number_of.Goals as goal

pub returns-then-is_empty : goal.returns-then-is_empty
returns-then-is_empty c =
    sym (no_letter c.args.limit _ (eqb-true _ 0 (sym c.is_empty.ensures ∙ c.if-is_empty.true)))

pub loop-letter-init : goal.loop-letter-init
loop-letter-init c =
    first_place _ (λ e. false≢true (sym c.if-is_empty.false ∙ c.is_empty.ensures ∙ eq-eqb _ 0 e))

pub returns-in_err-units : goal.returns-in_err-units
unfolding no_larger
returns-in_err-units c =
    let l = c.loop-letter in
    let none = no_digit c.args.text.now l.value l.letter-index c.loop-letter-test.true (sym c.digit.ensures ∙ c.in_err-units.was) in
    c.from_residual.ensures ∙ sym (ap (λ o. no_larger c.args.limit o) (l.invariant ∙ none))

pub returns-then-units-gt9 : goal.returns-then-units-gt9
unfolding no_larger
returns-then-units-gt9 c =
    let l = c.loop-letter in
    let none =
    large_digit c.args.text.now l.value l.letter-index c.loop-letter-test.true _ (sym c.digit.ensures ∙ c.in_ok-units.was)
    c.if-units-gt9.true in
    sym (ap (λ o. no_larger c.args.limit o) (l.invariant ∙ none))

pub returns-in_err-checked_mul : goal.returns-in_err-checked_mul
returns-in_err-checked_mul c =
    let l = c.loop-letter in
    let product = c.in_err-checked_mul.ensures in
    c.from_residual-in_err-checked_mul.ensures
    ∙ sym (too_large_next c.args.text.now l.value l.letter-index c.args.limit l.invariant c.loop-letter-test.true _
    (sym c.digit.ensures ∙ c.in_ok-units.was) (omega arith) (omega arith))

pub returns-in_err-value : goal.returns-in_err-value
returns-in_err-value c =
    let l = c.loop-letter in
    let total = c.in_err-value.ensures in
    let product = c.in_ok-checked_mul.ensures in
    c.from_residual-in_err-value.ensures
    ∙ sym (too_large_next c.args.text.now l.value l.letter-index c.args.limit l.invariant c.loop-letter-test.true _
    (sym c.digit.ensures ∙ c.in_ok-units.was) (omega arith) (omega arith))

pub loop-letter-preserved : goal.loop-letter-preserved
loop-letter-preserved c =
    let l = c.loop-letter in
    let text = c.args.text.now in
    let total = c.in_ok-value.ensures in
    let product = c.in_ok-checked_mul.ensures in
    let next : 10 * l.value + c.in_ok-units.units ≡ c.in_ok-value.value = omega arith in
    l.invariant
    ∙ one_digit text l.value l.letter-index c.loop-letter-test.true _ (sym c.digit.ensures ∙ c.in_ok-units.was) (omega arith)
    ∙ ap (λ (n : ℕ). digits_value n (drop (l.letter-index + 1) text)) next

pub returns-then-limit-value : goal.returns-then-limit-value
unfolding no_larger
returns-then-limit-value c =
    let l = c.loop-letter in
    let all = all_digits c.args.text.now l.value l.letter-index c.loop-letter-test.false in
    rw (l.invariant, all, lt-leb l.value c.args.limit c.if-limit-value.true)

pub returns-else-limit-value : goal.returns-else-limit-value
unfolding no_larger
returns-else-limit-value c =
    let l = c.loop-letter in
    let all = all_digits c.args.text.now l.value l.letter-index c.loop-letter-test.false in
    rw (l.invariant, all, le-leb l.value c.args.limit c.if-limit-value.false)
