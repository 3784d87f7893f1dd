-- A number in decimal.
use borrow.Author.Rules.{rules}
use mathlib.Core.Path.{refl}
use native.Mathlib.Omega.{arith}
use Rattle.job.proofs.Appending.{appends_most}
use Rattle.job.proofs.DecimalDigits.{digits_short, places_start, places_left, places_turn, places_done}
use Rattle.job.proofs.call.Text.append_number.Goals as goal

pub loop-rest-init : goal.loop-rest-init
loop-rest-init c =
    (refl, places_start _ _ _ (omega arith) refl)

pub overflow_sub-at-in-loop-rest : goal.overflow_sub-at-in-loop-rest
overflow_sub-at-in-loop-rest c =
    places_left c.loop-rest.invariant.1 c.loop-rest-test.true

pub loop-rest-preserved : goal.loop-rest-preserved
loop-rest-preserved c =
    (search rules, places_turn c.loop-rest.invariant.1 c.loop-rest-test.true)

pub append-requires : goal.append-requires
append-requires c =
    let left = c.loop-rest in
    rw (places_done left.invariant.1 c.loop-rest-test.false 20 left.invariant.0)
    (omega (arith, digits_short 19 c.args.number (omega arith)))

pub returns : goal.returns
returns c =
    let left = c.loop-rest in
    let all = rw (places_done left.invariant.1 c.loop-rest-test.false 20 left.invariant.0) at c.append.ensures in
    appends_most all 20 (digits_short 19 c.args.number (omega arith))
