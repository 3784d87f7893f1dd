-- One letter on a record: the questions to the table and the letter, then the step by the letter's look-up.
use mathlib.Core.Path.{refl}
use Rattle.step.specs.StepCall.{step_outcome, step_after}
use Rattle.step.proofs.call.step.Goals as goal

pub step_prepared-requires : goal.step_prepared-requires
step_prepared-requires c =
    let (R, _, ready) = c.in-Ok.ensures in
    (R, _, ready)

pub returns-in-Err : goal.returns-in-Err
unfolding step_outcome step_after
returns-in-Err c =
    rw c.in-Err.ensures (c.into.ensures, refl)

pub returns-in-Ok : goal.returns-in-Ok
unfolding step_outcome
returns-in-Ok c =
    let (R, accepts, ready) = c.in-Ok.ensures in
    rw accepts (c.step_prepared.ensures R _ ready)
