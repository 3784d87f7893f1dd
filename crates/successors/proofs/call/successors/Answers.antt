-- The look_up as a call: the questions to the table and the letter, then the law of Answers.
use Rattle.successors.specs.SuccessorsCall.{successors_outcome}
use Rattle.successors.proofs.Answers.{looked_up}
use Rattle.successors.proofs.call.successors.Goals as goal

pub returns-in-Err : goal.returns-in-Err
unfolding successors_outcome
returns-in-Err c = rw c.in-Err.ensures (c.into.ensures _ _)

pub returns-in-Ok : goal.returns-in-Ok
unfolding successors_outcome
returns-in-Ok c =
    let (R, accepts, ready) = c.in-Ok.ensures in
    rw accepts (looked_up ready _ c.look_up-images.ensures c.map_of.ensures c.maps_by_set.ensures)
