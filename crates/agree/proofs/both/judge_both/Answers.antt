-- Both judges: the questions to the table and the walk, then each judge on the look-ups that are ready; demand 3.
use mathlib.Core.Path.{refl}
use Rattle.word.specs.Judging.{judge_questions}
use Rattle.plain.specs.PlainCall.{plain_outcome, scratch_after}
use Rattle.treejudge.specs.JudgeCall.{tree_outcome}
use Rattle.agree.proofs.Agreeing.{both_answer}
use Rattle.agree.proofs.both.judge_both.Goals as goal

pub returns-in-Err : goal.returns-in-Err
unfolding tree_outcome plain_outcome judge_questions scratch_after
returns-in-Err c =
    both_answer _ _ _ _ _ (rw c.in-Err.ensures (c.into.ensures, refl)) (rw c.in-Err.ensures (c.into-in-Err.ensures, refl))

pub returns-in-Ok : goal.returns-in-Ok
unfolding tree_outcome plain_outcome judge_questions
returns-in-Ok c =
    let (R, accepts, ready) = c.in-Ok.ensures in
    both_answer _ _ _ _ _ (rw accepts (c.judge_prepared.ensures R ready)) (rw accepts (c.judge_prepared-in-Ok.ensures R ready))
