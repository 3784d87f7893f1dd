-- The questions to a table and a walk, by the laws of JudgeQuestions.
use Rattle.std.proofs.lemmas.Result.{err_from_is_err_and}
use Rattle.table.proofs.Asked.{arrays_blank, read_yes}
use Rattle.word.proofs.JudgeQuestions.{walk_no_table, walk_no, walk_yes}
use Rattle.word.proofs.WalkQuestions.{walk_letters}
use Rattle.word.proofs.questions.walk_questions.Goals as goal

pub read_rule-requires : goal.read_rule-requires
read_rule-requires c =
    arrays_blank

pub returns-in_err-header : goal.returns-in_err-header
returns-in_err-header c =
    let p = err_from_is_err_and c.from_residual.result c.from_residual.ensures.1 in
    rw (p.1, p.2) (walk_no_table _ _ _ c.in_err-header.ensures.answers)

pub returns-in_err-check_walk : goal.returns-in_err-check_walk
returns-in_err-check_walk c =
    let p = err_from_is_err_and c.from_residual-in_err-check_walk.result c.from_residual-in_err-check_walk.ensures.1 in
    rw (p.1, p.2) (walk_no _ _ _ (read_yes c.in_ok-header.ensures) c.in_err-check_walk.ensures)

pub walk_lookups-requires : goal.walk_lookups-requires
walk_lookups-requires c =
    let (lead, tail) = walk_letters _ _ _ c.in_ok-check_walk.ensures.1 in
    (c.in_ok-header.header.few_letters, lead, tail)

pub returns : goal.returns
returns c =
    walk_yes _ _ _ (read_yes c.in_ok-header.ensures) c.in_ok-check_walk.ensures.1 _ c.walk_lookups.ensures
