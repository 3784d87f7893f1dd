-- A job's parts, by the laws of JobJudging.
use borrow.Author.Rules.{rules}
use Prim.Native.Nat.{ℕ}
use lib.ListN.{length-replicate}
use Rattle.plain.specs.PlainCall.{scratch_length}
use Rattle.job.proofs.JobJudging.{parts_fit, parts_refused, parts_judged}
use Rattle.job.proofs.call.judge_parts.Goals as goal

pub returns-then-tree-ne0 : goal.returns-then-tree-ne0
returns-then-tree-ne0 c =
    parts_refused _ _ _ _ _ _ c.judge_both-answers.ensures.tree (length-replicate {A = ℕ} 7 0) _ c.if-tree-ne0.true c.refusal_line.ensures

pub five_lines-requires : goal.five_lines-requires
five_lines-requires c =
    parts_fit _ _ _ _ _ _ c.judge_both-answers.ensures.tree (length-replicate {A = ℕ} 7 0) (search rules)

pub returns : goal.returns
unfolding scratch_length
returns c =
    let both = c.judge_both-answers.ensures in
    parts_judged _ _ _ _ _ _ both.tree (length-replicate {A = ℕ} 7 0) _ (length-replicate {A = ℕ} scratch_length 0) _ both.plain _ c.if-tree-ne0.false
    c.five_lines.ensures
