-- The five lines.
use mathlib.Core.Path.{◌∙◌, ap}
use mathlib.Core.List.{append_assoc}
use native.Mathlib.Omega.{arith}
use Rattle.job.specs.JobCall.{five_lines, text_of}
use Rattle.job.proofs.JobJudging.{finding_says}
use Rattle.job.proofs.Appending.{appends_both, from_nothing}
use Rattle.job.proofs.lines.five_lines.Goals as goal

pub returns : goal.returns
unfolding five_lines
returns c =
    let one = rw c.empty-text.ensures at c.append_yes_no.ensures in
    let two = appends_both one c.append_numbered.ensures (omega arith) in
    let three = appends_both two c.append_numbered-2.ensures (omega arith) in
    let four = appends_both three c.append_node.ensures (omega arith) in
    let five = appends_both four c.append_yes_no-2.ensures (omega arith) in
    from_nothing five (omega arith) ∙ ap text_of (simp (append_assoc, finding_says c.args.tree c.args.names))
