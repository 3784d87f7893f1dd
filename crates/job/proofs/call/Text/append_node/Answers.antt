-- The line with the node.
use native.Mathlib.Omega.{arith}
use borrow.Author.Tests.{ne_eqb}
use lib.ListN.{take}
use Rattle.job.specs.Ascii.{ascii}
use Rattle.job.specs.JobCall.{line, name_text, node_text}
use Rattle.job.specs.Inner.TextCode.{finding_of}
use Rattle.job.proofs.Appending.{appends_both, appends_most, appends_regroup}
use Rattle.job.proofs.call.Text.append_node.Goals as goal

pub returns-then-tree-eq1 : goal.returns-then-tree-eq1
unfolding line node_text finding_of
returns-then-tree-eq1 c =
    let both = appends_both c.append.ensures (rw c.from.ensures at c.append_name.ensures) (omega arith) in
    let all = appends_both both c.append-then-tree-eq1.ensures (omega arith) in
    rw c.if-tree-eq1.true (appends_regroup (ascii "node ") (name_text (take c.args.tree.length c.args.names)) (ascii "\n") all 34 (omega arith))

pub returns-else-tree-eq1 : goal.returns-else-tree-eq1
unfolding line node_text finding_of
returns-else-tree-eq1 c =
    let all = appends_both c.append.ensures c.append-else-tree-eq1.ensures (omega arith) in
    rw (ne_eqb _ _ c.if-tree-eq1.false) (appends_most all 34 (omega arith))
