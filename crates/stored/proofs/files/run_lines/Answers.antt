-- All lines. There are no more differences than cases, cases than lines, lines than letters passed.
use Rattle.std.proofs.Common.{arith}
use Rattle.stored.proofs.Tallying.{counting_start, counting_next, counting_done}
use Rattle.stored.proofs.files.run_lines.Goals as goal

pub loop-line-init : goal.loop-line-init
loop-line-init g c =
    ((omega arith, omega arith, omega arith), λ kind tests. counting_start kind _)

pub loop-line-preserved : goal.loop-line-preserved
loop-line-preserved g c =
    let next = c.in-Some.ensures in
    let inv = c.loop-line.invariant in
    let counted = c.run_line-tally.ensures in (
      (omega arith, omega arith, omega arith),
      λ kind tests. counting_next kind _ _ _ (inv.1 kind tests) _ _ _ next.0 (counted.counted kind tests),
    )

pub returns : goal.returns
returns g c kind tests =
    counting_done kind _ _ _ (c.loop-line.invariant.1 kind tests) c.in_default.ensures
