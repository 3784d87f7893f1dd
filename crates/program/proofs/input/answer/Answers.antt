-- The bytes that are read are judged as a job.
use borrow.Author.Rules.{rules}
use mathlib.Core.Path.{◌≡◌}
use Prim.Native.Nat.{min}
use lib.ListN.{length}
use Rattle.program.proofs.Inputs.{take_least, input_answered}
use Rattle.program.proofs.input.answer.Goals as goal

pub returns : goal.returns
returns c =
    let end : c.min.result ≡ min c.args.count (length c.args.bytes.now) = search rules in
    rw (← take_least c.args.count c.args.bytes.now, ← end) (input_answered _ _ c.judge_job.ensures)
