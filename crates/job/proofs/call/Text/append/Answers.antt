-- More bytes at the end.
use borrow.Author.Rules.{rules}
use Rattle.job.proofs.Appending.{appends_copied}
use Rattle.job.proofs.call.Text.append.Goals as goal

pub returns : goal.returns
returns c =
    appends_copied c.args.self.now c.args.more.now _ c.copy_from_slice.ensures.after (search rules)
