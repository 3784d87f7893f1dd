-- Does a line have a case?
use Rattle.std.proofs.Common.{◌∙◌, ap, not}
use Rattle.stored.proofs.Tallying.{case_there}
use Rattle.stored.proofs.files.has_case.Goals as goal

pub returns : goal.returns
returns c =
    ap not c.starts_with.ensures.value ∙ case_there c.args.line.now
