-- `fill_lookup` meets its contract: half by half.
use Rattle.rule.proofs.LookupSteps.{halves_joined}
use Rattle.rule.proofs.lookup.fill_lookup.Goals as goal

pub returns : goal.returns
returns c =
    rw (c.fill_half.ensures, c.fill_half-2.ensures, c.split_at.ensures.front, c.split_at.ensures.back) (halves_joined c.args.words.now)
