-- `walk_lookups` meets its contract, by the laws of WalkLookups.
use mathlib.Core.Path.{◌∙◌}
use Rattle.word.proofs.WalkLookups.{lead_among, walk_among, lookups_walk}
use Rattle.word.proofs.lookups.walk_lookups.Goals as goal

pub occurring-lead_letters-requires : goal.occurring-lead_letters-requires
occurring-lead_letters-requires c =
    let (few, lead, _) = c.requires in
    lead_among _ _ few c.all_letters-all.ensures _ lead

pub occurring-letters-requires : goal.occurring-letters-requires
occurring-letters-requires c =
    let (few, lead, tail) = c.requires in
    walk_among _ _ few c.all_letters-all.ensures _ lead _ tail _ c.occurring-lead_letters.ensures

pub returns : goal.returns
returns c =
    c.fill_lookups.ensures ∙ lookups_walk _ _ _ _ _ _ c.occurring-lead_letters.ensures c.occurring-letters.ensures
