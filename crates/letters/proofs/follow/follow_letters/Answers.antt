-- `follow_letters` meets its contract: the letters up to the place, and those from there on.
use Rattle.base.proofs.Flattening.{to_end}
use Rattle.letters.proofs.NamesFollowed.{followed_reads, behind_followable, follows_join}
use Rattle.letters.proofs.follow.follow_letters.Goals as goal

pub skip_while_sparing-skipped-requires : goal.skip_while_sparing-skipped-requires
skip_while_sparing-skipped-requires c =
    followed_reads _ _ _ _ _ c.requires

pub follow_each_letter-requires : goal.follow_each_letter-requires
follow_each_letter-requires c =
    rw (c.maps_there-maps.ensures, to_end c.place_of.result c.args.w.now, c.place_of.ensures)
    (behind_followable _ _ c.args.w.now _ _ c.args.from _ c.skip_while_sparing-skipped.ensures.skips c.requires)

pub returns : goal.returns
returns c =
    follows_join _ _ c.args.w.now _ _ c.args.from _ c.skip_while_sparing-skipped.ensures.skips _ _
    (rw (c.maps_there-maps.ensures, to_end c.place_of.result c.args.w.now, c.place_of.ensures) at c.follow_each_letter.ensures)
