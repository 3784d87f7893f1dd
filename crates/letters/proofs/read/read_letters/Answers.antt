-- `read_letters` meets its contract: the letters up to the place, and those from there on.
use Rattle.base.proofs.Flattening.{to_end}
use Rattle.letters.proofs.LettersRead.{behind_readable, reads_join}
use Rattle.letters.proofs.read.read_letters.Goals as goal

pub read_each_letter-requires : goal.read_each_letter-requires
read_each_letter-requires c =
    rw (to_end c.place_of.result c.args.w.now, c.place_of.ensures)
    (behind_readable _ _ c.args.w.now _ _ _ c.skip_while_sparing-skipped.ensures.skips c.requires)

pub returns : goal.returns
returns c =
    reads_join _ _ c.args.w.now _ _ _ c.skip_while_sparing-skipped.ensures.skips _
    (rw (to_end c.place_of.result c.args.w.now, c.place_of.ensures) at c.read_each_letter.ensures)
