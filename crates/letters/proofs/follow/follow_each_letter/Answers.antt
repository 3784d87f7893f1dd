-- `follow_each_letter` meets its contract. The loop has the nodes followed through the letters that it has passed.
use Rattle.letters.proofs.LettersRead.{letter_small}
use Rattle.letters.proofs.NamesFollowed.{followed_reads, followed_ready, followed_more, followed_all}
use Rattle.letters.proofs.follow.follow_each_letter.Goals as goal

pub bounds-lookups-from : goal.bounds-lookups-from
bounds-lookups-from c =
    rw c.from.ensures (letter_small _ _ _ _ (followed_reads _ _ _ _ _ c.requires) _ c.loop-letter-test.true)

pub step_nodes-next-requires : goal.step_nodes-next-requires
step_nodes-next-requires c =
    followed_ready _ _ _ _ _ _ _ _ c.loop-letter.invariant c.requires

pub loop-letter-preserved : goal.loop-letter-preserved
loop-letter-preserved c =
    followed_more _ _ _ _ _ _ _ _ c.loop-letter.invariant c.loop-letter-test.true _ _ (rw c.from.ensures at c.step_nodes-next.ensures)
    _ c.carry-maps.ensures

pub returns : goal.returns
returns c =
    followed_all _ _ _ _ _ _ _ _ c.loop-letter.invariant c.loop-letter-test.false
