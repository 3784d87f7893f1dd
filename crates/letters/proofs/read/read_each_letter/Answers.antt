-- `read_each_letter` meets its contract. The loop has the tree after the letters that it has passed.
use Rattle.letters.proofs.LettersRead.{letter_small, upto_none, upto_ready, upto_more, upto_all}
use Rattle.letters.proofs.read.read_each_letter.Goals as goal

pub loop-letter-init : goal.loop-letter-init
loop-letter-init c =
    upto_none _ _ _ _

pub bounds-lookups-from : goal.bounds-lookups-from
bounds-lookups-from c =
    rw c.from.ensures (letter_small _ _ _ _ c.requires _ c.loop-letter-test.true)

pub step_nodes-requires : goal.step_nodes-requires
step_nodes-requires c =
    upto_ready _ _ _ _ _ _ c.loop-letter.invariant c.requires

pub loop-letter-preserved : goal.loop-letter-preserved
loop-letter-preserved c =
    upto_more _ _ _ _ _ _ c.loop-letter.invariant c.loop-letter-test.true _ _ (rw c.from.ensures at c.step_nodes.ensures)

pub returns : goal.returns
returns c =
    upto_all _ _ _ _ _ _ c.loop-letter.invariant c.loop-letter-test.false
