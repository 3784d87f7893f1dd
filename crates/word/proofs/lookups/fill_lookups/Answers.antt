-- `fill_lookups` meets its contract. The loop fills the look-ups of the map's letters, one letter after the other.
use Rattle.word.proofs.WalkLookups.{lookups_made, lookups_kept, lookups_end}
use Rattle.word.proofs.lookups.fill_lookups.Goals as goal
use Rattle.word.proofs.lookups.fill_lookups.Goals.{then-letters-letter-eq1, else-letters-letter-eq1}

pub loop-letter-preserved : goal.loop-letter-preserved
loop-letter-preserved c =
    let v = c.loop-letter.invariant in
    elim c.if-letters-letter-eq1.branch [
      | then-letters-letter-eq1 w ↦ rw w.lookups-is (lookups_made _ _ _ _ _ v c.loop-letter-test.true w.if-letters-letter-eq1.true _ w.fill_lookup.ensures)
      | else-letters-letter-eq1 w ↦ rw w.lookups-is (lookups_kept _ _ _ _ _ v w.if-letters-letter-eq1.false)
    ]

pub returns : goal.returns
returns c =
    lookups_end _ _ _ _ _ c.loop-letter.invariant c.loop-letter-test.false
