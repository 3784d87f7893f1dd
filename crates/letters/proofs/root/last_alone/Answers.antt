-- `last_alone` meets its contract. The loop has the root behind the letters that it has passed, and the last place where it was alone.
use Rattle.letters.proofs.RootPass.{passed_none, passed_more}
use Rattle.letters.proofs.root.last_alone.Goals as goal

pub loop-before-init : goal.loop-before-init
loop-before-init c =
    passed_none _ _ _ _ c.requires

pub loop-before-preserved : goal.loop-before-preserved
loop-before-preserved c =
    rw c.last_word-last.ensures (passed_more _ _ c.args.w.now _ c.requires _ _ _ c.loop-before.invariant c.loop-before-test.true
    _ (rw c.from.ensures at c.root_letter-root.ensures) _ c.alone_word-here.ensures)
