-- `enter` meets its contract, by the laws of Levels: one for each way out.
use Rattle.step.proofs.Levels.{enter_removed, enter_accepting, enter_kept}
use Rattle.step.proofs.pass.enter.Goals as goal

pub returns-then-made-eq0 : goal.returns-then-made-eq0
returns-then-made-eq0 c =
    enter_removed _ _ _ c.requires.0 c.requires.1 c.if-made-eq0.true

pub returns-then-made : goal.returns-then-made
returns-then-made c =
    enter_accepting _ _ _ c.requires.0 c.requires.1 c.if-made-eq0.false c.if-made.true

pub returns : goal.returns
returns c =
    enter_kept _ _ _ c.requires.0 c.requires.1 c.if-made-eq0.false c.if-made.false
