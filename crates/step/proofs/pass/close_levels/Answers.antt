-- `close_levels` meets its contract, by the laws of ClosingLoop: one for each way through the loop's body.
use borrow.Author.Rules.{rules}
use Rattle.step.proofs.ClosingLoop.{closing_start, close_none, close_some, closing_done}
use Rattle.step.proofs.pass.close_levels.Goals as goal

pub loop-top-init : goal.loop-top-init
loop-top-init c =
    closing_start _ _ _ _ c.requires (search rules)

pub loop-top-preserved-then-s-ne0 : goal.loop-top-preserved-then-s-ne0
loop-top-preserved-then-s-ne0 c =
    close_some _ _ _ _ c.loop-top.invariant c.loop-top-test.true _ c.sprout_node-s.ensures c.if-s-ne0.true _ c.pack.ensures

pub loop-top-preserved : goal.loop-top-preserved
loop-top-preserved c =
    close_none _ _ _ _ c.loop-top.invariant c.loop-top-test.true _ c.sprout_node-s.ensures c.if-s-ne0.false

pub returns : goal.returns
returns c =
    closing_done _ _ _ _ c.loop-top.invariant c.loop-top-test.false
