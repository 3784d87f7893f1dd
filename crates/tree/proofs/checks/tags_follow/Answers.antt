-- Tags that follow one another, by the laws of ChecksInTurn.
use mathlib.Core.Path.{sym, ◌∙◌}
use native.Mathlib.Omega.{arith}
use Rattle.tree.proofs.ChecksInTurn.{tags_no_depth, tags_too_deep, tags_no_set, tags_next, tags_done}
use Rattle.tree.proofs.checks.tags_follow.Goals as goal
use Rattle.tree.proofs.checks.tags_follow.Goals.{then-depth-lt1-via-then-depth-lt1, then-depth-lt1-via-else-depth-lt1+then-before-depth, then-depth-lt1-via-else-depth-lt1+else-before-depth+then-not-active_fits}

pub returns-then-depth-lt1 : goal.returns-then-depth-lt1
returns-then-depth-lt1 c =
    let v = c.loop-tag.invariant in
    let h = c.loop-tag-test.true in
    elim c.then-depth-lt1.branch [
      | then-depth-lt1-via-then-depth-lt1 w ↦ tags_no_depth v h w.if-depth-lt1.true
      | then-depth-lt1-via-else-depth-lt1+then-before-depth w ↦ tags_too_deep v h w.if-depth-lt1.false w.if-before-depth.true
      | then-depth-lt1-via-else-depth-lt1+else-before-depth+then-not-active_fits w ↦ tags_no_set v h w.if-depth-lt1.false w.if-before-depth.false (sym w.active_fits.ensures ∙ w.if-not-active_fits.true)
    ]

pub loop-tag-preserved : goal.loop-tag-preserved
loop-tag-preserved c =
    tags_next c.loop-tag.invariant c.loop-tag-test.true c.if-depth-lt1.false c.if-before-depth.false (omega (arith, c.type_inv.tags c.loop-tag.tag-index))
    (sym c.active_fits.ensures ∙ c.if-not-active_fits.false)

pub returns : goal.returns
returns c = tags_done c.loop-tag.invariant c.loop-tag-test.false
