-- The root's tag, then those behind it.
use mathlib.Core.Path.{sym, ◌∙◌}
use borrow.Author.Tests.{eq-eqb, ne_eqb}
use Rattle.base.proofs.Flattening.{to_end}
use Rattle.base.proofs.Logic.{clash}
use Rattle.tree.proofs.ChecksInTurn.{fit_parts}
use Rattle.tree.proofs.checks.tags_fit.Goals as goal
use Rattle.tree.proofs.checks.tags_fit.Goals.{then-root-eq0, else-root-eq0}

pub returns-then-active_fits : goal.returns-then-active_fits
returns-then-active_fits c = elim c.if-root-eq0.branch [
  | then-root-eq0 w ↦ rw (
    fit_parts _ _ c.in-len1-up.len_at_least,
    eq-eqb _ _ w.if-root-eq0.true,
    sym w.active_fits.ensures ∙ sym w.value-is ∙ c.if-active_fits.true,
  )
      (rw to_end at c.tags_follow.ensures)
  | else-root-eq0 w ↦ clash (w.value-is ∙ ne_eqb _ _ w.if-root-eq0.false) c.if-active_fits.true
]
