-- A byte as many times as a text says.
use Rattle.std.proofs.Common.{◌∙◌, sym, ap, Option, Some, List, ℕ}
use Rattle.notation.specs.Hexadecimal.{longest}
use Rattle.notation.proofs.ByteTexts.{run_none, run_some}
use Rattle.notation.proofs.hexadecimal.run.Goals as goal

pub returns-in_err-count : goal.returns-in_err-count
unfolding longest
returns-in_err-count c =
    rw c.from_residual.ensures (sym (run_none c.args.byte _ (sym c.number_of.ensures ∙ c.in_err-count.was)))

pub fill-requires : goal.fill-requires
unfolding longest
fill-requires c =
    (run_some c.args.byte _ _ (sym c.number_of.ensures ∙ c.in_ok-count.was)).0

pub returns : goal.returns
unfolding longest
returns c =
    ap {B = Option (List ℕ)} Some c.fill.ensures ∙ sym (run_some c.args.byte _ _ (sym c.number_of.ensures ∙ c.in_ok-count.was)).1
