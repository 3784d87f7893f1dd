-- How many separators there are.
use Rattle.std.proofs.Common.{rules, ◌≡◌, ℕ, sym, eqb}
use Rattle.std.specs.List.{count_by}
use Rattle.std.proofs.lemmas.List.Splits.{length-slice_split}
use Rattle.notation.proofs.lines.separators.Goals as goal

pub returns : goal.returns
returns c =
    let counted : c.count.result ≡ count_by (λ letter. eqb letter c.args.separator) c.args.text.now = search rules in
    rw counted (sym (length-slice_split {X = ℕ} (λ letter. eqb letter c.args.separator) c.args.text.now))
