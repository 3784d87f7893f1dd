-- The letters that stand for one.
use Rattle.std.proofs.Common.{◌∷◌, []}
use Rattle.std.proofs.lemmas.Bool.Decides.{Decides-eqb}
use Rattle.std.proofs.lemmas.Slice.Eq.{strip_prefix_is}
use Rattle.notation.proofs.OneLines.{written_newline, written_other}
use Rattle.notation.proofs.texts.behind.Goals as goal

pub returns-then-letter-eq-NEWLINE : goal.returns-then-letter-eq-NEWLINE
returns-then-letter-eq-NEWLINE c =
    rw (written_newline _ c.if-letter-eq-NEWLINE.true) (strip_prefix_is Decides-eqb _ (92 ∷ 110 ∷ []) c.strip_prefix.result c.strip_prefix.ensures.cases)

pub returns-else-letter-eq-NEWLINE : goal.returns-else-letter-eq-NEWLINE
returns-else-letter-eq-NEWLINE c =
    let found = c.strip_prefix-else-letter-eq-NEWLINE in
    rw (written_other _ c.if-letter-eq-NEWLINE.false) (strip_prefix_is Decides-eqb _ (c.args.letter ∷ []) found.result found.ensures.cases)
