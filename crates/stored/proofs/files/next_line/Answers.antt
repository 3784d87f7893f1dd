-- The first line of a text.
use Rattle.std.proofs.Common.{◌≡◌, ◌∙◌, sym, refl, ap, length, arith, Bor, List, ℕ}
use Rattle.std.proofs.Math.Bool.{false≢true}
use Rattle.std.proofs.lemmas.Bool.{eqb-true, eq-eqb}
use Rattle.std.proofs.lemmas.List.{length-take}
use Rattle.notation.specs.Parts.{newline, part_at}
use Rattle.stored.proofs.Tallying.{lines_none, line_short, first_line, rest_or}
use Rattle.stored.proofs.files.next_line.Goals as goal

pub returns-then-is_empty : goal.returns-then-is_empty
returns-then-is_empty c =
    lines_none _ (eqb-true _ 0 (sym c.is_empty.ensures ∙ c.if-is_empty.true))

pub slice_bounds-result-end : goal.slice_bounds-result-end
slice_bounds-result-end c =
    let text = c.args.text.now in
    omega (arith, c.end_of-end.ensures, line_short text, length-take c.end_of-end.result text)

pub overflow_add-end : goal.overflow_add-end
overflow_add-end c =
    omega (arith, c.end_of-end.ensures, line_short c.args.text.now)

pub returns : goal.returns
returns c =
    let text = c.args.text.now in
    let some : length text ≡ 0 → ⊥ = λ e. false≢true (sym c.if-is_empty.false ∙ c.is_empty.ensures ∙ eq-eqb _ 0 e) in
    let end : c.end_of-end.result ≡ length (part_at newline text 0) = omega (arith, c.end_of-end.ensures) in
    first_line text c.unwrap_or.result.now _ (omega arith) end
    (ap (λ (b : Bor (List ℕ)). b.now) c.unwrap_or.ensures ∙ rest_or c.get.result _ text _ refl c.get.ensures.lookup.0)
