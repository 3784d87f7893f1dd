-- A part.
use Rattle.std.proofs.Common.{rules, ◌≡◌, ◌∙◌, refl, ap, List, [], ℕ, eqb, Option, Some, None, Bor}
use Rattle.std.specs.Option.{option_map, unwrap_or}
use Rattle.std.proofs.lemmas.Option.{unwrap_or-slice_get}
use Rattle.std.proofs.lemmas.Iterator.Consumers.{nth_from_yields_List}
use Rattle.std.proofs.lemmas.Iterator.Splits.{YieldsList-from_slice_split}
use Rattle.notation.specs.Parts.{parts}
use Rattle.notation.proofs.lines.part.Goals as goal

-- what a part has, or else another
now_or : (part : Option (Bor (List ℕ))) (other : Bor (List ℕ)) → (unwrap_or part other).now ≡ unwrap_or (option_map (λ x. x.now) part) other.now
now_or None other = refl
now_or (Some x) other = refl

pub returns : goal.returns
returns c =
    let args = c.args in
    let split = c.split.ensures in
    let found =
    nth_from_yields_List c.nth.result _ args.number c.nth.ensures.ran
    (YieldsList-from_slice_split _ (λ letter. eqb letter args.separator) args.text.now split.rest split.done split.closure
    (λ x b q k. search rules)) in
    rw c.unwrap_or.ensures (now_or c.nth.result _ ∙ ap (λ o. unwrap_or o []) found ∙ unwrap_or-slice_get (parts args.separator args.text.now) args.number [])
