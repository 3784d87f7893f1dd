-- One byte more.
use Rattle.std.proofs.Common.{◌+◌, length, arith, ◌∙◌, ap, ◌++◌, ◌∷◌, [], set, length-set, ◌<◌}
use Rattle.std.proofs.lemmas.List.{take_more_set}
use Rattle.std.proofs.Math.Seq.{length-take-le}
use Rattle.notation.specs.Bytes.{Held}
use Rattle.notation.specs.Hexadecimal.{longest}
use Rattle.notation.proofs.bytes.Bytes.push.Goals as goal

pub returns-then-self-eq-LONGEST : goal.returns-then-self-eq-LONGEST
unfolding longest
returns-then-self-eq-LONGEST c =
    omega (arith, ap (λ (h : Held). length h.bytes) c.self.view_is, length-take-le c.self.inside.end c.self.inside.room (omega arith))

pub returns : goal.returns
unfolding longest
returns c =
    let old = c.self.inside in
    let inside : old.end < length old.room = omega arith in (
      omega (arith, length-take-le (old.end + 1) (set old.room old.end c.args.byte) (omega (arith, length-set old.room old.end c.args.byte))),
      take_more_set old.room old.end c.args.byte inside ∙ ap (λ (h : Held). h.bytes ++ c.args.byte ∷ []) c.self.view_is,
    )
