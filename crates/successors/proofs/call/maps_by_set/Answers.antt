-- `maps_by_set` meets its contract: each place holds the lane of its set.
use borrow.Author.Rules.{rules}
use mathlib.Core.Path.{◌≡◌, sym, ◌∙◌, ap}
use native.Mathlib.Omega.{arith}
use Prim.Native.Nat.{suc, ◌+◌, ◌<◌}
use lib.ListN.{get_or}
use lib.Seq.{ext_get_or}
use Rattle.base.proofs.Tabulate.{length_tabulate, get_d_tabulate}
use Rattle.rule.specs.Limits.{max_sets}
use Rattle.rule.specs.Inner.Lanes.{map_of}
use Rattle.successors.proofs.call.maps_by_set.Goals as goal

pub returns : goal.returns
returns c =
    let made = c.from_fn.ensures.items in
    ext_get_or 0 _ _ (made.long ∙ sym (length_tabulate max_sets _)) (λ i h.
    let small : i < max_sets = omega (arith, made.long) in
    let (_, _, _) = made.at i 0 small in
    let here : get_or c.from_fn.result i 0 ≡ map_of c.args.images (i + 1) = search rules in
    let lane : i + 1 ≡ suc i = omega arith in
    here ∙ ap (map_of c.args.images) lane ∙ sym (get_d_tabulate max_sets _ i 0 small))
