-- One node written, or none: it stands in front on its side, and the other side is as it was.
use borrow.Author.Rules.{rules}
use mathlib.Core.Path.{◌≡◌, refl, ap}
use native.Mathlib.Omega.{arith}
use Prim.Native.Nat.{◌-◌}
use lib.Seq.{get_or-set_other}
use Rattle.tree.specs.Inner.Places.{no_side}
use Rattle.tree.specs.declared.sides.Side.{Side}
use Rattle.tree.proofs.TreeNodes.{root_laid}
use Rattle.tree.proofs.sides.DoubleBuffer.lay_root.Goals as goal

pub returns-clause-laid : goal.returns-clause-laid
returns-clause-laid c =
    (refl, root_laid c.args.self.now c.pack.result c.args.root c.pack.ensures c.args.count c.requires (search rules))

pub returns-clause-other : goal.returns-clause-other
returns-clause-other c =
    let side = c.args.self.now.side in
    ap (λ (x : Side). x.nodes) (get_or-set_other c.args.self.now.sides side (1 - side) _ no_side (λ (same : 1 - side ≡ side). omega (arith, same)))
