-- `joined_if` meets its contract: a one shifted to the place of an old number.
use mathlib.Core.Path.{◌∙◌, ap}
use native.Mathlib.Nat.{one-mul}
use borrow.Author.Rules.{rules}
use lib.Bits.{bit_or}
use lib.Pow.{shl_exact}
use Rattle.step.specs.Inner.Pass.{joined_if}
use Rattle.step.proofs.pass.joined_if.Goals as goal

pub returns-then-holds : goal.returns-then-holds
unfolding joined_if
returns-then-holds c =
    rw c.if-holds.true (ap (bit_or c.args.map) (shl_exact 1 c.args.old 16 (search rules) (search rules) ∙ one-mul _))

pub returns-else-holds : goal.returns-else-holds
unfolding joined_if
returns-else-holds c =
    rw c.if-holds.false
