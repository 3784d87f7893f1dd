-- `minus` meets its contract: what the complement keeps and what the second set holds make up the first.
use native.Mathlib.Omega.{arith}
use borrow.Author.Rules.{rules}
use lib.Bits.{bit_and, and_comm, and_self, xor_add_and}
use mathlib.Core.Path.{◌≡◌, sym, ◌∙◌, ap}
use Prim.Native.Nat.{ℕ, ◌-◌}
use Rattle.std.proofs.lemmas.Nat.{and-not, and_assoc}
use Rattle.base.specs.BitSet.{minus}
use Rattle.step.proofs.pass.minus.Goals as goal

pub returns : goal.returns
unfolding minus
returns c =
    let a = c.args.a in
    let b = c.args.b in
    let both : bit_and a (bit_and a b) ≡ bit_and a b = sym (and_assoc b a a) ∙ ap (λ (s : ℕ). bit_and s b) (and_self a) in
    omega (arith, and-not 16 b a (search rules) (search rules), and_comm (65535 - b) a, and_comm b a, xor_add_and a (bit_and a b), both)
