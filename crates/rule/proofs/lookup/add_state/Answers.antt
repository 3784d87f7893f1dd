-- `add_state` meets its contract. The loop stores the entries of the sets with the highest state q, in order.
use mathlib.Core.Path.{◌≡◌, ◌∙◌}
use Prim.Native.Nat.{◌*◌, ◌%◌, ◌^◌, ◌≤◌}
use native.Mathlib.Nat.{one-mul}
use native.Mathlib.Omega.{arith}
use lib.Pow.{pow_mono, shl_exact}
use Rattle.rule.proofs.LookupSteps.{added_none, added_more}
use Rattle.rule.proofs.lookup.add_state.Goals as goal

pub loop-j-init : goal.loop-j-init
loop-j-init c =
    let q = c.args.q in
    let made : 1 * 2 ^ q % 2 ^ 64 ≡ 2 ^ q = shl_exact {a = 1} 1 q 64 (omega arith) (omega arith) ∙ one-mul (2 ^ q) in
    let small : 2 ^ q ≤ 8 = pow_mono {i = q} {j = 3} (omega arith) in
    (made, omega arith, added_none _ q _ c.requires.1)

pub loop-j-preserved : goal.loop-j-preserved
loop-j-preserved c =
    let inv = c.loop-j.invariant in
    (inv.0, inv.1, added_more _ _ _ _ _ _ inv.2 inv.0 (omega arith) (omega arith))

pub returns : goal.returns
returns c =
    let inv = c.loop-j.invariant in
    let all : c.loop-j.j ≡ 2 ^ c.args.q = omega arith in
    rw all at inv.2
