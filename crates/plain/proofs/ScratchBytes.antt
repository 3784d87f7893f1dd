-- The scratch bytes cleared.
use mathlib.Core.Path.{◌≡◌, refl}
use mathlib.Core.List.{List, ◌++◌}
use Prim.Native.Nat.{ℕ, ◌+◌}
use native.Mathlib.Omega.{arith}
use lib.ListN.{length, drop, replicate, length-replicate}
use Rattle.base.specs.LentBuffer.{stored}
use Rattle.plain.specs.PlainCall.{scratch_length}

pub scratch_length_lem : scratch_length ≡ 256
unfolding scratch_length
scratch_length_lem = refl

pub cleared : (n : ℕ) (before : List ℕ) → replicate n 0 ++ drop n before ≡ stored 0 (replicate n 0) before
unfolding stored
cleared n before = let e : 0 + length (replicate {A = ℕ} n 0) ≡ n = omega (arith, length-replicate {A = ℕ} n 0) in rw e
