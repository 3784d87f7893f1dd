-- `clear` meets its contract.
use native.Mathlib.Omega.{arith}
use mathlib.Core.Path.{◌≡◌, ◌∙◌, ap}
use mathlib.Core.List.{List, ◌++◌}
use Prim.Native.Nat.{ℕ}
use lib.ListN.{length, take, drop, replicate, length-take}
use Rattle.plain.proofs.ScratchBytes.{scratch_length_lem, cleared}
use Rattle.plain.proofs.scratch.clear.Goals as goal

pub returns : goal.returns
returns c =
    let before = c.args.scratch.now in
    let wanted : length (take 256 before) ≡ 256 = omega (arith, c.requires, scratch_length_lem, length-take {A = ℕ}) in
    let zeros : c.fill.new.self ≡ replicate 256 0 = c.fill.ensures.after (λ y e. e) ∙ ap {B = List ℕ} (λ n. replicate n 0) wanted in
    rw scratch_length_lem (ap (λ (l : List ℕ). l ++ drop 256 before) zeros ∙ cleared 256 before)
