-- The largest byte: at each place that of the bytes so far, with that of the bytes from there on, gives it.
use mathlib.Core.Path.{◌≡◌}
use Prim.Native.Nat.{max}
use lib.ListN.{drop}
use Rattle.base.specs.Inner.Largest.{largest}
use Rattle.base.proofs.bytes.largest.Given as goal

abbrev pub invariant-loop-byte : goal.invariant-loop-byte
invariant-loop-byte l = max l.most (largest (drop l.byte-index l.bytes)) ≡ largest l.bytes
