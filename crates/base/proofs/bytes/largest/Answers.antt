-- The largest byte: at each place that of the bytes so far, with that of the bytes from there on, gives it.
use native.Mathlib.Omega.{arith}
use native.Mathlib.Numerals.{add-one}
use lib.ListN.{drop_of_length-le}
use Rattle.base.specs.Inner.Largest.{largest}
use Rattle.base.proofs.Largest.{largest_from}
use Rattle.base.proofs.bytes.largest.Goals as goal

pub loop-byte-preserved : goal.loop-byte-preserved
loop-byte-preserved c =
    let here = largest_from c.args.bytes.now c.loop-byte.byte-index c.loop-byte-test.true in
    rw add-one (omega (arith, c.loop-byte.invariant, c.max-most.ensures, here))

pub returns : goal.returns
unfolding largest
returns c =
    let inv = rw (drop_of_length-le _ c.loop-byte-test.false) at c.loop-byte.invariant in omega (arith, inv)
