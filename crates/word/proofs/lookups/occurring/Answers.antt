-- `occurring` meets its contract. The loop has the map of the letters that it has passed.
use Prim.Native.Nat.{◌%◌}
use native.Mathlib.Omega.{arith}
use lib.ListN.{get_or}
use Rattle.base.proofs.BitSet.{one_shifted}
use Rattle.rule.specs.Limits.{max_letters}
use Rattle.word.proofs.WalkLookups.{letters_none, letters_next, letters_all}
use Rattle.word.proofs.lookups.occurring.Goals as goal

pub loop-letter-init : goal.loop-letter-init
loop-letter-init c =
    letters_none _ c.args.w.now

pub loop-letter-preserved : goal.loop-letter-preserved
loop-letter-preserved c =
    rw (c.from.ensures, one_shifted 16 (get_or c.args.w.now c.loop-letter.letter-index 0 % max_letters) (omega arith))
    (letters_next _ _ _ _ c.loop-letter.invariant c.loop-letter-test.true)

pub returns-then-letters-all : goal.returns-then-letters-all
returns-then-letters-all c =
    letters_all _ _ _ _ c.loop-letter.invariant _ c.requires c.if-letters-all.true
