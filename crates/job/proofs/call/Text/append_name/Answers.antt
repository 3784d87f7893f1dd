-- A node's name, by the laws of NameTexts.
use borrow.Author.Rules.{rules}
use Prim.Native.Nat.{◌-◌}
use native.Mathlib.Omega.{arith}
use mir.Syntax.{w8}
use mir.Val.{Fits}
use lib.ListN.{length, drop, get_or, length-drop}
use lib.Seq.{take_all}
use Rattle.job.proofs.Appending.{appends_most}
use Rattle.job.proofs.NameTexts.{name_root, dotted_start, dotted_turn, dotted_done}
use Rattle.job.proofs.call.Text.append_name.Goals as goal

pub returns-in_default : goal.returns-in_default
returns-in_default c =
    rw (name_root _ c.in_default.len_below) (appends_most c.append.ensures 28 (omega arith))

pub loop-number-init : goal.loop-number-init
loop-number-init c =
    let byte : Fits w8 (get_or c.args.name.now 0 0) = search rules in
    dotted_start _ _ _ _ byte.fits (rw c.from.ensures at c.append_number.ensures)

pub loop-number-preserved : goal.loop-number-preserved
loop-number-preserved c =
    let byte : Fits w8 c.from-in-loop-number.result = search rules in
    let next = rw c.from-in-loop-number.ensures at c.append_dotted.ensures in
    dotted_turn _ _ _ _ _ _ c.loop-number.invariant c.loop-number-test.true (rw c.from-in-loop-number.ensures at byte.fits) (omega (arith, c.loop-number-test.true)) next

pub returns : goal.returns
returns c =
    let name = c.args.name.now in
    dotted_done _ _ _ _ _ c.loop-number.invariant c.loop-number.auto.number-index-end c.loop-number-test.false
    (take_all (length name - 1) (drop 1 name) (omega (arith, length-drop 1 name))) c.in-len1-up.len_at_least c.requires.0
