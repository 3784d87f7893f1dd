-- `find_repeat` meets its contract: the two parts of a cut tail are the tail.
use Prim.Native.Nat.{◌/◌}
use lib.ListN.{length}
use Rattle.word.specs.Walk.{letters_left}
use Rattle.treejudge.specs.Inner.Cycles.{FirstRound, SearchDone}
use Rattle.treejudge.specs.Inner.Repeats.{RepeatFound}
use Rattle.treejudge.proofs.RepeatSearch.{two_parts, searched, repeat_searched}
use Rattle.treejudge.proofs.repeat.find_repeat.Goals as goal

pub early_repeat-requires : goal.early_repeat-requires
early_repeat-requires c =
    let v = c.args.v.now in
    rw (two_parts (length v / 8) c.args.u.now v c.letters_left-rest.result.now c.letters_left-rest.ensures) c.requires

pub returns-in-Some : goal.returns-in-Some
returns-in-Some c =
    let v = c.args.v.now in
    rw (two_parts (length v / 8) c.args.u.now v c.letters_left-rest.result.now c.letters_left-rest.ensures) at c.in-Some.ensures.1

pub find_cycle-cycle-requires : goal.find_cycle-cycle-requires
unfolding letters_left
find_cycle-cycle-requires c =
    rw c.letters_left-tail.ensures c.requires

pub find_entry-requires : goal.find_entry-requires
unfolding FirstRound SearchDone letters_left
find_entry-requires c =
    let (R, u, A) = c.requires in
    let (e, p, S) = searched R u _ _ _ _ A _ (rw c.letters_left-tail.ensures at c.find_cycle-cycle.ensures) in
    (R, u, e, p, rw c.letters_left-tail.ensures S)

pub returns : goal.returns
unfolding RepeatFound letters_left
returns c R u A =
    let (e, p, S) = searched R u _ _ _ _ A _ (rw c.letters_left-tail.ensures at c.find_cycle-cycle.ensures) in
    repeat_searched R u _ _ _ e p _ _ S _ (rw c.letters_left-tail.ensures at c.find_entry.ensures)
