-- `find_alone` meets its contract: a place in the part that is tried, or one behind it.
use Rattle.base.proofs.Flattening.{to_end}
use Rattle.letters.specs.Inner.RootPass.{root_as, AloneAt}
use Rattle.letters.proofs.RootPass.{front_passable, rest_passable, alone_front, alone_behind}
use Rattle.letters.proofs.root.find_alone.Goals as goal
use Rattle.letters.proofs.root.find_alone.Goals.{In_ok-tried}

pub last_alone-requires : goal.last_alone-requires
last_alone-requires c =
    front_passable c.args.lookups.now _ _ _ c.requires c.tried_part-part.result

-- the place in the part that is tried is one in the whole
tried : (c : In_ok-tried) → let args = c.args in
    AloneAt args.lookups.now args.k args.w.now (root_as args.first) c.in_ok-tried.tried.place (root_as c.in_ok-tried.tried.root)
tried c = alone_front _ _ c.args.w.now _ c.tried_part-part.result _ _ c.in_ok-tried.ensures.here

pub last_alone-requires-2 : goal.last_alone-requires-2
last_alone-requires-2 c =
    let place = c.in_ok-tried.tried.place in
    rw (to_end place c.args.w.now)
    (rest_passable c.args.lookups.now _ c.args.w.now _ c.requires place place _ (tried (goal.at.last_alone-requires-2 c).In_ok-tried).root)

pub returns : goal.returns
returns c =
    let place = c.in_ok-tried.tried.place in
    alone_behind _ _ c.args.w.now _ place _ _ _ (tried (goal.at.returns c).In_ok-tried)
    (rw (to_end place c.args.w.now) at c.in-Some.ensures.here)
