-- `extended` meets its contract. Where each map of the row has all of its states or none, at once; else the loop has joined the maps of the
-- relations that it has passed.
use native.Mathlib.Omega.{arith}
use mathlib.Core.Path.{◌≡◌, ◌∙◌, ap, ap₂}
use Prim.Native.Nat.{ℕ, suc}
use lib.Bits.{bit_or}
use lib.Count.{count_trailing_zeros}
use Rattle.rule.specs.Inner.Lanes.{map_of, each_lane, lanes_with, in_lane, in_lanes}
use Rattle.rule.specs.Limits.{max_sets}
use Rattle.rule.specs.Inner.Lookup.{images_by}
use Rattle.plain.specs.Inner.Letters.{onward, extended}
use Rattle.plain.proofs.LetterLaws.{extended_first, extended_more, extended_full}
use Rattle.plain.proofs.tail.extended.Goals as goal
use Rattle.plain.proofs.tail.extended.Goals.{After-lanes_with-full, After-look_up-images}

-- the images of the row's states
own-images : (c : After-look_up-images) → c.look_up-images.result ≡ images_by c.args.lookup.now (map_of c.args.row 0)
own-images c = c.look_up-images.ensures ∙ ap (images_by _) c.map_of-states.ensures

-- the lanes that have the lowest of the states
full : (c : After-lanes_with-full) → c.lanes_with-full.result ≡ lanes_with c.args.row (count_trailing_zeros 16 c.map_of-states.result) (each_lane (suc max_sets))
full c = c.lanes_with-full.ensures ∙ ap (lanes_with _ _) c.lanes_to.ensures

pub returns-then-row-in_lanes : goal.returns-then-row-in_lanes
returns-then-row-in_lanes c =
    let own = own-images (goal.at.returns-then-row-in_lanes c).After-look_up-images in
    ap₂ bit_or own (c.in_lanes-then-row-in_lanes.ensures ∙ ap₂ in_lanes (c.map_of.ensures ∙ ap (λ (x : ℕ). map_of x 0) own) (full (goal.at.returns-then-row-in_lanes c).After-lanes_with-full))
    ∙ extended_full _ _ (count_trailing_zeros 16 c.map_of-states.result)
    (c.if-row-in_lanes.true ∙ c.in_lanes.ensures ∙ ap₂ in_lanes c.map_of-states.ensures (full (goal.at.returns-then-row-in_lanes c).After-lanes_with-full))

pub loop-relation-init : goal.loop-relation-init
loop-relation-init c =
    own-images (goal.at.loop-relation-init c).After-look_up-images ∙ extended_first _ _

pub loop-relation-preserved : goal.loop-relation-preserved
loop-relation-preserved c =
    let further = c.onward-further.ensures ∙ ap (onward _) c.map_of-in-loop-relation.ensures in
    let more = c.in_lane-all.ensures ∙ ap (λ (x : ℕ). in_lane x c.loop-relation.relation) further in
    extended_more _ _ c.loop-relation.relation _ _ c.loop-relation.invariant more

pub returns : goal.returns
unfolding extended
returns c =
    let e : c.loop-relation.relation ≡ suc max_sets = omega arith in
    rw e at c.loop-relation.invariant
