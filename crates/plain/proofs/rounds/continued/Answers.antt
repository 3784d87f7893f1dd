-- `continued` meets its contract: no product is too large.
use native.Mathlib.Omega.{arith}
use mathlib.Core.Path.{◌≡◌, ◌∙◌, ap}
use Prim.Native.Nat.{ℕ, suc, ◌*◌}
use Rattle.rule.specs.Inner.Lanes.{map_of, each_lane, lanes_with}
use Rattle.rule.specs.Limits.{max_sets}
use Rattle.rule.proofs.LaneLaws.{kept_le, chosen_kept, stands, lanes_with_lem}
use Rattle.plain.specs.Inner.Rounds.{continued}
use Rattle.plain.proofs.rounds.continued.Goals as goal
use Rattle.plain.proofs.rounds.continued.Goals.{After-lanes_with-way}

-- the relations with a way to the state
way : (c : After-lanes_with-way) → let args = c.args in
    c.lanes_with-way.result ≡ lanes_with args.row args.middle (each_lane (suc max_sets))
way c = c.lanes_with-way.ensures ∙ ap (lanes_with _ _) c.lanes_to.ensures

pub overflow_mul-result : goal.overflow_mul-result
overflow_mul-result c =
    let args = c.args in
    let to = stands args.row args.middle in
    let are = way (goal.at.overflow_mul-result c).After-lanes_with-way ∙ lanes_with_lem args.row args.middle (suc max_sets) in
    let bit = c.from.ensures ∙ c.map_of.ensures ∙ ap (λ (x : ℕ). map_of x 0) are in
    omega (arith, ap (args.behind *◌) bit ∙ chosen_kept args.behind (suc max_sets) to 0 (omega arith), kept_le args.behind (to 0))

pub returns : goal.returns
unfolding continued
returns c =
    rw (c.in_lanes.ensures, c.map_of-2.ensures, c.from.ensures, c.map_of.ensures, way (goal.at.returns c).After-lanes_with-way)
