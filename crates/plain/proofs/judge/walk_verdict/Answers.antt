-- `walk_verdict` meets its contract, by the laws of Judging.
use Rattle.word.specs.Walk.{letters_left}
use Rattle.plain.proofs.Judging.{lead_small, tail_small, verdict_right}
use Rattle.plain.proofs.judge.walk_verdict.Goals as goal

pub states_after-from-requires : goal.states_after-from-requires
unfolding letters_left
states_after-from-requires c =
    rw c.letters_left-lead.ensures (lead_small c.requires.1)

pub of_tail-ways-requires : goal.of_tail-ways-requires
unfolding letters_left
of_tail-ways-requires c =
    (c.args.header.few_states, rw c.letters_left-tail.ensures (tail_small c.requires.1))

pub returns : goal.returns
unfolding letters_left
returns c =
    let (size, tail) = rw c.letters_left-tail.ensures at c.of_tail-ways.ensures in
    let (same, closed) = rw size at c.close.ensures in
    λ R walks. verdict_right walks _ _ _ _ (rw c.letters_left-lead.ensures at c.states_after-from.ensures)
    tail closed (rw same at c.has_lasso.ensures)
