-- `early_repeat` meets its contract, by the laws of RepeatSearch.
use mathlib.Core.Path.{refl}
use mathlib.Core.List.{[]}
use Rattle.tree.specs.Inner.Sides.{tree_in}
use Rattle.tree.proofs.TreeNodes.{tree_small}
use Rattle.letters.specs.Inner.Reading.{Readable, ReadsTo}
use Rattle.letters.specs.Inner.Names.{all_kept, Followable, FollowsTo}
use Rattle.letters.proofs.LettersRead.{reads_taken}
use Rattle.treejudge.specs.Inner.Cycles.{FirstRound}
use Rattle.treejudge.specs.Inner.Repeats.{RepeatFound}
use Rattle.treejudge.proofs.SameTrees.{compared}
use Rattle.treejudge.proofs.RepeatSearch.{head_reads, cut_holds, rest_follows, head_follows, repeat_early}
use Rattle.treejudge.proofs.repeat.early_repeat.Goals as goal
use Rattle.treejudge.proofs.repeat.early_repeat.Goals.{After-read_letters, After-follow_letters-second}

-- the letters up to the cut lead from t(0) to the tree there
to-cut : (c : After-read_letters) → let args = c.args in
    ReadsTo args.lookups.now args.k args.head.now args.first (tree_in c.read_letters.new.buffer)
to-cut c = reads_taken _ _ _ c.laid-buffer.ensures.tree refl c.read_letters.ensures

-- the others lead from there to t(1), and its nodes are followed
to-second : (c : After-follow_letters-second) → let args = c.args in
    FollowsTo args.lookups.now args.k args.rest.now (tree_in c.read_letters.new.buffer) (all_kept c.read_letters.new.buffer.count)
    (tree_in c.follow_letters-second.new.buffer) c.follow_letters-second.result
to-second c = rw c.begin-begun.ensures at c.follow_letters-second.ensures

pub read_letters-requires : goal.read_letters-requires
unfolding FirstRound Readable
read_letters-requires c =
    let (R, u, A) = c.requires in
    (R, _, head_reads R u _ _ _ _ _ A _ c.laid-buffer.ensures.tree)

pub taken-cut-requires : goal.taken-cut-requires
unfolding FirstRound
taken-cut-requires c =
    let (R, u, A) = c.requires in
    record { rule = R; tree = _; holds = cut_holds R u _ _ _ _ _ A _ (to-cut (goal.at.taken-cut-requires c).After-read_letters) }

pub begin-begun-requires : goal.begin-begun-requires
unfolding FirstRound
begin-begun-requires c =
    let (R, u, A) = c.requires in
    tree_small A.holds.limits.states (cut_holds R u _ _ _ _ _ A _ (to-cut (goal.at.begin-begun-requires c).After-read_letters))

pub follow_letters-second-requires : goal.follow_letters-second-requires
unfolding FirstRound Followable
follow_letters-second-requires c =
    let (R, u, A) = c.requires in
    rw c.begin-begun.ensures
    (R, _, [], rest_follows R u _ _ _ _ _ A _ (to-cut (goal.at.follow_letters-second-requires c).After-read_letters))

pub follow_letters-again-requires : goal.follow_letters-again-requires
unfolding FirstRound Followable
follow_letters-again-requires c =
    let (R, u, A) = c.requires in (
      R,
      _,
      _,
      head_follows R u _ _ _ _ _ A _ (to-cut (goal.at.follow_letters-again-requires c).After-read_letters) _ _
          (to-second (goal.at.follow_letters-again-requires c).After-follow_letters-second),
    )

pub returns : goal.returns
unfolding RepeatFound
returns c = (
  refl,
  λ R u A. rw c.taken-cut.ensures (repeat_early R u _ _ _ _ _ A _ (to-cut (goal.at.returns c).After-read_letters) _ _
      (to-second (goal.at.returns c).After-follow_letters-second) _ _ c.follow_letters-again.ensures
      (rw c.taken-cut.ensures at (compared c.taken-cut.result (tree_in c.follow_letters-again.new.buffer) c.nodes-3.ensures c.nodes-4.ensures
      c.same_nodes-2.ensures c.if-not-same_nodes.false)) c.same_nodes.result
      (compared c.args.first (tree_in c.follow_letters-second.new.buffer) c.nodes.ensures c.nodes-2.ensures c.same_nodes.ensures refl)
      _ c.from-entry.ensures),
)
