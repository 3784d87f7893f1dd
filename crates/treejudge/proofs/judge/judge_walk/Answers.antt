-- `judge_walk` meets its contract, by the laws of Judging.
use mathlib.Core.List.{[]}
use Rattle.rule.specs.Rule.{Rule}
use Rattle.word.specs.Inner.Prepared.{Prepared}
use Rattle.history.specs.Tree.{start_tree}
use Rattle.tree.specs.Inner.Sides.{tree_in}
use Rattle.letters.specs.Inner.Reading.{Reads, Readable, ReadsTo}
use Rattle.letters.proofs.LettersRead.{reads_taken}
use Rattle.treejudge.specs.Inner.Cycles.{AtRound, FirstRound}
use Rattle.treejudge.specs.Inner.Repeats.{RepeatFound}
use Rattle.treejudge.proofs.Judging.{lead_reads, first_round, says_no, some_node, says_yes}
use Rattle.treejudge.proofs.judge.judge_walk.Goals as goal
use Rattle.treejudge.proofs.judge.judge_walk.Goals.{After-letters_left, After-taken-first}

-- u is read from the starting tree, over a rule that the look-ups are of
lead-read : (c : After-letters_left) →
    let args = c.args in
    (R : Rule) → Prepared R args.header args.lookups.now args.u.now args.v.now
    → Reads R (start_tree R) args.lookups.now args.header.sets c.letters_left.result.now (tree_in c.laid-buffer.result)
lead-read c R p = lead_reads p _ c.start.ensures _ c.letters_left.ensures _ c.laid-buffer.ensures.tree

-- t(0) of the walk
first_place : (c : After-taken-first) →
    let args = c.args in
    (R : Rule) → Prepared R args.header args.lookups.now args.u.now args.v.now
    → AtRound R args.u.now args.v.now args.lookups.now args.header.sets 0 c.taken-first.result
first_place c R p =
    first_round p _ c.start.ensures _ c.letters_left.ensures _
    (reads_taken _ _ _ c.laid-buffer.ensures.tree c.taken-first.ensures c.read_letters.ensures)

pub read_letters-requires : goal.read_letters-requires
unfolding Readable
read_letters-requires c =
    let (R, p) = c.requires.0 in (R, start_tree R, lead-read (goal.at.read_letters-requires c).After-letters_left R p)

pub taken-first-requires : goal.taken-first-requires
unfolding ReadsTo
taken-first-requires c =
    let (R, p) = c.requires.0 in
    record {
      rule = R;
      tree = _;
      holds = c.read_letters.ensures R (start_tree R) (lead-read (goal.at.taken-first-requires c).After-letters_left R p);
    }

pub find_repeat-found-requires : goal.find_repeat-found-requires
unfolding FirstRound
find_repeat-found-requires c =
    let (R, p) = c.requires.0 in (R, _, first_place (goal.at.find_repeat-found-requires c).After-taken-first R p)

pub returns-then-found-eq0 : goal.returns-then-found-eq0
unfolding RepeatFound
returns-then-found-eq0 c R p =
    says_no R _ _ _ (c.find_repeat-found.ensures R _ (first_place (goal.at.returns-then-found-eq0 c).After-taken-first R p)) _ c.if-found-eq0.true

pub node_name-name-requires : goal.node_name-name-requires
unfolding RepeatFound
node_name-name-requires c =
    let (R, p) = c.requires.0 in
    some_node R _ _ _ (c.find_repeat-found.ensures R _ (first_place (goal.at.node_name-name-requires c).After-taken-first R p)) [] p.limits.states
    c.if-found-eq0.false _ c.first_node.ensures

pub returns : goal.returns
unfolding RepeatFound
returns c R p =
    says_yes R _ _ _ (c.find_repeat-found.ensures R _ (first_place (goal.at.returns c).After-taken-first R p)) _ p.limits.states
    c.if-found-eq0.false _ c.first_node.ensures _ c.node_name-name.ensures _ c.store_name.ensures
