-- Tags that follow one another, by the laws of ChecksInTurn.
use Rattle.tree.proofs.ChecksInTurn.{TagsAhead}
use Rattle.tree.proofs.checks.tags_follow.Given as goal

abbrev pub invariant-loop-tag : goal.invariant-loop-tag
invariant-loop-tag l = TagsAhead l.k l.tags l.before l.tag-index
