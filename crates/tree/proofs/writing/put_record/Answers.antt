-- The record of a tree: the map, the hosts and the tags.
use borrow.Author.Rules.{rules}
use borrow.Author.Tests.{tests}
use mathlib.Core.Path.{◌≡◌, refl, ◌∙◌}
use lib.ListN.{get_or, length}
use Rattle.tree.specs.Inner.PackedNodes.{nodes_in}
use Rattle.tree.specs.Inner.Nodes.{blank_node}
use Rattle.tree.proofs.PackedWords.{node_read, nodes_many}
use Rattle.tree.proofs.WritingInTurn.{record_dead, tags_room_left, record_live}
use Rattle.tree.proofs.writing.put_record.Goals as goal
use Rattle.tree.proofs.writing.put_record.Goals.{After-unpack-root}

-- the root's node
module _ (c : After-unpack-root) where
  root : c.unpack-root.result ≡ get_or (nodes_in c.args.nodes.now) 0 blank_node
  root = node_read c.args.nodes.now 0 c.unpack-root.ensures

  some : length (nodes_in c.args.nodes.now) ≡ 0 → ⊥
  some e = search (rules, tests, c.is_empty.ensures, c.if-is_empty.false, nodes_many c.args.nodes.now refl)

pub returns-then-is_empty : goal.returns-then-is_empty
returns-then-is_empty c =
    record_dead _ _ _ c.requires.0 c.requires.1 (nodes_many c.args.nodes.now refl ∙ search (rules, tests))

pub put_tags-requires : goal.put_tags-requires
put_tags-requires c =
    let q = (goal.at.put_tags-requires c).After-unpack-root in
    let then = c.put_hosts-at.new.out in (
      c.requires.0,
      rw (← nodes_many c.args.nodes.now refl) (tags_room_left _ _ c.args.out.now c.requires.0 c.requires.1 _ (root q) _ then c.put_hosts-at.ensures.0 c.put_hosts-at.auto.out),
    )

pub returns : goal.returns
returns c =
    let q = (goal.at.returns c).After-unpack-root in
    record_live _ _ _ c.requires.0 c.requires.1 _ (root q) (some q) _ _ _ _
    c.put_hosts-at.ensures.0 c.put_hosts-at.ensures.1 c.put_tags.ensures.0 c.put_tags.ensures.1
