-- The host of a state is the first node that hosts it.
use borrow.Author.Rules.{rules}
use mathlib.Core.Path.{◌∙◌}
use Rattle.std.proofs.lemmas.Iterator.{YieldsList-from_slice}
use Rattle.std.proofs.lemmas.Iterator.Search.{position_from_yields_List}
use Rattle.tree.proofs.WritingInTurn.{hosts, host_found}
use Rattle.tree.proofs.writing.host_node.Goals as goal

pub returns : goal.returns
returns c =
    let words = c.args.nodes.now in
    c.unwrap_or.ensures ∙ host_found c.args.state words
    (position_from_yields_List (hosts c.args.state) _ _ c.position-place.result c.position-place.ensures.ran (YieldsList-from_slice words cc) (λ x b q k. search rules))
