-- Two lengths that differ, or node by node, by the laws of SameTrees.
use borrow.Author.Rules.{rules}
use borrow.Author.Tests.{tests, ne_eqb}
use mathlib.Core.Path.{sym, ◌∙◌}
use Rattle.std.proofs.lemmas.Iterator.{YieldsList-from_slice, YieldsList-from_zip}
use Rattle.std.proofs.lemmas.Iterator.Search.{all_from_yields_List}
use Rattle.tree.specs.Inner.PackedNodes.{unpacked}
use Rattle.treejudge.specs.Inner.SameNodes.{same_node}
use Rattle.treejudge.proofs.SameTrees.{lengths_differ, same_zipped}
use Rattle.treejudge.proofs.same.same_nodes.Goals as goal

pub returns-then-nodes-others : goal.returns-then-nodes-others
returns-then-nodes-others c =
    all_from_yields_List (λ p. same_node (unpacked p.0) (unpacked p.1)) c.all.new.self _ c.all.result c.all.ensures.ran
    (YieldsList-from_zip {s = c.zip.result} (YieldsList-from_slice {s = c.zip.result.a} c.args.nodes.now cc)
    (YieldsList-from_slice {s = c.zip.result.b} c.args.others.now cc))
    (λ x b q k. search (rules, tests))
    ∙ same_zipped c.args.nodes.now c.args.others.now c.if-nodes-others.true

pub returns-else-nodes-others : goal.returns-else-nodes-others
returns-else-nodes-others c =
    ne_eqb _ _ c.if-nodes-others.false ∙ sym (lengths_differ c.args.nodes.now c.args.others.now c.if-nodes-others.false)
