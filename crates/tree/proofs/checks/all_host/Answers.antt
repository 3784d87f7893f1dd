-- Each number is one of a host: the numbers are looked for from the lowest on.
use borrow.Author.Rules.{rules}
use mathlib.Core.Path.{refl, ◌∙◌}
use native.Mathlib.Omega.{arith}
use Rattle.std.proofs.lemmas.Iterator.{YieldsList-from_range}
use Rattle.std.proofs.lemmas.Iterator.Search.{all_from_yields_List}
use Rattle.history.specs.Inner.RecordChecks.{is_host}
use Rattle.tree.proofs.ChecksInTurn.{hosts_listed}
use Rattle.tree.proofs.checks.all_host.Goals as goal

pub returns : goal.returns
returns c =
    all_from_yields_List (λ i. is_host i c.args.hosts.now) _ _ c.all.result c.all.ensures.ran (YieldsList-from_range 0 c.args.count c.args.count refl (omega arith)) (λ x b q k. search rules)
    ∙ hosts_listed c.args.hosts.now c.args.count
