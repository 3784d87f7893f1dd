-- `last_alone` meets its contract. The loop has the root behind the letters that it has passed, and the last place where it was alone.
use Rattle.letters.specs.Inner.RootPass.{root_as}
use Rattle.letters.proofs.RootPass.{PassedUpTo}
use Rattle.letters.proofs.root.last_alone.Given as goal

abbrev pub invariant-loop-before : goal.invariant-loop-before
invariant-loop-before l = PassedUpTo l.lookups l.k l.w (root_as l.fn.first) l.before (root_as l.root) l.last
