-- Look-ups that are ready for a walk: what a judge asks for that works on them.
use Rattle.std.specs.Prelude.{List, ℕ}
use Rattle.base.specs.Lists.{Every}
use Rattle.rule.specs.Rule.{Rule}
use Rattle.table.specs.Inner.ReadRule.{WithinLimits, NumbersOf}
use Rattle.table.specs.declared.header.Header.{Header}
use Rattle.word.specs.Inner.WalkLookups.{Lookups, HasLookup}

-- the rule R is within the limits and has these numbers, and each letter of the walk has its look-up
pub record Prepared (R : Rule) (header : Header) (lookups : Lookups) (u v : List ℕ) : Type 0 where
  pub numbers : NumbersOf R header
  pub limits : WithinLimits R
  pub lead : Every (HasLookup R lookups) u
  pub tail : Every (HasLookup R lookups) v
