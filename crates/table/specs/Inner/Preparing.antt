-- Look-ups that are made ready where the questions are put: what the crates above learn of them.
use Rattle.std.specs.Prelude.{◌≡◌, [], ℕ, ◌<◌, get_or}
use Rattle.rule.specs.Rule.{Rule}
use Rattle.rule.specs.Inner.Padded.{padded}
use Rattle.rule.specs.Inner.Lookup.{Lookup, letter_lookup}
use Rattle.table.specs.Inner.ReadRule.{WithinLimits, NumbersOf}
use Rattle.table.specs.declared.header.Header.{Header}

-- a is a letter of the rule, and this is its look-up
pub record IsLookup (R : Rule) (a : ℕ) (lookup : Lookup) : Type 0 where
  pub below : a < R.letters
  pub entries : lookup ≡ letter_lookup (get_or (padded R.grid) a [])

-- the rule R is within the limits and has these numbers, and the letter a has this look-up
pub record PreparedLetter (R : Rule) (header : Header) (a : ℕ) (lookup : Lookup) : Type 0 where
  pub numbers : NumbersOf R header
  pub limits : WithinLimits R
  pub is_lookup : IsLookup R a lookup
