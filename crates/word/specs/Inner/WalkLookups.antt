-- The look-ups of a walk's letters, for the judges that read letters by them.
use Rattle.std.specs.Prelude.{Bool, false, ◌||◌, cond, List, [], ◌∷◌, ℕ, ◌%◌, eqb, get_or}
use Rattle.base.specs.Lists.{tabulate}
use Rattle.rule.specs.Limits.{max_letters}
use Rattle.rule.specs.Rule.{Rule}
use Rattle.rule.specs.Inner.Lookup.{Lookup, joined_lookup}
use Rattle.table.specs.Inner.Preparing.{IsLookup}

-- a look-up for each letter
abbrev pub Lookups : Type 0
Lookups = List Lookup

-- does letter a occur in the word? A byte from the limit up counts by its remainder.
unfoldable pub occurs : List ℕ → ℕ → Bool
occurs [] a = false
occurs (b ∷ w) a = eqb (b % max_letters) a || occurs w a

-- the look-ups where those of some letters are made from the words of their states; the others stay
unfoldable pub refilled : (ℕ → Bool) → List (List ℕ) → Lookups → Lookups
refilled chosen words lookups = tabulate max_letters (λ a. cond (chosen a) (joined_lookup (get_or words a [])) (get_or lookups a []))

-- the look-ups after those of a walk's letters are made
unfoldable pub lookups_after : List (List ℕ) → List ℕ → List ℕ → Lookups → Lookups
lookups_after words u v lookups = refilled (λ a. occurs u a || occurs v a) words lookups

-- a letter of the rule has its look-up
abbrev pub HasLookup : Rule → Lookups → ℕ → Type 0
HasLookup R lookups a = IsLookup R a (get_or lookups a [])
