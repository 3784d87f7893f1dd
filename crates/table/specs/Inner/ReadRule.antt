-- A read table, for the judges that work on it: the numbers of a rule, and the words of its states' images.
use Rattle.std.specs.Prelude.{◌≡◌, List, ℕ, ◌≤◌, Result}
use Rattle.base.specs.Outcome.{Outcome, refused, accepted}
use Rattle.base.specs.Refusals.{Answers}
use Rattle.base.specs.declared.refusal.Refusal.{Refusal}
use Rattle.rule.specs.Limits.{max_states, max_letters, max_sets}
use Rattle.rule.specs.Rule.{Rule, Grid}
use Rattle.rule.specs.WellFormed.{WellFormed}
use Rattle.rule.specs.Inner.Padded.{padded, blank_cells}
use Rattle.rule.specs.Inner.Lookup.{grid_words}
use Rattle.table.specs.Inner.Header.{HasNumbers}
use Rattle.table.specs.declared.header.Header.{Header}

-- the rule R is well-formed and within the limits
pub record WithinLimits (R : Rule) : Type 0 where
  pub well : WellFormed R
  pub states : R.states ≤ max_states
  pub letters : R.letters ≤ max_letters
  pub some_set : 1 ≤ R.sets
  pub sets : R.sets ≤ max_sets

-- the numbers are those of R
abbrev pub NumbersOf : Rule → Header → Type 0
NumbersOf R header = HasNumbers R.states R.letters R.sets R.start header

-- the numbers and the words are those of R, which is within the limits
pub record HoldsRule (R : Rule) (header : Header) (words : List (List ℕ)) : Type 0 where
  pub numbers : NumbersOf R header
  pub images : words ≡ grid_words (padded R.grid)
  pub limits : WithinLimits R

-- the cells afterwards: the rule's grid; on a refusal no transition anywhere
unfoldable pub cells_after : Outcome Rule → Grid
cells_after (refused number) = blank_cells
cells_after (accepted R) = padded R.grid

-- arrays that hold no transition, and beside them the words of their states
abbrev pub Blank : Grid → List (List ℕ) → Type 0
Blank cells words = (cells ≡ blank_cells) × (words ≡ grid_words cells)

-- what the code answers to some questions to a table, the arrays afterwards, and beside them the words of their states
pub record ReadInto (o : Outcome Rule) (r : Result Header Refusal) (cells : Grid) (words : List (List ℕ)) : Type 0 where
  pub answers : Answers o NumbersOf r
  pub arrays : cells ≡ cells_after o
  pub images : words ≡ grid_words cells

-- the same where the numbers are known; on a refusal the arrays may hold a part of the cells
abbrev pub ReadBehind : Outcome Rule → Result (Unit {0}) Refusal → Grid → List (List ℕ) → Type 0
ReadBehind o r cells words = Answers o (λ R _. (cells ≡ padded R.grid) × (words ≡ grid_words cells)) r
