-- One letter of a table: how its questions go, what is known of one that they accept, and that its look-up is made.
use mathlib.Core.Path.{◌≡◌}
use mathlib.Core.List.{List, []}
use Prim.Native.Nat.{ℕ, ◌≤◌, ◌<◌}
use native.Mathlib.Omega.{arith}
use borrow.Author.Tests.{le-ltb, lt-ltb, ltb-true}
use lib.Dec.{ltb}
use lib.ListN.{get_or}
use Rattle.base.specs.Outcome.{refused, accepted}
use Rattle.base.proofs.Accepted.{itself, of_accepted, asked, followed}
use Rattle.rule.specs.Limits.{max_letters}
use Rattle.rule.specs.Rule.{Grid, Rule}
use Rattle.rule.specs.Inner.Padded.{padded}
use Rattle.rule.specs.Inner.Lookup.{Lookup, joined_lookup}
use Rattle.rule.proofs.LookupSteps.{lookup_made}
use Rattle.table.specs.Table.{read_rule}
use Rattle.table.specs.LetterQuestions.{letter_questions}
use Rattle.table.specs.Inner.Preparing.{PreparedLetter}
use Rattle.table.specs.declared.header.Header.{Header}
use Rattle.table.proofs.Asked.{RuleRead}

-- questions 1 to 6
pub letter_no_table : (table : List ℕ) (a : ℕ) {number : ℕ} → read_rule table ≡ refused number → letter_questions table a ≡ refused number
unfolding letter_questions
letter_no_table table a e = rw e

module _ {table : List ℕ} {header : Header} {cells : Grid} {words : List (List ℕ)} (v : RuleRead table header cells words) (a : ℕ) where
  -- question 8 is answered no
  pub letter_no : header.letters ≤ a → letter_questions table a ≡ refused 8
  unfolding letter_questions
  letter_no large = let large' = rw v.holds.numbers.letters at large in rw (v.reads, le-ltb _ _ large')

  module _ (small : a < header.letters) where
    below : a < v.rule.letters
    below = rw v.holds.numbers.letters at small

    -- all are answered yes
    pub letter_yes : letter_questions table a ≡ accepted v.rule
    unfolding letter_questions
    letter_yes = rw (v.reads, lt-ltb _ _ below)

    -- the letter has its place in the arrays,
    pub letter_inside : a < max_letters
    letter_inside = omega (arith, below, v.holds.limits.letters)

    -- and the look-up that its states' words give is its own
    pub letter_prepared : {lookup : Lookup} → lookup ≡ joined_lookup (get_or words a []) → PreparedLetter v.rule header a lookup
    letter_prepared made = record {
      numbers = v.holds.numbers;
      limits = v.holds.limits;
      is_lookup = record { below = below; entries = lookup_made (padded v.rule.grid) v.holds.images a made };
    }

-- an accepted letter: the table is read as the rule, and the letter is one of its letters
pub letter_accepted : (table : List ℕ) (a : ℕ) (R : Rule) → letter_questions table a ≡ accepted R → (read_rule table ≡ accepted R) × (a < R.letters)
unfolding letter_questions
letter_accepted table a R e =
    of_accepted Known (letter_questions table a) R e
    (followed (λ S. read_rule table ≡ accepted S) Known (read_rule table) _ (itself (read_rule table)) λ S is.
    asked Known (ltb a S.letters) 8 _ λ t. (is, ltb-true _ _ t))
  where
    Known : Rule → Type 0
    Known S = (read_rule table ≡ accepted S) × (a < S.letters)
