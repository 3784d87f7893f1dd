-- One letter of a table (document 01, "Questions in order"): what the calls on a letter ask first.
use Rattle.std.specs.Prelude.{List, ℕ, ltb}
use Rattle.base.specs.Outcome.{Outcome, accepted, ask, ◌then◌}
use Rattle.rule.specs.Rule.{Rule}
use Rattle.table.specs.Table.{read_rule}

-- questions 1 to 6 to the table, and 8 to the letter: is it below m?
unfoldable pub letter_questions : List ℕ → ℕ → Outcome Rule
letter_questions table a = read_rule table then λ R. ask (ltb a R.letters) 8 (accepted R)
