-- What both judges ask (document 01, "Questions in order").
use Rattle.std.specs.Prelude.{List, ℕ, leb, length}
use Rattle.base.specs.Outcome.{Outcome, accepted, ask, ◌then◌}
use Rattle.rule.specs.Rule.{Rule}
use Rattle.table.specs.Table.{read_rule}
use Rattle.word.specs.Walk.{ask_walk}

-- questions 1 to 6 to the table, 7 and 8 to the walk
unfoldable pub walk_questions : List ℕ → List ℕ → List ℕ → Outcome Rule
walk_questions table u v = read_rule table then λ R. ask_walk R.letters u v (accepted R)

-- question 10 to the lent buffer, of which `needed` bytes are needed
abbrev pub ask_room : ℕ → List ℕ → Rule → Outcome Rule
ask_room needed buffer R = ask (leb needed (length buffer)) 10 (accepted R)

-- all questions of a judge
unfoldable pub judge_questions : ℕ → List ℕ → List ℕ → List ℕ → List ℕ → Outcome Rule
judge_questions needed table u v buffer = walk_questions table u v then λ R. ask_room needed buffer R
