-- The reader's call: what it answers, and what it leaves in the lent bytes, for all inputs.
use Rattle.std.specs.Prelude.{◌≡◌, List, ℕ, ◌*◌, leb, length}
use Rattle.base.specs.Outcome.{Outcome, refused, accepted, ask, ◌then◌}
use Rattle.base.specs.LentBuffer.{stored}
use Rattle.rule.specs.Rule.{Rule}
use Rattle.table.specs.Table.{read_rule, grid_bytes}
use Rattle.table.specs.declared.reader.ReadAnswer.{ReadAnswer}

-- questions 1 to 6, then 10: m·n·n bytes for the grid, "longer is fine"
unfoldable pub read_outcome : List ℕ → List ℕ → Outcome Rule
read_outcome table buffer =
    read_rule table then λ R.
    ask (leb (R.letters * R.states * R.states) (length buffer)) 10
    (accepted R)

-- the answer: 0, n, m, k and the starting map; on a refusal its number and zero for all else
unfoldable pub read_answer : Outcome Rule → ReadAnswer
read_answer (refused number) = record { number = number; states = 0; letters = 0; sets = 0; start = 0 }
read_answer (accepted R) = record { number = 0; states = R.states; letters = R.letters; sets = R.sets; start = R.start }

-- the lent buffer afterwards: the grid's bytes, the rest unchanged; a refusal alters nothing
unfoldable pub grid_after : Outcome Rule → List ℕ → List ℕ
grid_after (refused number) buffer = buffer
grid_after (accepted R) buffer = stored 0 (grid_bytes R.grid) buffer

-- the contract of the call: for a table and a lent buffer, this answer, and these bytes in the buffer afterwards
abbrev pub ReadCall : List ℕ → List ℕ → ReadAnswer → List ℕ → Type 0
ReadCall table grid answer after = (answer ≡ read_answer (read_outcome table grid)) × (after ≡ grid_after (read_outcome table grid) grid)
