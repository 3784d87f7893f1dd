-- The starting record of a table: what the call answers, and what it leaves in the lent buffer, for all inputs.
use Rattle.std.specs.Prelude.{◌≡◌, List, ℕ, leb, length}
use Rattle.base.specs.Outcome.{Outcome, refused, accepted, ask, ◌then◌, Tells}
use Rattle.base.specs.LentBuffer.{stored}
use Rattle.table.specs.Table.{read_rule}
use Rattle.history.specs.Tree.{start_tree}
use Rattle.history.specs.Record.{record_of}
use Rattle.tree.specs.declared.start.StartAnswer.{StartAnswer}

-- "17 for a tree"
abbrev pub record_room : ℕ
record_room = 17

-- questions 1 to 6, then 10; accepted, the record of the starting tree
unfoldable pub start_outcome : List ℕ → List ℕ → Outcome (List ℕ)
start_outcome table buffer =
    read_rule table then λ R.
    ask (leb record_room (length buffer)) 10
    (accepted (record_of R.states (start_tree R)))

unfoldable pub start_answer : Outcome (List ℕ) → StartAnswer
start_answer (refused number) = record { number = number; written = 0 }
start_answer (accepted bytes) = record { number = 0; written = length bytes }

unfoldable pub start_after : Outcome (List ℕ) → List ℕ → List ℕ
start_after (refused number) buffer = buffer
start_after (accepted bytes) buffer = stored 0 bytes buffer

-- the contract of the call: for a table and a lent buffer, this answer, and these bytes in the buffer afterwards
abbrev pub StartCall : List ℕ → List ℕ → StartAnswer → List ℕ → Type 0
StartCall table buffer answer after =
    (answer ≡ start_answer (start_outcome table buffer)) × (after ≡ start_after (start_outcome table buffer) buffer)

-- the number that a caller sees tells whether the call is accepted
abbrev pub StartNumber : Type 0
StartNumber = (table buffer : List ℕ) → Tells (start_outcome table buffer) (start_answer (start_outcome table buffer)).number
