-- The writer's call: what it answers, and what it leaves in the lent bytes, for all inputs.
use Rattle.std.specs.Prelude.{◌≡◌, List, ℕ, leb, length}
use Rattle.base.specs.Outcome.{Outcome, refused, accepted, ask, ◌then◌}
use Rattle.base.specs.LentBuffer.{stored}
use Rattle.table.specs.Table.{write_rule, table_bytes}
use Rattle.table.specs.declared.writer.WriteAnswer.{WriteAnswer}

-- questions 2, 3 and 11, then 10: "the exact length for a table", "longer is fine"; accepted, the table's bytes
unfoldable pub write_outcome : ℕ → ℕ → ℕ → ℕ → List ℕ → List ℕ → Outcome (List ℕ)
write_outcome n m k start grid buffer =
    write_rule n m k start grid then λ R.
    ask (leb (length (table_bytes R)) (length buffer)) 10
    (accepted (table_bytes R))

-- the answer: 0 and the table's length; on a refusal its number and zero
unfoldable pub write_answer : Outcome (List ℕ) → WriteAnswer
write_answer (refused number) = record { number = number; written = 0 }
write_answer (accepted table) = record { number = 0; written = length table }

-- the lent buffer afterwards: the table, the rest unchanged; a refusal alters nothing
unfoldable pub table_after : Outcome (List ℕ) → List ℕ → List ℕ
table_after (refused number) buffer = buffer
table_after (accepted table) buffer = stored 0 table buffer

-- the contract of the call: for numbers, a grid and a lent buffer, this answer, and these bytes in the buffer afterwards
abbrev pub WriteCall : ℕ → ℕ → ℕ → ℕ → List ℕ → List ℕ → WriteAnswer → List ℕ → Type 0
WriteCall n m k start grid table answer after =
    (answer ≡ write_answer (write_outcome n m k start grid table)) × (after ≡ table_after (write_outcome n m k start grid table) table)
