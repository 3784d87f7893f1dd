-- What the answers of the functions that read a table's cells say, for the contracts inside this crate.
use Rattle.std.specs.Prelude.{List, [], ◌∷◌, ◌++◌, ℕ, Option, Some, None, Result, Ok, Err, drop}
use Rattle.base.specs.Outcome.{refused, accepted, ◌then◌}
use Rattle.base.specs.Reading.{Read, read_many}
use Rattle.base.specs.Refusals.{refusal_number}
use Rattle.base.specs.declared.refusal.Refusal.{Refusal}
use Rattle.rule.specs.Limits.{max_states}
use Rattle.rule.specs.Rule.{Grid}
use Rattle.rule.specs.Inner.Padded.{blank_square, blank_cells}
use Rattle.table.specs.Table.{read_cell}
use Rattle.table.specs.declared.byte_reader.Reader.{Reader}

-- the bytes that a reader has still to read
abbrev pub ahead : Reader → List ℕ
ahead reader = drop reader.at reader.src.now

-- document 01's number and values for what a reader gives: a byte and the bytes behind it, or question 4's number
abbrev pub next_as : List ℕ → Option ℕ → Read ℕ
next_as rest (Some x) = accepted (x, rest)
next_as rest None = refused 4

-- "At each cell byte in turn: is it there? 4": the first of some bytes and those behind it
abbrev pub next_byte : List ℕ → Read ℕ
next_byte [] = refused 4
next_byte (x ∷ rest) = accepted (x, rest)

-- a byte with the bytes behind it, or question 4's or 5's number
abbrev pub byte_read : List ℕ → Result ℕ Refusal → Read ℕ
byte_read rest (Ok x) = accepted (x, rest)
byte_read rest (Err refusal) = refused (refusal_number refusal)

-- what was read, with the bytes behind it, or the number of the question that failed
abbrev pub progress : {A : Type 0} → List ℕ → Result (Unit {0}) Refusal → A → Read A
progress rest (Ok _) x = accepted (x, rest)
progress rest (Err refusal) x = refused (refusal_number refusal)

-- c things that were read, stored over the first c elements of a list
abbrev pub replaced : {A : Type 0} → ℕ → List A → Read (List A) → Read (List A)
replaced c old o = o then λ x. accepted (x.0 ++ drop c old, x.1)

-- the cells of one letter, in an array that was blank
unfoldable pub read_square : ℕ → ℕ → List ℕ → Read (List (List ℕ))
read_square n k bytes = replaced n blank_square (read_many (read_cell n k max_states) n bytes)

-- the cells of all letters, in arrays that were blank
unfoldable pub read_padded : ℕ → ℕ → ℕ → List ℕ → Read Grid
read_padded n m k bytes = replaced m blank_cells (read_many (read_square n k) m bytes)
