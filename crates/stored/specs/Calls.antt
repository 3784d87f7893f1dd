-- Stored calls. A line has, between tabs: the call's name, its arguments, the lent buffer, the answer's numbers, the buffer after the
-- call. Bytes are in hexadecimal, numbers in decimal. The line is right if the library's call gives these numbers and leaves these bytes.
use Rattle.std.specs.Prelude.{◌≡◌, List, [], ◌∷◌, ℕ, ◌+◌, Some, length}
use Rattle.table.specs.ReadCall.{read_outcome, read_answer, grid_after}
use Rattle.table.specs.WriteCall.{write_outcome, write_answer, table_after}
use Rattle.table.specs.declared.reader.ReadAnswer.{ReadAnswer}
use Rattle.table.specs.declared.writer.WriteAnswer.{WriteAnswer}
use Rattle.successors.specs.SuccessorsCall.{successors_outcome, successors_answer}
use Rattle.successors.specs.declared.call.SuccessorsAnswer.{SuccessorsAnswer}
use Rattle.spelling.specs.SameCall.{same_outcome, SameAnswers}
use Rattle.spelling.specs.declared.same.SameAnswer.{SameAnswer}
use Rattle.plain.specs.PlainCall.{plain_outcome, PlainAnswers, scratch_after}
use Rattle.plain.specs.declared.judge.PlainAnswer.{PlainAnswer}
use Rattle.tree.specs.StartCall.{start_outcome, start_answer, start_after}
use Rattle.tree.specs.declared.start.StartAnswer.{StartAnswer}
use Rattle.step.specs.StepCall.{step_outcome, step_answer, step_after}
use Rattle.step.specs.declared.call.StepAnswer.{StepAnswer}
use Rattle.treejudge.specs.JudgeCall.{tree_outcome, TreeAnswers}
use Rattle.treejudge.specs.declared.judge.TreeAnswer.{TreeAnswer}
use Rattle.job.specs.Ascii.{ascii}
use Rattle.notation.specs.Parts.{tab, space, parts, part_at, field_at}
use Rattle.notation.specs.Decimal.{decimal_within}
use Rattle.notation.specs.Hexadecimal.{byte_string}
use Rattle.notation.specs.Testing.{HasNumbers}
use Rattle.stored.specs.declared.calls.Call.{Call}
use Rattle.stored.specs.declared.calls.Call.TheVariants.{Read, Write, Start, Step, Tree, Plain, Same, Successors}

-- THE CALLS

-- its name on a line
unfoldable pub name_of : Call → List ℕ
name_of Read = ascii "read"
name_of Write = ascii "write"
name_of Start = ascii "start"
name_of Step = ascii "step"
name_of Tree = ascii "tree"
name_of Plain = ascii "plain"
name_of Same = ascii "same"
name_of Successors = ascii "successors"

-- how many arguments it has there
unfoldable pub arguments : Call → ℕ
arguments Read = 1
arguments Write = 2
arguments Start = 1
arguments Step = 3
arguments Tree = 3
arguments Plain = 3
arguments Same = 4
arguments Successors = 3

-- THE ARGUMENTS OF A LINE

-- the field with this number has these bytes
abbrev pub BytesAt : List ℕ → ℕ → List ℕ → Type 0
BytesAt line number bytes = byte_string (field_at line number) ≡ Some bytes

-- the largest numbers that a call takes: a size, a map of states, a letter
abbrev pub largest_size : ℕ
largest_size = 18446744073709551615

abbrev pub largest_map : ℕ
largest_map = 65535

abbrev pub largest_byte : ℕ
largest_byte = 255

-- n, m, k and the starting map, with one space between two
pub record RuleText (text : List ℕ) (n m k start : ℕ) : Type 0 where
  pub four : length (parts space text) ≡ 4
  pub states : decimal_within largest_size (part_at space text 0) ≡ Some n
  pub letters : decimal_within largest_size (part_at space text 1) ≡ Some m
  pub sets : decimal_within largest_size (part_at space text 2) ≡ Some k
  pub starting : decimal_within largest_map (part_at space text 3) ≡ Some start

-- THE NUMBERS OF AN ANSWER, in the order of a line

abbrev pub read_numbers : ReadAnswer → List ℕ
read_numbers a = a.number ∷ a.states ∷ a.letters ∷ a.sets ∷ a.start ∷ []

abbrev pub write_numbers : WriteAnswer → List ℕ
write_numbers a = a.number ∷ a.written ∷ []

abbrev pub start_numbers : StartAnswer → List ℕ
start_numbers a = a.number ∷ a.written ∷ []

abbrev pub step_numbers : StepAnswer → List ℕ
step_numbers a = a.number ∷ a.written ∷ a.accepting ∷ a.stable ∷ []

abbrev pub tree_numbers : TreeAnswer → List ℕ
tree_numbers a = a.number ∷ a.verdict ∷ a.entry ∷ a.period ∷ a.length ∷ []

abbrev pub plain_numbers : PlainAnswer → List ℕ
plain_numbers a = a.number ∷ a.verdict ∷ []

abbrev pub same_numbers : SameAnswer → List ℕ
same_numbers a = a.number ∷ a.same ∷ []

-- the maps of the sets are the last
abbrev pub successors_numbers : SuccessorsAnswer → List ℕ
successors_numbers a = a.number ∷ a.next ∷ a.reached

-- WHAT A CALL GIVES: with a line's arguments and this buffer lent, these numbers, and these bytes in the buffer afterwards, as the
-- call's own contract says

-- read TABLE: number n m k start
pub record ReadGives (line lent numbers after : List ℕ) : Type 0 where
  pub table : List ℕ
  pub has_table : BytesAt line 1 table
  pub answers : numbers ≡ read_numbers (read_answer (read_outcome table lent))
  pub leaves : after ≡ grid_after (read_outcome table lent) lent

-- write n-m-k-start GRID: number length
pub record WriteGives (line lent numbers after : List ℕ) : Type 0 where
  pub n : ℕ
  pub m : ℕ
  pub k : ℕ
  pub start : ℕ
  pub grid : List ℕ
  pub has_rule : RuleText (field_at line 1) n m k start
  pub has_grid : BytesAt line 2 grid
  pub answers : numbers ≡ write_numbers (write_answer (write_outcome n m k start grid lent))
  pub leaves : after ≡ table_after (write_outcome n m k start grid lent) lent

-- start TABLE: number length
pub record StartGives (line lent numbers after : List ℕ) : Type 0 where
  pub table : List ℕ
  pub has_table : BytesAt line 1 table
  pub answers : numbers ≡ start_numbers (start_answer (start_outcome table lent))
  pub leaves : after ≡ start_after (start_outcome table lent) lent

-- step TABLE LETTER RECORD: number length accepting stable
pub record StepGives (line lent numbers after : List ℕ) : Type 0 where
  pub table : List ℕ
  pub letter : ℕ
  pub bytes : List ℕ
  pub has_table : BytesAt line 1 table
  pub has_letter : decimal_within largest_byte (field_at line 2) ≡ Some letter
  pub has_bytes : BytesAt line 3 bytes
  pub answers : numbers ≡ step_numbers (step_answer (step_outcome table letter bytes lent))
  pub leaves : after ≡ step_after (step_outcome table letter bytes lent) lent

-- tree TABLE U V: number verdict entry period length. The contract is a relation: there is an answer that it allows. It allows one only.
pub record TreeGives (line lent numbers after : List ℕ) : Type 0 where
  pub table : List ℕ
  pub u : List ℕ
  pub v : List ℕ
  pub has_table : BytesAt line 1 table
  pub has_lead : BytesAt line 2 u
  pub has_tail : BytesAt line 3 v
  pub answer : TreeAnswer
  pub judged : TreeAnswers (tree_outcome table u v lent) u v lent answer after
  pub answers : numbers ≡ tree_numbers answer

-- plain TABLE U V: number verdict
pub record PlainGives (line lent numbers after : List ℕ) : Type 0 where
  pub table : List ℕ
  pub u : List ℕ
  pub v : List ℕ
  pub has_table : BytesAt line 1 table
  pub has_lead : BytesAt line 2 u
  pub has_tail : BytesAt line 3 v
  pub answer : PlainAnswer
  pub judged : PlainAnswers (plain_outcome table u v lent) u v answer
  pub answers : numbers ≡ plain_numbers answer
  pub leaves : after ≡ scratch_after (plain_outcome table u v lent) lent

-- same U V U' V': number same. Nothing is lent to it: a buffer on the line is unchanged.
pub record SameGives (line lent numbers after : List ℕ) : Type 0 where
  pub u : List ℕ
  pub v : List ℕ
  pub u' : List ℕ
  pub v' : List ℕ
  pub has_lead : BytesAt line 1 u
  pub has_tail : BytesAt line 2 v
  pub has_lead' : BytesAt line 3 u'
  pub has_tail' : BytesAt line 4 v'
  pub answer : SameAnswer
  pub compared : SameAnswers (same_outcome u v u' v') u v u' v' answer
  pub answers : numbers ≡ same_numbers answer
  pub leaves : after ≡ lent

-- successors TABLE LETTER STATES: number next set1 set2 set3 set4. Nothing is lent to it: a buffer on the line is unchanged.
pub record SuccessorsGives (line lent numbers after : List ℕ) : Type 0 where
  pub table : List ℕ
  pub letter : ℕ
  pub states : ℕ
  pub has_table : BytesAt line 1 table
  pub has_letter : decimal_within largest_byte (field_at line 2) ≡ Some letter
  pub has_states : decimal_within largest_map (field_at line 3) ≡ Some states
  pub answers : numbers ≡ successors_numbers (successors_answer (successors_outcome table letter) letter states)
  pub leaves : after ≡ lent

-- the call of each name
abbrev pub Gives : Call → List ℕ → List ℕ → List ℕ → List ℕ → Type 0
Gives Read line lent numbers after = ReadGives line lent numbers after
Gives Write line lent numbers after = WriteGives line lent numbers after
Gives Start line lent numbers after = StartGives line lent numbers after
Gives Step line lent numbers after = StepGives line lent numbers after
Gives Tree line lent numbers after = TreeGives line lent numbers after
Gives Plain line lent numbers after = PlainGives line lent numbers after
Gives Same line lent numbers after = SameGives line lent numbers after
Gives Successors line lent numbers after = SuccessorsGives line lent numbers after

-- A LINE

-- the call gives the line's numbers, and leaves the line's bytes
pub record Answered (call : Call) (line lent : List ℕ) : Type 0 where
  pub numbers : List ℕ
  pub after : List ℕ
  pub gives : Gives call line lent numbers after
  pub has_numbers : HasNumbers (field_at line (arguments call + 2)) numbers
  pub has_after : BytesAt line (arguments call + 3) after

-- THE LINE IS RIGHT: it has a call's name and as many fields as the call asks for, its buffer can be lent, and the call answers so
pub record CallRight (line : List ℕ) : Type 0 where
  pub call : Call
  pub has_name : field_at line 0 ≡ name_of call
  pub fields : length (parts tab line) ≡ arguments call + 4
  pub lent : List ℕ
  pub has_lent : BytesAt line (arguments call + 1) lent
  pub answered : Answered call line lent
