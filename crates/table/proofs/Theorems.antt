-- The theorems about rule tables that specs/Theorems.antt states, from the correspondence of tables and rules.
use mathlib.Core.Path.{◌≡◌, refl, sym, ap, ◌∙◌}
use mathlib.Core.List.{List}
use Prim.Native.Nat.{ℕ, ◌*◌, ◌≤◌}
use native.Mathlib.Omega.{arith}
use borrow.Author.Tests.{le-leb}
use lib.Dec.{leb}
use lib.ListN.{length}
use Rattle.base.specs.Outcome.{Outcome, refused, accepted, number_of}
use Rattle.base.proofs.Accepted.{itself, of_accepted, asked, followed}
use Rattle.base.proofs.Numbers.{NotZero, ask_number, then_number, tells}
use Rattle.rule.specs.Rule.{Rule}
use Rattle.rule.specs.WellFormed.{WellFormed}
use Rattle.table.specs.Table.{table_bytes, grid_bytes, read_rule, write_rule}
use Rattle.table.specs.ReadCall.{read_outcome, read_answer, grid_after}
use Rattle.table.specs.WriteCall.{write_outcome, write_answer}
use Rattle.table.specs.Theorems.{WrittenReadsBack, ReadWritesBack, ReadNumber, WriteNumber, AcceptedTables, AcceptedLengths}
use Rattle.table.proofs.RefusalNumbers.{rule_number, write_number}
use Rattle.table.proofs.Parts.{fits_squares, grid_length}
use Rattle.table.proofs.RoundTrip.{read_well_formed, read_bytes, bytes_read, written_well_formed, table_length, rule_written_reads_back, rule_read_writes_back}

-- THE CALLS AND THE RULE

-- an accepted call read the rule that the table says
rule_read : (table buffer : List ℕ) (R : Rule) → read_outcome table buffer ≡ accepted R → read_rule table ≡ accepted R
unfolding read_outcome
rule_read table buffer R e =
    of_accepted Says (read_outcome table buffer) R e
    (followed Says Says (read_rule table) _ (itself (read_rule table)) λ S is. asked Says (leb _ (length buffer)) 10 _ λ _. is)
  where
    Says : Rule → Type 0
    Says S = read_rule table ≡ accepted S

-- an accepted call wrote the table of the rule that its numbers and its grid are
rule_written : (n m k start : ℕ) (grid buffer table : List ℕ) → write_outcome n m k start grid buffer ≡ accepted table
    → (R : Rule) × (write_rule n m k start grid ≡ accepted R) × (table_bytes R ≡ table)
unfolding write_outcome
rule_written n m k start grid buffer table e =
    of_accepted Says (write_outcome n m k start grid buffer) table e
    (followed (λ R. rule ≡ accepted R) Says rule _ (itself rule) λ R is. asked Says (leb _ (length buffer)) 10 _ λ _. (R, is, refl))
  where
    rule : Outcome Rule
    rule = write_rule n m k start grid

    Says : List ℕ → Type 0
    Says bytes = (R : Rule) × (rule ≡ accepted R) × (table_bytes R ≡ bytes)

-- the numbers in the answers are those of the outcomes
read_answer_lem : (o : Outcome Rule) → (read_answer o).number ≡ number_of o
unfolding read_answer
read_answer_lem (refused number) = refl
read_answer_lem (accepted R) = refl

write_answer_lem : (o : Outcome (List ℕ)) → (write_answer o).number ≡ number_of o
unfolding write_answer
write_answer_lem (refused number) = refl
write_answer_lem (accepted table) = refl

-- the bytes of a well-formed rule's grid, by its numbers
grid_bytes_length : (R : Rule) → WellFormed R → length (grid_bytes R.grid) ≡ R.letters * R.states * R.states
grid_bytes_length R well =
    grid_length R.states R.letters R.grid well.squares (fits_squares R.states R.sets R.grid well.fits)

-- THE THEOREMS

pub written_reads_back : WrittenReadsBack
unfolding read_outcome read_answer grid_after
written_reads_back n m k start grid buffer table e other room =
    let (R, is, same) = rule_written n m k start grid buffer table e in
    let (well, _, states, letters, sets, starts, bytes) = written_well_formed n m k start grid R is in
    let reads : read_rule table ≡ accepted R = ap read_rule (sym same) ∙ rule_written_reads_back n m k start grid R is in
    let fits : R.letters * R.states * R.states ≤ length other = omega (arith, grid_bytes_length R well, ap length bytes) in
    rw (reads, le-leb _ _ fits, states, letters, sets, starts, bytes) (refl, refl)

pub read_writes_back : ReadWritesBack
unfolding write_outcome
read_writes_back table buffer R e other room =
    let is = rule_read table buffer R e in
    rw (rule_read_writes_back table R is, read_bytes table R is, le-leb _ _ room)

-- question 10 behind those to the table, or to the rule that is to be written
pub read_tells : ReadNumber
unfolding read_outcome
read_tells table buffer = rw read_answer_lem (tells (read_outcome table buffer)
    (then_number NotZero (read_rule table) _ (rule_number table) λ R. ask_number NotZero (leb _ (length buffer)) 10 _ (λ e. omega arith) tt))

pub write_tells : WriteNumber
unfolding write_outcome
write_tells n m k start grid buffer = rw write_answer_lem (tells (write_outcome n m k start grid buffer)
    (then_number NotZero (write_rule n m k start grid) _ (write_number n m k start grid) λ R.
    ask_number NotZero (leb _ (length buffer)) 10 _ (λ e. omega arith) tt))

pub accepted_tables : AcceptedTables
accepted_tables table R =
    ((λ e. (read_well_formed table R e, read_bytes table R e)), (λ h. ap read_rule (sym h.1) ∙ bytes_read R h.0.0 h.0.1))

pub accepted_lengths : AcceptedLengths
accepted_lengths table R e =
    let (well, range) = read_well_formed table R e in
    rw (read_bytes table R e) at (table_length R well range)
