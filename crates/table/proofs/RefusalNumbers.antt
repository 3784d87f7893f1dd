-- The numbers of refusals: no question has the number 0, so 0 tells that a call is accepted.
use mathlib.Core.Bool.{Bool, true, false}
use mathlib.Core.List.{List, [], ◌∷◌}
use Prim.Native.Nat.{ℕ, zero, suc, ◌/◌, ◌%◌, ◌^◌}
use native.Mathlib.Omega.{arith}
use lib.Dec.{eqb, leb, ltb}
use lib.ListN.{length, get_or, drop}
use Rattle.base.specs.Outcome.{Outcome}
use Rattle.base.specs.Reading.{Read, read_many, ended}
use Rattle.base.proofs.Numbers.{IfRefused, ask_number, then_number, NotZero}
use Rattle.rule.specs.WellFormed.{start_fits}
use Rattle.table.specs.Table.{in_range, ask_header, read_byte, read_transition, read_row, read_cell, read_grid, read_body, read_rule, grid_fits, write_rule}
use Rattle.table.specs.LetterQuestions.{letter_questions}

-- QUESTIONS 2 AND 3

header_number_lem : {A : Type 0} (n m k start : ℕ) (next : Outcome A) → IfRefused NotZero next → IfRefused NotZero (ask_header n m k start next)
unfolding ask_header
header_number_lem n m k start next later =
    ask_number NotZero (in_range n m k) 2 _ (λ e. omega arith) (ask_number NotZero (start_fits n start) 3 next (λ e. omega arith) later)

-- QUESTIONS 1 TO 6

byte_number : (w : ℕ) (bytes : List ℕ) → IfRefused NotZero (read_byte w bytes)
unfolding read_byte
byte_number w [] = λ e. omega arith
byte_number w (x ∷ rest) = ask_number NotZero (ltb x (2 ^ w)) 5 _ (λ e. omega arith) tt

transition_number : (k : ℕ) (t : Bool) (bytes : List ℕ) → IfRefused NotZero (read_transition k t bytes)
unfolding read_transition
transition_number k true bytes = byte_number k bytes
transition_number k false bytes = tt

row_number : (k w standing : ℕ) (bytes : List ℕ) → IfRefused NotZero (read_row k w standing bytes)
unfolding read_row
row_number k zero standing bytes = tt
row_number k (suc w) standing bytes =
    then_number NotZero (read_transition k (eqb (standing % 2) 1) bytes) _ (transition_number k (eqb (standing % 2) 1) bytes) (λ x.
    then_number NotZero (read_row k w (standing / 2) x.1) _ (row_number k w (standing / 2) x.1) (λ row. tt))

cell_number : (n k w : ℕ) (bytes : List ℕ) → IfRefused NotZero (read_cell n k w bytes)
unfolding read_cell
cell_number n k w bytes = then_number NotZero (read_byte n bytes) _ (byte_number n bytes) (λ x. row_number k w x.0 x.1)

many_number : {A : Type 0} (one : List ℕ → Read A) → ((bytes : List ℕ) → IfRefused NotZero (one bytes)) → (c : ℕ) (bytes : List ℕ)
    → IfRefused NotZero (read_many one c bytes)
unfolding read_many
many_number one each zero bytes = tt
many_number one each (suc c) bytes =
    then_number NotZero (one bytes) _ (each bytes) (λ x.
    then_number NotZero (read_many one c x.1) _ (many_number one each c x.1) (λ xs. tt))

body_number : (n m k start : ℕ) (bytes : List ℕ) → IfRefused NotZero (read_body n m k start bytes)
unfolding read_body read_grid
body_number n m k start bytes =
    then_number NotZero (read_many (read_many (read_cell n k n) n) m bytes) _
    (many_number (read_many (read_cell n k n) n) (many_number (read_cell n k n) (cell_number n k n) n) m bytes)
    (λ cells. ask_number NotZero (ended cells.1) 6 _ (λ e. omega arith) tt)

pub rule_number : (table : List ℕ) → IfRefused NotZero (read_rule table)
unfolding read_rule
rule_number table =
    let n = get_or table 0 0 in
    let m = get_or table 1 0 in
    let k = get_or table 2 0 in
    let start = get_or table 3 0 in
    ask_number NotZero (leb 4 (length table)) 1 _ (λ e. omega arith)
    (header_number_lem n m k start _ (body_number n m k start (drop 4 table)))

-- QUESTIONS 1 TO 6, AND 8 TO A LETTER

pub letter_number : (table : List ℕ) (a : ℕ) → IfRefused NotZero (letter_questions table a)
unfolding letter_questions
letter_number table a = then_number NotZero (read_rule table) _ (rule_number table) (λ R.
    ask_number NotZero (ltb a R.letters) 8 _ (λ e. omega arith) tt)

-- QUESTIONS 2, 3 AND 11

pub write_number : (n m k start : ℕ) (bytes : List ℕ) → IfRefused NotZero (write_rule n m k start bytes)
unfolding write_rule
write_number n m k start bytes =
    header_number_lem n m k start _ (ask_number NotZero (grid_fits n m k bytes) 11 _ (λ e. omega arith) tt)
