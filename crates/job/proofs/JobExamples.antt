-- The definitions on the example that document 01 prints whole, by computation.
use mathlib.Core.Path.{◌≡◌, refl}
use mathlib.Core.List.{List, [], ◌∷◌, flat_map}
use Prim.Native.Nat.{ℕ}
use Rattle.base.specs.Lists.{all_of}
use Rattle.base.specs.Outcome.{accepted}
use Rattle.base.specs.Reading.{read_part, read_many, ended}
use Rattle.rule.specs.Rule.{Rule}
use Rattle.rule.specs.WellFormed.{start_fits}
use Rattle.table.specs.Table.{in_range, ask_header, read_byte, read_transition, read_row, read_cell, read_grid, read_body, read_rule}
use Rattle.word.specs.Judging.{walk_questions}
use Rattle.word.specs.Walk.{lengths_fit, ask_walk}
use Rattle.history.specs.Finding.{yes_node, no_node}
use Rattle.treejudge.specs.Examples.{table_a}
use Rattle.job.specs.Ascii.{ascii}
use Rattle.job.specs.JobCall.{job_parts, job_outcome, digits, digits_within, line, yes_no, finding_verdict, dotted, name_text, node_text, five_lines, refusal_text}
use Rattle.job.specs.PrintedVerdict.{AcceptedJob}

-- the job of table A, u empty, v = 1
job_a : List ℕ
job_a = 12 ∷ 0 ∷ 2 ∷ 2 ∷ 1 ∷ 1 ∷ 1 ∷ 0 ∷ 0 ∷ 3 ∷ 0 ∷ 0 ∷ 2 ∷ 1 ∷ 0 ∷ 0 ∷ 1 ∷ 0 ∷ 1 ∷ []

parts_of_a : job_parts job_a ≡ accepted (record { table = table_a; lead = []; tail = 1 ∷ [] })
unfolding job_a job_parts read_part ended table_a
parts_of_a = refl

-- it is not refused: table A is read as this rule
rule_a : Rule
rule_a = record {
  states = 2;
  letters = 2;
  sets = 1;
  start = 1;
  grid = ((0 ∷ 255 ∷ []) ∷ (255 ∷ 255 ∷ []) ∷ []) ∷ ((0 ∷ 0 ∷ []) ∷ (255 ∷ 1 ∷ []) ∷ []) ∷ [];
}

reads_a : read_rule table_a ≡ accepted rule_a
unfolding rule_a table_a read_rule ask_header in_range start_fits read_body read_grid read_many read_cell read_row read_transition read_byte ended
reads_a = refl

a_accepted : AcceptedJob job_a (record { table = table_a; lead = []; tail = 1 ∷ [] }) rule_a
unfolding rule_a job_outcome walk_questions ask_walk lengths_fit all_of
a_accepted = rw (parts_of_a, reads_a)

-- "A, u empty, v = 1 prints, whole"
lines_of_a : five_lines 2 1 (yes_node (0 ∷ [])) 1 ≡ ascii "verdict yes\nentry 2\nperiod 1\nnode 0\nplain yes\n"
unfolding five_lines line yes_no finding_verdict node_text name_text dotted flat_map digits digits_within
lines_of_a = refl

-- other lines: no node, the root, a node below it, a refusal
lines_no : five_lines 0 123 no_node 0 ≡ ascii "verdict no\nentry 0\nperiod 123\nnode none\nplain no\n"
unfolding five_lines line yes_no finding_verdict node_text name_text dotted flat_map digits digits_within
lines_no = refl

names_written : (name_text [] ≡ ascii "-") × (name_text (1 ∷ 0 ∷ 2 ∷ []) ≡ ascii "1.0.2")
unfolding name_text dotted flat_map digits digits_within
names_written = (refl, refl)

refusal_written : refusal_text 5 ≡ ascii "refused 5\n"
unfolding refusal_text line digits digits_within
refusal_written = refl
