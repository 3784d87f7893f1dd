-- What a call gives is determined: the calls' contracts leave no choice of the numbers or of the buffer.
use mathlib.Core.Path.{◌≡◌, sym, ◌∙◌, ap}
use mathlib.Core.List.{List}
use Rattle.std.proofs.Common.{Option, Some}
use Rattle.std.proofs.lemmas.Option.{same_Some}
use Prim.Native.Nat.{ℕ}
use Rattle.table.specs.ReadCall.{read_outcome, read_answer, grid_after}
use Rattle.spelling.specs.SameCall.{same_outcome, SameAnswers}
use Rattle.spelling.proofs.SameAnswers.{same_determined}
use Rattle.plain.specs.PlainCall.{plain_outcome, PlainAnswers}
use Rattle.plain.proofs.PlainVerdict.{plain_determined}
use Rattle.tree.specs.StartCall.{start_outcome, start_answer, start_after}
use Rattle.treejudge.specs.JudgeCall.{tree_outcome, TreeAnswers}
use Rattle.treejudge.proofs.TreeVerdict.{tree_determined}
use Rattle.stored.specs.Calls.{read_numbers, start_numbers, tree_numbers, plain_numbers, same_numbers, ReadGives, WriteGives, StartGives, StepGives, TreeGives, PlainGives, SameGives, SuccessorsGives, Gives}
use Rattle.stored.specs.declared.calls.Call.{Call}
use Rattle.stored.specs.declared.calls.Call.TheVariants.{Read, Write, Start, Step, Tree, Plain, Same, Successors}

-- two readings of one text are the same
one : {A : Type 0} {o : Option A} {a b : A} → o ≡ Some a → o ≡ Some b → a ≡ b
one {a} {b} x y = same_Some a b (sym x ∙ y)

module _ {line lent ns after ms left : List ℕ} where
  read_one : ReadGives line lent ns after → ReadGives line lent ms left → (ns ≡ ms) × (after ≡ left)
  read_one G H =
      let table : G.table ≡ H.table = one G.has_table H.has_table in (
        G.answers ∙ ap (λ t. read_numbers (read_answer (read_outcome t lent))) table ∙ sym H.answers,
        G.leaves ∙ ap (λ t. grid_after (read_outcome t lent) lent) table ∙ sym H.leaves,
      )

  start_one : StartGives line lent ns after → StartGives line lent ms left → (ns ≡ ms) × (after ≡ left)
  start_one G H =
      let table : G.table ≡ H.table = one G.has_table H.has_table in (
        G.answers ∙ ap (λ t. start_numbers (start_answer (start_outcome t lent))) table ∙ sym H.answers,
        G.leaves ∙ ap (λ t. start_after (start_outcome t lent) lent) table ∙ sym H.leaves,
      )

  write_one : WriteGives line lent ns after → WriteGives line lent ms left → (ns ≡ ms) × (after ≡ left)
  write_one G H =
      let n : G.n ≡ H.n = one G.has_rule.states H.has_rule.states in
      let m : G.m ≡ H.m = one G.has_rule.letters H.has_rule.letters in
      let k : G.k ≡ H.k = one G.has_rule.sets H.has_rule.sets in
      let start : G.start ≡ H.start = one G.has_rule.starting H.has_rule.starting in
      let grid : G.grid ≡ H.grid = one G.has_grid H.has_grid in (
        G.answers ∙ rw (n, m, k, start, grid) (sym H.answers),
        G.leaves ∙ rw (n, m, k, start, grid) (sym H.leaves),
      )

  step_one : StepGives line lent ns after → StepGives line lent ms left → (ns ≡ ms) × (after ≡ left)
  step_one G H =
      let table : G.table ≡ H.table = one G.has_table H.has_table in
      let letter : G.letter ≡ H.letter = one G.has_letter H.has_letter in
      let bytes : G.bytes ≡ H.bytes = one G.has_bytes H.has_bytes in
      (G.answers ∙ rw (table, letter, bytes) (sym H.answers), G.leaves ∙ rw (table, letter, bytes) (sym H.leaves))

  tree_one : TreeGives line lent ns after → TreeGives line lent ms left → (ns ≡ ms) × (after ≡ left)
  tree_one G H =
      let table : G.table ≡ H.table = one G.has_table H.has_table in
      let u : G.u ≡ H.u = one G.has_lead H.has_lead in
      let v : G.v ≡ H.v = one G.has_tail H.has_tail in
      let outcome = tree_outcome G.table G.u G.v lent in
      let judged : TreeAnswers outcome G.u G.v lent H.answer left = rw (table, u, v) H.judged in
      let (answer, same) = tree_determined outcome G.u G.v lent G.answer H.answer after left G.judged judged in
      (G.answers ∙ ap tree_numbers answer ∙ sym H.answers, same)

  plain_one : PlainGives line lent ns after → PlainGives line lent ms left → (ns ≡ ms) × (after ≡ left)
  plain_one G H =
      let table : G.table ≡ H.table = one G.has_table H.has_table in
      let u : G.u ≡ H.u = one G.has_lead H.has_lead in
      let v : G.v ≡ H.v = one G.has_tail H.has_tail in
      let outcome = plain_outcome G.table G.u G.v lent in
      let judged : PlainAnswers outcome G.u G.v H.answer = rw (table, u, v) H.judged in
      let answer = plain_determined outcome G.u G.v G.answer H.answer G.judged judged in
      (G.answers ∙ ap plain_numbers answer ∙ sym H.answers, G.leaves ∙ rw (table, u, v) (sym H.leaves))

  same_one : SameGives line lent ns after → SameGives line lent ms left → (ns ≡ ms) × (after ≡ left)
  same_one G H =
      let u : G.u ≡ H.u = one G.has_lead H.has_lead in
      let v : G.v ≡ H.v = one G.has_tail H.has_tail in
      let u' : G.u' ≡ H.u' = one G.has_lead' H.has_lead' in
      let v' : G.v' ≡ H.v' = one G.has_tail' H.has_tail' in
      let outcome = same_outcome G.u G.v G.u' G.v' in
      let compared : SameAnswers outcome G.u G.v G.u' G.v' H.answer = rw (u, v, u', v') H.compared in
      let answer = same_determined outcome G.u G.v G.u' G.v' G.answer H.answer G.compared compared in
      (G.answers ∙ ap same_numbers answer ∙ sym H.answers, G.leaves ∙ sym H.leaves)

  successors_one : SuccessorsGives line lent ns after → SuccessorsGives line lent ms left → (ns ≡ ms) × (after ≡ left)
  successors_one G H =
      let table : G.table ≡ H.table = one G.has_table H.has_table in
      let letter : G.letter ≡ H.letter = one G.has_letter H.has_letter in
      let states : G.states ≡ H.states = one G.has_states H.has_states in
      (G.answers ∙ rw (table, letter, states) (sym H.answers), G.leaves ∙ sym H.leaves)

-- every call
pub gives_one : (call : Call) (line lent ns after ms left : List ℕ) → Gives call line lent ns after → Gives call line lent ms left
    → (ns ≡ ms) × (after ≡ left)
gives_one Read line lent ns after ms left G H = read_one G H
gives_one Write line lent ns after ms left G H = write_one G H
gives_one Start line lent ns after ms left G H = start_one G H
gives_one Step line lent ns after ms left G H = step_one G H
gives_one Tree line lent ns after ms left G H = tree_one G H
gives_one Plain line lent ns after ms left G H = plain_one G H
gives_one Same line lent ns after ms left G H = same_one G H
gives_one Successors line lent ns after ms left G H = successors_one G H
