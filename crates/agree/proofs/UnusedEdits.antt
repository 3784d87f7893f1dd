-- Two tables that are equal on a walk (document 02, U10): each judge's call gives the same on both.
use mathlib.Core.Path.{◌≡◌, refl, sym, ◌∙◌}
use mathlib.Core.List.{List, [], ◌∷◌}
use Prim.Native.Nat.{ℕ}
use borrow.Author.Tests.{ne_eqb}
use lib.Count.{ones, ones_in}
use lib.ListN.{replicate, length-replicate}
use Rattle.base.specs.Outcome.{accepted}
use Rattle.base.proofs.Storing.{stored_none}
use Rattle.rule.specs.Rule.{Rule}
use Rattle.table.specs.Cells.{cells_length, header_bytes, letter_cells}
use Rattle.table.specs.Table.{read_rule}
use Rattle.table.proofs.RoundTrip.{read_well_formed}
use Rattle.word.specs.EqualOn.{EqualOn}
use Rattle.word.proofs.Positions.{filled}
use Rattle.word.proofs.SameAlong.{SameAlong, along_edited, verdicts_along}
use Rattle.word.proofs.TwoTables.{equal_by_bytes, same_way}
use Rattle.history.specs.Finding.{Finding, yes_node, no_node}
use Rattle.plain.specs.PlainCall.{scratch_length, plain_outcome, PlainAnswers, scratch_after}
use Rattle.plain.specs.declared.judge.PlainAnswer.{PlainAnswer}
use Rattle.plain.proofs.PlainVerdict.{plain_decides}
use Rattle.treejudge.specs.JudgeCall.{name_room, tree_outcome, tree_answer, names_after, Judged, TreeAnswers}
use Rattle.treejudge.specs.Examples.{table_a}
use Rattle.treejudge.specs.declared.judge.TreeAnswer.{TreeAnswer}
use Rattle.treejudge.proofs.Examples.{row_test, row_answers}
use Rattle.treejudge.proofs.TreeVerdict.{judged_one, judged_along}
use Rattle.agree.specs.Edits.{WriteAlike, name_bytes, zero_bytes, SameTreeCalls, SamePlainCalls, UnusedEdits, UnusedBytes, edited_a, EditedExample}

-- nothing is written
write_none : (lent lent' : List ℕ) → WriteAlike 0 lent lent' lent lent'
write_none lent lent' = record { bytes = []; size = refl; leaves = sym (stored_none 0 lent); leaves' = sym (stored_none 0 lent') }

-- THE TREE JUDGE

-- the name of what is found is written
write_name : (entry period : ℕ) (finding : Finding) (names names' : List ℕ)
    → WriteAlike (name_bytes (tree_answer entry period finding)) names names' (names_after finding names) (names_after finding names')
unfolding name_bytes tree_answer names_after
write_name entry period (yes_node w) names names' = record { bytes = w; size = refl; leaves = refl; leaves' = refl }
write_name entry period no_node names names' = write_none names names'

-- two calls on one rule and one walk, with any two buffers
judged_alike : {R : Rule} {u v names names' : List ℕ} {answer answer' : TreeAnswer} {after after' : List ℕ}
    → Judged R u v names answer after → Judged R u v names' answer' after'
    → (answer ≡ answer') × WriteAlike (name_bytes answer) names names' after after'
judged_alike {R} {u} {v} {names} {names'} J K =
    let (same, found) = judged_one J K in
    (same, rw (same, K.answers, J.leaves, found, K.leaves) (write_name K.walk.entry K.walk.period K.walk.finding names names'))

module _ (table table' u v : List ℕ) (R S : Rule) (reads : read_rule table ≡ accepted R) (reads' : read_rule table' ≡ accepted S)
    (equal : EqualOn R S u v) where
  -- the two rules have the same cells along the walk
  along : (v ≡ [] → ⊥) → SameAlong R S u v u v
  along nonempty = along_edited R S u v (filled v nonempty) equal

  tree_same : SameTreeCalls table table' u v
  unfolding tree_outcome name_bytes
  tree_same names names' long answer answer' after after' =
      same_way name_room table table' u v names names' R S reads reads' equal.letters long
      (λ o o'. TreeAnswers o u v names answer after → TreeAnswers o' u v names' answer' after'
      → (answer ≡ answer') × WriteAlike (name_bytes answer) names names' after after')
      (λ number some T T'. (T.0 ∙ sym T'.0, rw (T.0, T.1, T'.1) (write_none names names')))
      (λ nonempty J K. judged_alike (judged_along (along nonempty) (filled v nonempty) J) K)

  -- THE PLAIN JUDGE

  -- the answers under rules with the same cells along the walk
  answers_same : (answer answer' : PlainAnswer) → (v ≡ [] → ⊥) → PlainAnswers (accepted R) u v answer → PlainAnswers (accepted S) u v answer'
      → answer ≡ answer'
  answers_same answer answer' nonempty P P' =
      let numbers : answer.number ≡ answer'.number = P.0 ∙ sym P'.0 in
      let verdicts : answer.verdict ≡ answer'.verdict =
      verdicts_along (along nonempty) (plain_decides R u v answer P (read_well_formed table R reads).0 nonempty)
      (plain_decides S u v answer' P' (read_well_formed table' S reads').0 nonempty) in
      λ i. record { number = numbers i; verdict = verdicts i }

  plain_same : SamePlainCalls table table' u v
  unfolding plain_outcome zero_bytes scratch_after
  plain_same scratch scratch' long answer answer' after after' =
      same_way scratch_length table table' u v scratch scratch' R S reads reads' equal.letters long
      (λ o o'. PlainAnswers o u v answer → after ≡ scratch_after o scratch → PlainAnswers o' u v answer' → after' ≡ scratch_after o' scratch'
      → (answer ≡ answer') × WriteAlike (zero_bytes answer) scratch scratch' after after')
      (λ number some is kept is' kept'. (is ∙ sym is', rw (is, kept, kept', ne_eqb number 0 some) (write_none scratch scratch')))
      (λ nonempty P leaves P' leaves'. (
        answers_same answer answer' nonempty P P',
        rw P.0 (record {
          bytes = replicate scratch_length 0;
          size = length-replicate scratch_length 0;
          leaves = leaves;
          leaves' = leaves';
        }),
      ))

-- THE THEOREMS

pub unused_edits : UnusedEdits
unused_edits table table' u v R S reads reads' equal =
    record { tree = tree_same table table' u v R S reads reads' equal; plain = plain_same table table' u v R S reads reads' equal }

pub unused_bytes : UnusedBytes
unused_bytes table table' u v R S reads reads' equal =
    unused_edits table table' u v R S reads reads' ((equal_by_bytes table table' u v R S reads reads').0 equal)

pub edited_example : EditedExample
unfolding ones ones_in cells_length header_bytes letter_cells row_test table_a edited_a tree_answer
edited_example = record {
  unused = record { header = refl; lead = tt; tail = (refl, tt) };
  used = row_answers table_a [] (0 ∷ []) 0 1 no_node refl;
  used' = row_answers edited_a [] (0 ∷ []) 0 1 (yes_node []) refl;
}
