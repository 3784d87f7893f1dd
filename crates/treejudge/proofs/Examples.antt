-- The examples of document 01 that are marked P: one theorem for the list. Each row is computed: a record or a step by itself, a verdict by
-- a test that decides it.
use mathlib.Core.Path.{◌≡◌, refl, sym, ◌∙◌, subst}
use mathlib.Core.Bool.{Bool, true, ◌&&◌}
use mathlib.Core.List.{List}
use Prim.Native.Nat.{ℕ}
use native.Mathlib.Omega.{arith}
use lib.Count.{ones, ones_in}
use lib.ListN.{replicate, length-replicate}
use Rattle.base.specs.Lists.{all_below, all_of, Every}
use Rattle.base.specs.Outcome.{Outcome, refused, accepted}
use Rattle.base.proofs.Every.{every_weaker}
use Rattle.base.proofs.Logic.{and_in}
use Rattle.rule.specs.Rule.{Rule}
use Rattle.table.specs.LetterQuestions.{letter_questions}
use Rattle.table.specs.Table.{read_rule}
use Rattle.word.specs.Judging.{walk_questions, judge_questions}
use Rattle.word.specs.Walk.{lengths_fit, ask_walk}
use Rattle.word.proofs.JudgeQuestions.{with_room}
use Rattle.word.proofs.WalkQuestions.{lengths_in}
use Rattle.history.specs.Forest.{size}
use Rattle.history.specs.Tree.{labels, disjoint, strictly_inside, nodes_fit, is_tree}
use Rattle.history.specs.Letter.{by_number, accepting_map, stable_map}
use Rattle.history.specs.Record.{host_from, host, members_from, members, tags, record_of, rank, hosted_in, planted, decoded, is_record, read_tree}
use Rattle.history.specs.Finding.{Finding}
use Rattle.history.proofs.Verdict.VerdictTest.{verdict_test, verdict_by_test, rule_test, rule_by_test}
use Rattle.tree.specs.StartCall.{record_room, start_outcome}
use Rattle.step.specs.StepCall.{step_under, step_outcome}
use Rattle.treejudge.specs.JudgeCall.{name_room, tree_outcome, tree_answer, names_after, TreeAnswers}
use Rattle.treejudge.specs.Examples.{Example, starts, steps, judges, refuses, Holds, AlwaysAnswers, table_a, table_b, table_c, examples}
use Rattle.treejudge.proofs.TreeVerdict.{tree_determined}

-- is the walk accepted, and are these its entry, its period and the finding?
unfoldable pub row_test : List ℕ → List ℕ → List ℕ → ℕ → ℕ → Finding → Bool
unfolding rule_test verdict_test lengths_fit all_of
row_test table u v entry period finding =
    lengths_fit u v && rule_test (λ R. (all_below R.letters u && all_below R.letters v) && verdict_test R u v entry period finding) table

-- all questions are answered yes
call_accepted : (table u v : List ℕ) (R : Rule) → read_rule table ≡ accepted R → lengths_fit u v ≡ true
    → (all_below R.letters u && all_below R.letters v) ≡ true → tree_outcome table u v (replicate name_room 0) ≡ accepted R
unfolding tree_outcome judge_questions walk_questions ask_walk
call_accepted table u v R reads fit below = rw (reads, fit, below)

row_holds : (table u v : List ℕ) (entry period : ℕ) (finding : Finding) → row_test table u v entry period finding ≡ true
    → Holds (judges table u v entry period finding)
unfolding row_test
row_holds table u v entry period finding h =
    let (fit, h') = and_in (lengths_fit u v) _ h in
    let (_, filled, _) = lengths_in u v fit in
    let (R, reads, passes) = rule_by_test _ table h' in
    let (below, judged) = and_in (all_below R.letters u && all_below R.letters v) _ passes in
    let (repeats, found) = verdict_by_test R u v entry period finding filled judged in
    (R, call_accepted table u v R reads fit below, repeats, found)

-- a row of computed examples is what the tree judge answers
pub row_answers : (table u v : List ℕ) (entry period : ℕ) (finding : Finding) → row_test table u v entry period finding ≡ true
    → AlwaysAnswers table u v (tree_answer entry period finding)
unfolding tree_outcome
row_answers table u v entry period finding h names answer after room T =
    let (R, accepts, repeats, found) = row_holds table u v entry period finding h in
    (tree_determined (accepted R) u v names answer (tree_answer entry period finding) after (names_after finding names)
    (subst (λ (o : Outcome Rule). TreeAnswers o u v names answer after) (as_blank ∙ accepts) T)
    (record {
      walk = record { entry = entry; period = period; repeat = repeats; finding = finding; found = found };
      answers = refl;
      leaves = refl;
    })).0
  where
    blank : List ℕ
    blank = replicate name_room 0

    as_blank : judge_questions name_room table u v names ≡ judge_questions name_room table u v blank
    as_blank =
        with_room name_room table u v names room
        ∙ sym (with_room name_room table u v blank (omega (arith, length-replicate {A = ℕ} name_room 0)))

-- what is computed of a row, and that the row then holds
abbrev Computes : Example → Type 0
Computes (starts table bytes) = start_outcome table (replicate record_room 0) ≡ accepted bytes
Computes (steps table a bytes outcome) = step_outcome table a bytes (replicate record_room 0) ≡ outcome
Computes (judges table u v entry period finding) = row_test table u v entry period finding ≡ true
Computes (refuses table u v number) = tree_outcome table u v (replicate name_room 0) ≡ refused number

computed_holds : (x : Example) → Computes x → Holds x
computed_holds (starts table bytes) h = h
computed_holds (steps table a bytes outcome) h = h
computed_holds (judges table u v entry period finding) h = row_holds table u v entry period finding h
computed_holds (refuses table u v number) h = h

-- every row holds
pub examples_hold : Every Holds examples
unfolding row_test ones ones_in size labels disjoint strictly_inside nodes_fit is_tree by_number accepting_map stable_map
    host_from host members_from members tags record_of rank hosted_in planted decoded is_record read_tree
    letter_questions start_outcome step_under step_outcome ask_walk walk_questions judge_questions tree_outcome table_a table_b table_c examples
examples_hold = every_weaker Computes Holds examples computed_holds
    (refl, (refl, (refl, (refl, (refl, (refl, (refl, (refl, (refl, (refl, (refl, (refl, (refl, tt)))))))))))))
