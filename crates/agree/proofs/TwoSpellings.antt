-- Two spellings of one walk (document 02, U6): the same verdicts and the same node; entry and period may differ.
use mathlib.Core.Path.{◌≡◌, refl, sym, ◌∙◌, ap, ap₂, subst}
use mathlib.Core.Logic.{inl, inr}
use mathlib.Core.List.{List, [], ◌∷◌}
use Prim.Native.Nat.{ℕ}
use native.Mathlib.Omega.{arith}
use Rattle.base.specs.Outcome.{Outcome, refused, accepted}
use Rattle.rule.specs.Rule.{Rule}
use Rattle.word.specs.Walk.{rounds, SameLetters}
use Rattle.word.proofs.Positions.{filled, letter_unrolled}
use Rattle.word.proofs.SameAlong.{along_spellings}
use Rattle.spelling.specs.SameCall.{same_outcome, SameAnswers}
use Rattle.spelling.specs.declared.same.SameAnswer.{SameAnswer}
use Rattle.history.specs.Finding.{Finding, yes_node, no_node}
use Rattle.history.proofs.Walk.SameAlong.{found_along}
use Rattle.treejudge.specs.JudgeCall.{tree_answer, names_after, Judged}
use Rattle.treejudge.specs.declared.judge.TreeAnswer.{TreeAnswer}
use Rattle.treejudge.proofs.Examples.{row_test, row_answers}
use Rattle.treejudge.proofs.TreeVerdict.{found_one}
use Rattle.agree.specs.Agreement.{Right}
use Rattle.agree.specs.Spellings.{JudgeSays, tree_says, plain_says, TwoSpellings, SameWalkVerdicts, SameNode, table_d, EntryPeriodDiffer}
use Rattle.agree.proofs.Agreeing.{tree_accepted, tree_right, plain_right, rules_one, right_one}

-- VERDICTS

-- what a judge says is right
says_right : {table u v : List ℕ} {verdict : ℕ} → JudgeSays table u v verdict → Right table u v verdict
says_right {table} {u} {v} (tree_says names answer after T zero is) =
    subst (λ x. Right table u v x) is (tree_right table u v names answer after T zero)
says_right {table} {u} {v} (plain_says scratch answer P zero is) =
    subst (λ x. Right table u v x) is (plain_right table u v scratch answer P zero)

pub two_spellings : TwoSpellings
two_spellings table u v u' v' verdict verdict' same says says' = right_one table u v u' v' same (says_right says) (says_right says')

-- the answer 1 of `same_walk`
one_means_same : (o : Outcome (Unit {0})) (u v u' v' : List ℕ) (answer : SameAnswer) → SameAnswers o u v u' v' answer → answer.same ≡ 1
    → SameLetters u v u' v'
one_means_same (refused number) u v u' v' answer is one =
    let zero : answer.same ≡ 0 = ap (λ (x : SameAnswer). x.same) is in absurd (omega arith)
one_means_same (accepted _) u v u' v' answer (_, inl (_, same)) one = same
one_means_same (accepted _) u v u' v' answer (_, inr (zero, _)) one = absurd (omega arith)

pub same_walk_verdicts : SameWalkVerdicts
same_walk_verdicts table u v u' v' answer verdict verdict' allowed one =
    two_spellings table u v u' v' verdict verdict' (one_means_same (same_outcome u v u' v') u v u' v' answer allowed one)

-- THE NODE

-- entry and period stand in the answer
own_numbers : {R : Rule} {u v names : List ℕ} {answer : TreeAnswer} {after : List ℕ} (J : Judged R u v names answer after)
    → answer ≡ tree_answer answer.entry answer.period J.walk.finding
unfolding tree_answer
own_numbers {R} {u} {v} {names} {answer} {after} J = go J.walk.finding J.answers
  where
    with : (f : Finding) → answer.entry ≡ J.walk.entry → answer.period ≡ J.walk.period
        → answer ≡ tree_answer J.walk.entry J.walk.period f → answer ≡ tree_answer answer.entry answer.period f
    with f entry period is = is ∙ sym (ap₂ (λ e p. tree_answer e p f) entry period)

    go : (f : Finding) → answer ≡ tree_answer J.walk.entry J.walk.period f → answer ≡ tree_answer answer.entry answer.period f
    go (yes_node w) is = with (yes_node w) (ap (λ (x : TreeAnswer). x.entry) is) (ap (λ (x : TreeAnswer). x.period) is) is
    go no_node is = with no_node (ap (λ (x : TreeAnswer). x.entry) is) (ap (λ (x : TreeAnswer). x.period) is) is

pub same_node_lem : SameNode
same_node_lem table u v u' v' names names' answer answer' after after' same T zero T' zero' =
    let A = tree_accepted table u v names answer after T zero in
    let B = tree_accepted table u' v' names' answer' after' T' zero' in
    let J = A.judged in
    let rules : B.rule ≡ A.rule = rules_one table B.rule A.rule B.about.read A.about.read in
    let K : Judged A.rule u' v' names' answer' after' = subst (λ R. Judged R u' v' names' answer' after') rules B.judged in
    let W = J.walk in
    let X = K.walk in
    let one : X.finding ≡ W.finding =
    found_one A.rule u' v' X.entry X.period X.finding W.finding X.found
    (found_along (along_spellings A.rule u v u' v' same) (filled v A.about.nonempty) (filled v' B.about.nonempty)
    W.repeat X.repeat W.finding W.found) in
    record {
      finding = W.finding;
      answers = own_numbers J;
      answers' = own_numbers K ∙ ap (λ (f : Finding). tree_answer answer'.entry answer'.period f) one;
      leaves = J.leaves;
      leaves' = K.leaves ∙ ap (λ (f : Finding). names_after f names') one;
    }

-- ENTRY AND PERIOD

pub entry_period_differ : EntryPeriodDiffer
unfolding rounds row_test table_d tree_answer
entry_period_differ = record {
  same = λ p. sym (letter_unrolled [] (0 ∷ []) 1 2 (omega arith) (omega arith) p);
  first = row_answers table_d [] (0 ∷ []) 1 2 (yes_node []) refl;
  second = row_answers table_d (0 ∷ []) (0 ∷ 0 ∷ []) 0 1 (yes_node []) refl;
}
