-- The answers of the two judges as the text of a job: each way that their questions can go.
use mathlib.Core.Path.{◌≡◌, refl, sym, ◌∙◌, ap, subst}
use mathlib.Core.Bool.{Bool, true, false, cond}
use mathlib.Core.List.{List}
use Prim.Native.Nat.{ℕ, ◌+◌, ◌≤◌}
use native.Mathlib.Omega.{arith}
use lib.Dec.{eqb}
use lib.ListN.{length, take, drop, length-append}
use lib.Seq.{take_at}
use Rattle.base.specs.Outcome.{Outcome, refused, accepted}
use Rattle.base.specs.LentBuffer.{stored}
use Rattle.base.proofs.Numbers.{IfRefused, NotZero}
use Rattle.rule.specs.Rule.{Rule}
use Rattle.word.specs.Judging.{walk_questions}
use Rattle.word.proofs.JudgeQuestions.{with_room}
use Rattle.word.proofs.RefusalNumbers.{walk_number}
use Rattle.history.specs.Finding.{Finding, yes_node, no_node}
use Rattle.plain.specs.PlainCall.{scratch_length, plain_outcome, PlainAnswers}
use Rattle.plain.specs.declared.judge.PlainAnswer.{PlainAnswer}
use Rattle.treejudge.specs.JudgeCall.{name_room, tree_outcome, tree_answer, names_after, TreeAnswers}
use Rattle.treejudge.specs.declared.judge.TreeAnswer.{TreeAnswer}
use Rattle.job.specs.JobCall.{yes_no, finding_verdict, five_lines, refusal_text, text_of, PartsAnswers}
use Rattle.job.specs.Inner.TextCode.{finding_of}
use Rattle.job.specs.declared.call.Text.{Text}

-- THE FINDING

-- the first line says the verdict of the node that the answer names
pub finding_says : (answer : TreeAnswer) (names : List ℕ) → yes_no (finding_verdict (finding_of answer names)) ≡ yes_no answer.verdict
unfolding yes_no finding_verdict finding_of
finding_says answer names = go (eqb answer.verdict 1)
  where
    go : (t : Bool) → yes_no (finding_verdict (cond t (yes_node (take answer.length names)) no_node)) ≡ cond t (yes_no 1) (yes_no 0)
    go true = refl
    go false = refl

-- the numbers of a name in a buffer that has room for it
name_stored : (w names : List ℕ) → take (length w) (stored 0 w names) ≡ w
unfolding stored
name_stored w names = take_at w (drop (0 + length w) names) (length w) refl

name_fits : (w names : List ℕ) → length w ≤ length (stored 0 w names)
unfolding stored
name_fits w names = omega (arith, length-append w (drop (0 + length w) names))

-- number, entry and period of an answer
answer_parts : (entry period : ℕ) (finding : Finding)
    → ((tree_answer entry period finding).number ≡ 0) × ((tree_answer entry period finding).entry ≡ entry) × ((tree_answer entry period finding).period ≡ period)
unfolding tree_answer
answer_parts entry period (yes_node w) = (refl, refl, refl)
answer_parts entry period no_node = (refl, refl, refl)

-- the node that a tree judge's answer names is the node found
finding_same : (entry period : ℕ) (finding : Finding) (names : List ℕ)
    → finding_of (tree_answer entry period finding) (names_after finding names) ≡ finding
unfolding finding_of tree_answer names_after
finding_same entry period (yes_node w) names = ap yes_node (name_stored w names)
finding_same entry period no_node names = refl

-- THE ANSWERS

module _ (u v names : List ℕ) (answer : TreeAnswer) (after : List ℕ) where
  -- a name that is answered fits the buffer
  answer_fits : (o : Outcome Rule) → TreeAnswers o u v names answer after → answer.verdict ≡ 1 → answer.length ≤ length after
  unfolding tree_answer names_after
  answer_fits (refused number) (is, _) one = absurd (omega (arith, ap (λ (x : TreeAnswer). x.verdict) is))
  answer_fits (accepted R) J one = go J.walk.finding J.answers J.leaves
    where
      go : (f : Finding) → answer ≡ tree_answer J.walk.entry J.walk.period f → after ≡ names_after f names → answer.length ≤ length after
      go (yes_node w) is left = rw (left, is) (name_fits w names)
      go no_node is left = absurd (omega (arith, ap (λ (x : TreeAnswer). x.verdict) is))

  -- a number other than 0 is a refusal's
  answer_refused : (o : Outcome Rule) (text : Text) → TreeAnswers o u v names answer after → (answer.number ≡ 0 → ⊥)
      → text ≡ text_of (refusal_text answer.number) → PartsAnswers o u v text
  answer_refused (refused number) text (is, _) some says =
      says ∙ ap (λ (x : ℕ). text_of (refusal_text x)) (ap (λ (x : TreeAnswer). x.number) is)
  answer_refused (accepted R) text J some says =
      absurd (some (ap (λ (x : TreeAnswer). x.number) J.answers ∙ (answer_parts J.walk.entry J.walk.period J.walk.finding).0))

  -- the number 0 is none, and the five lines say what both judges answer
  answer_judged : (o : Outcome Rule) (text : Text) (plain : PlainAnswer) → TreeAnswers o u v names answer after → PlainAnswers o u v plain
      → IfRefused NotZero o → answer.number ≡ 0
      → text ≡ text_of (five_lines answer.entry answer.period (finding_of answer after) plain.verdict) → PartsAnswers o u v text
  answer_judged (refused number) text plain (is, _) P some none says = absurd (some (sym (ap (λ (x : TreeAnswer). x.number) is) ∙ none))
  answer_judged (accepted R) text plain J (_, decides) some none says =
      let W = J.walk in
      let (_, entry, period) = answer_parts W.entry W.period W.finding in
      record {
        walk = W;
        plain = plain.verdict;
        decides = decides;
        says = says ∙ rw (J.answers, J.leaves, finding_same W.entry W.period W.finding names, entry, period);
      }

-- a job's parts: with a name buffer and scratch bytes of the lengths needed, a judge asks no more than is asked of a job
module _ (table u v names : List ℕ) (tree : TreeAnswer) (after : List ℕ) (T : TreeAnswers (tree_outcome table u v names) u v names tree after)
    (room : length names ≡ name_room) where
  tree_answers : TreeAnswers (walk_questions table u v) u v names tree after
  unfolding tree_outcome
  tree_answers = subst (λ (o : Outcome Rule). TreeAnswers o u v names tree after) (with_room name_room table u v names (omega arith)) T

  pub parts_fit : length after ≡ name_room → tree.verdict ≡ 1 → tree.length ≤ name_room
  parts_fit kept one = omega (arith, answer_fits u v names tree after (walk_questions table u v) tree_answers one)

  pub parts_refused : (text : Text) → (tree.number ≡ 0 → ⊥) → text ≡ text_of (refusal_text tree.number)
      → PartsAnswers (walk_questions table u v) u v text
  parts_refused text some says = answer_refused u v names tree after (walk_questions table u v) text tree_answers some says

  pub parts_judged : (scratch : List ℕ) → length scratch ≡ scratch_length → (plain : PlainAnswer)
      → PlainAnswers (plain_outcome table u v scratch) u v plain → (text : Text) → tree.number ≡ 0
      → text ≡ text_of (five_lines tree.entry tree.period (finding_of tree after) plain.verdict)
      → PartsAnswers (walk_questions table u v) u v text
  unfolding plain_outcome
  parts_judged scratch size plain P text none says =
      let same = with_room scratch_length table u v scratch (omega arith) in
      answer_judged u v names tree after (walk_questions table u v) text plain tree_answers
      (subst (λ (o : Outcome Rule). PlainAnswers o u v plain) same P) (walk_number table u v) none says
