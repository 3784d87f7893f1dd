-- Demand 3, from the two contracts: the tree theorem for the one judge, the lasso theorem for the other. And what the contract of both
-- judges says beside it.
use mathlib.Core.Path.{◌≡◌, refl, sym, ◌∙◌, subst}
use mathlib.Core.List.{List}
use Prim.Native.Nat.{ℕ}
use Rattle.base.specs.Outcome.{Outcome, accepted}
use Rattle.rule.specs.Rule.{Rule}
use Rattle.table.specs.Table.{read_rule}
use Rattle.word.specs.Walk.{SameLetters}
use Rattle.word.proofs.JudgeQuestions.{Accepted, accepted_call}
use Rattle.word.proofs.SameAlong.{along_spellings, verdicts_along}
use Rattle.plain.specs.PlainCall.{scratch_length, plain_outcome, PlainAnswers, PlainCall}
use Rattle.plain.specs.declared.judge.PlainAnswer.{PlainAnswer}
use Rattle.plain.proofs.PlainVerdict.{plain_decides, plain_determined, plain_number}
use Rattle.treejudge.specs.JudgeCall.{name_room, tree_outcome, Judged, TreeAnswers, TreeCall}
use Rattle.treejudge.specs.declared.judge.TreeAnswer.{TreeAnswer}
use Rattle.treejudge.proofs.TreeVerdict.{tree_decides, tree_determined, tree_number}
use Rattle.agree.specs.Agreement.{Right, Demand3}
use Rattle.agree.specs.BothCall.{BothAnswer, BothDetermined, BothNumbers}
use Rattle.agree.specs.declared.both.BothAnswers.{BothAnswers}

-- RIGHT VERDICTS

-- an accepted call of the tree judge: the rule that the table is read as, and what is judged
pub record TreeAccepted (table u v names : List ℕ) (answer : TreeAnswer) (after : List ℕ) : Type 0 where
  pub rule : Rule
  pub about : Accepted table v rule
  pub judged : Judged rule u v names answer after

pub tree_accepted : (table u v names : List ℕ) (answer : TreeAnswer) (after : List ℕ)
    → TreeAnswers (tree_outcome table u v names) u v names answer after → answer.number ≡ 0 → TreeAccepted table u v names answer after
unfolding tree_outcome
tree_accepted table u v names answer after T zero =
    let (R, e) = (tree_number table u v names answer after T).accepts.0 zero in
    record {
      rule = R;
      about = accepted_call name_room table u v names R e;
      judged = subst (λ (o : Outcome Rule). TreeAnswers o u v names answer after) e T;
    }

-- its verdict is right
pub tree_right : (table u v names : List ℕ) (tree : TreeAnswer) (after : List ℕ)
    → TreeAnswers (tree_outcome table u v names) u v names tree after → tree.number ≡ 0 → Right table u v tree.verdict
tree_right table u v names tree after T zero =
    let A = tree_accepted table u v names tree after T zero in
    let about = A.about in
    (A.rule, about.read, tree_decides A.rule u v names tree after A.judged about.well about.sets about.nonempty)

-- and so is that of an accepted call of the plain judge
pub plain_right : (table u v scratch : List ℕ) (plain : PlainAnswer)
    → PlainAnswers (plain_outcome table u v scratch) u v plain → plain.number ≡ 0 → Right table u v plain.verdict
unfolding plain_outcome
plain_right table u v scratch plain P zero =
    let (R, e) = (plain_number table u v scratch plain P).accepts.0 zero in
    let a = accepted_call scratch_length table u v scratch R e in
    (R, a.read, plain_decides R u v plain (subst (λ (o : Outcome Rule). PlainAnswers o u v plain) e P) a.well a.nonempty)

-- a table is read as one rule
pub rules_one : (table : List ℕ) (R S : Rule) → read_rule table ≡ accepted R → read_rule table ≡ accepted S → R ≡ S
rules_one table R S reads other = let both : accepted R ≡ accepted S = sym reads ∙ other in cc

-- and two verdicts that are right of it, on walks with the same letters, are the same
pub right_one : (table u v u' v' : List ℕ) {a b : ℕ} → SameLetters u v u' v' → Right table u v a → Right table u' v' b → a ≡ b
right_one table u v u' v' same (R, reads, d) (S, other, e) =
    verdicts_along (along_spellings R u v u' v' same) d (rw (rules_one table R S reads other) e)

-- DEMAND 3

pub demand_3 : Demand3
unfolding Demand3
demand_3 table u v names scratch tree after plain T P =
    let on-tree = tree_right table u v names tree after T in
    let on-plain = plain_right table u v scratch plain P in
    record { tree_right = on-tree; plain_right = on-plain; same = λ s t. right_one table u v u v (λ p. refl) (on-tree s) (on-plain t) }

-- BOTH JUDGES SIDE BY SIDE

-- what the two contracts allow
pub both_answer : (table u v names scratch : List ℕ) {answers : BothAnswers} {names' scratch' : List ℕ}
    → TreeCall table u v names answers.tree names' → PlainCall table u v scratch answers.plain scratch'
    → BothAnswer table u v names scratch answers names' scratch'
unfolding Demand3
both_answer table u v names scratch {answers} {names'} T (P, clears) = record {
  tree = T;
  plain = P;
  clears = clears;
  agreement = demand_3 table u v names scratch answers.tree names' answers.plain T P;
}

pub both_numbers : BothNumbers
both_numbers table u v names scratch answers names' scratch' B =
    (tree_number table u v names answers.tree names' B.tree, plain_number table u v scratch answers.plain B.plain)

pub both_determined : BothDetermined
both_determined table u v names scratch a b names' names'' scratch' scratch'' A B =
    let (trees, buffers) = tree_determined (tree_outcome table u v names) u v names a.tree b.tree names' names'' A.tree B.tree in
    let plains = plain_determined (plain_outcome table u v scratch) u v a.plain b.plain A.plain B.plain in
    ((λ i. record { tree = trees i; plain = plains i }), buffers, A.clears ∙ sym B.clears)
