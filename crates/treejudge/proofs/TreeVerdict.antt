-- What the tree judge's contract says: its verdict decides whether the walk keeps the rule, its number tells whether the call is accepted,
-- and the contract leaves no choice of the answer or of the buffer. Two rules with the same cells along a walk are judged alike.
use mathlib.Core.Path.{◌≡◌, refl, sym, ◌∙◌, ap}
use mathlib.Core.Logic.{inl, inr}
use mathlib.Core.List.{List, []}
use Prim.Native.Nat.{ℕ, ◌≤◌}
use lib.ListN.{length}
use Rattle.base.specs.Outcome.{Outcome, refused, accepted, number_of}
use Rattle.rule.specs.Rule.{Rule}
use Rattle.rule.specs.WellFormed.{WellFormed}
use Rattle.word.specs.Keeps.{Keeps}
use Rattle.word.specs.Verdict.{Decides}
use Rattle.word.proofs.RefusalNumbers.{judge_tells}
use Rattle.word.proofs.SameAlong.{SameAlong}
use Rattle.history.specs.Rounds.{round_tree}
use Rattle.history.specs.Finding.{Finding, yes_node, no_node, Found, WalkJudged}
use Rattle.history.proofs.Repeat.FirstRepeats.{repeat_unique}
use Rattle.history.proofs.Verdict.FirstWitness.{first_unique}
use Rattle.history.proofs.Walk.SameAlong.{found_along, repeat_along}
use Rattle.history.proofs.Theorem.TreeTheorem.{tree_theorem}
use Rattle.treejudge.specs.JudgeCall.{name_room, tree_outcome, tree_answer, names_after, Judged, TreeAnswers, TreeNumber}
use Rattle.treejudge.specs.declared.judge.TreeAnswer.{TreeAnswer}

-- DEMAND 3, THE TREE JUDGE'S PART

-- what is judged of a walk decides whether it keeps the rule: whatever says 1 for a finding with a node, and 0 for one without
pub walk_decides : (R : Rule) (u v : List ℕ) (J : WalkJudged R u v) → WellFormed R → 1 ≤ R.sets → (v ≡ [] → ⊥)
    → (verdict : Finding → ℕ) → ((w : List ℕ) → verdict (yes_node w) ≡ 1) → verdict no_node ≡ 0
    → Decides (verdict J.finding) (Keeps R u v)
walk_decides R u v J well sets nonempty verdict one none = go J.finding J.found
  where
    go : (f : Finding) → Found R u v J.entry J.period f → Decides (verdict f) (Keeps R u v)
    go (yes_node w) found =
        inl (one w, (tree_theorem R well sets u v nonempty J.entry J.period J.repeat).0 (w, found.witness))
    go no_node no-witness = inr (
      none,
      λ keeps. let (w, W) = (tree_theorem R well sets u v nonempty J.entry J.period J.repeat).1 keeps in no-witness w W,
    )

-- so an accepted call says yes just if the walk keeps the rule, and no otherwise
pub tree_decides : (R : Rule) (u v names : List ℕ) (answer : TreeAnswer) (after : List ℕ) → Judged R u v names answer after
    → WellFormed R → 1 ≤ R.sets → (v ≡ [] → ⊥) → Decides answer.verdict (Keeps R u v)
unfolding tree_answer
tree_decides R u v names answer after J well sets nonempty =
    rw J.answers (walk_decides R u v J.walk well sets nonempty
    (λ f. (tree_answer J.walk.entry J.walk.period f).verdict) (λ w. refl) refl)

-- THE NUMBER

found_number : (entry period : ℕ) (f : Finding) → (tree_answer entry period f).number ≡ 0
unfolding tree_answer
found_number entry period (yes_node w) = refl
found_number entry period no_node = refl

tree_answers : (o : Outcome Rule) (u v names : List ℕ) (answer : TreeAnswer) (after : List ℕ) → TreeAnswers o u v names answer after
    → answer.number ≡ number_of o
tree_answers (refused number) u v names answer after (is, _) = ap (λ (x : TreeAnswer). x.number) is
tree_answers (accepted R) u v names answer after J =
    ap (λ (x : TreeAnswer). x.number) J.answers ∙ found_number J.walk.entry J.walk.period J.walk.finding

pub tree_number : TreeNumber
unfolding tree_outcome
tree_number table u v names answer after T =
    rw (tree_answers (tree_outcome table u v names) u v names answer after T) (judge_tells name_room table u v names)

-- THE CONTRACT DETERMINES ANSWER AND BUFFER

-- two right findings are the same
pub found_one : (R : Rule) (u v : List ℕ) (entry period : ℕ) (f g : Finding) → Found R u v entry period f → Found R u v entry period g → f ≡ g
found_one R u v entry period (yes_node w) (yes_node p) F G = ap (λ (x : List ℕ). yes_node x) (first_unique R u v entry period w p F G)
found_one R u v entry period (yes_node w) no_node F none = absurd (none w F.witness)
found_one R u v entry period no_node (yes_node p) none G = absurd (none p G.witness)
found_one R u v entry period no_node no_node F G = refl

-- what is judged of a walk is determined
pub walk_one : {R : Rule} {u v : List ℕ} (J K : WalkJudged R u v)
    → (J.entry ≡ K.entry) × (J.period ≡ K.period) × (J.finding ≡ K.finding)
walk_one {R} {u} {v} J K =
    let (e, p) = repeat_unique (round_tree R u v) J.entry J.period K.entry K.period J.repeat K.repeat in
    (e, p, found_one R u v K.entry K.period J.finding K.finding (rw (e, p) at J.found) K.found)

-- two calls that are accepted with one rule and one walk give one answer and have one finding, with whatever buffers
pub judged_one : {R : Rule} {u v names names' : List ℕ} {a b : TreeAnswer} {x y : List ℕ} (J : Judged R u v names a x)
    (K : Judged R u v names' b y) → (a ≡ b) × (J.walk.finding ≡ K.walk.finding)
judged_one J K =
    let (e, p, f) = walk_one J.walk K.walk in
    (J.answers ∙ rw (e, p, f) (sym K.answers), f)

pub tree_determined : (o : Outcome Rule) (u v names : List ℕ) (a b : TreeAnswer) (x y : List ℕ)
    → TreeAnswers o u v names a x → TreeAnswers o u v names b y → (a ≡ b) × (x ≡ y)
tree_determined (refused number) u v names a b x y (p, kept) (q, kept') = (p ∙ sym q, kept ∙ sym kept')
tree_determined (accepted R) u v names a b x y J K =
    let (same, f) = judged_one J K in
    (same, J.leaves ∙ ap (λ (g : Finding). names_after g names) f ∙ sym K.leaves)

-- TWO RULES ALONG ONE WALK

-- what is judged under one rule is what is judged under the other
pub judged_along : {R S : Rule} {u v names : List ℕ} {answer : TreeAnswer} {after : List ℕ} → SameAlong R S u v u v → 1 ≤ length v
    → Judged R u v names answer after → Judged S u v names answer after
judged_along same filled J =
    let W = J.walk in
    let repeat = repeat_along same filled W.repeat in
    record {
      walk = record {
        entry = W.entry;
        period = W.period;
        repeat = repeat;
        finding = W.finding;
        found = found_along same filled filled W.repeat repeat W.finding W.found;
      };
      answers = J.answers;
      leaves = J.leaves;
    }
