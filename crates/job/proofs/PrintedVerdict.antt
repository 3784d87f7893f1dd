-- What the printed text of a job says: the tree theorem for its first line, the lasso theorem for its last.
use mathlib.Core.Path.{◌≡◌, refl, sym, ◌∙◌, ap}
use mathlib.Core.Logic.{◌⊎◌, inl, inr, ⊎_elim, ◌↔◌}
use mathlib.Core.List.{List, ◌++◌, append_assoc}
use Prim.Native.Nat.{ℕ}
use native.Mathlib.Omega.{arith}
use lib.ListN.{get_or}
use Rattle.base.specs.Outcome.{Outcome, refused, accepted}
use Rattle.base.proofs.Numbers.{IfRefused, NotZero}
use Rattle.rule.specs.Rule.{Rule}
use Rattle.word.specs.Judging.{walk_questions}
use Rattle.word.specs.Keeps.{Keeps}
use Rattle.word.specs.Verdict.{Decides}
use Rattle.word.proofs.JudgeQuestions.{Accepted, accepted_walk}
use Rattle.word.proofs.RefusalNumbers.{walk_number}
use Rattle.word.proofs.Verdicts.{decides_one}
use Rattle.history.specs.Finding.{Finding}
use Rattle.plain.proofs.PlainVerdict.{plain_decides}
use Rattle.treejudge.proofs.TreeVerdict.{walk_decides}
use Rattle.job.specs.Ascii.{ascii}
use Rattle.job.specs.JobCall.{Parts, job_parts, job_outcome, digits, line, yes_no, finding_verdict, node_text, five_lines, refusal_text, text_of, JobJudged, PartsAnswers, SplitAnswers, JobAnswer}
use Rattle.job.specs.PrintedVerdict.{AcceptedJob, Begins, TextTells, JobNumber, Says, PrintedVerdict, Prints, PrintedYesNo}
use Rattle.job.specs.declared.call.Text.{Text}
use Rattle.job.proofs.Splitting.{parts_number}

-- A JUDGED JOB SAYS WHAT IS SO

module _ (R : Rule) (table u v : List ℕ) (a : Accepted table v R) (text : Text) (J : JobJudged R u v text) where
  -- the first line's verdict is right, by the tree theorem
  first_decides : Decides (finding_verdict J.walk.finding) (Keeps R u v)
  unfolding finding_verdict
  first_decides = walk_decides R u v J.walk a.well a.sets a.nonempty finding_verdict (λ w. refl) refl

  -- the last line's, by the lasso theorem
  last_decides : Decides J.plain (Keeps R u v)
  last_decides = plain_decides R u v (record { number = 0; verdict = J.plain }) (refl, J.decides) a.well a.nonempty

  judged_says : Says R u v text
  judged_says = record {
    walk = J.walk;
    plain = J.plain;
    lines = J.says;
    first = first_decides;
    last = decides_one first_decides last_decides;
  }

-- THE TWO WAYS OF A JOB

-- it is refused by a number, or its parts and its rule are judged
pub data JobWay (job : List ℕ) (text : Text) : Type 0 where
  refused_way : (number : ℕ) → job_outcome job ≡ refused number → (number ≡ 0 → ⊥) → text ≡ text_of (refusal_text number) → JobWay job text
  judged_way : (p : Parts) (R : Rule) → AcceptedJob job p R → walk_questions p.table p.lead p.tail ≡ accepted R
      → JobJudged R p.lead p.tail text → JobWay job text

pub job_way : (job : List ℕ) (text : Text) → JobAnswer job text → JobWay job text
unfolding JobAnswer job_outcome
job_way job text answers = split (job_parts job) refl (parts_number job) answers
  where
    judge : (p : Parts) → job_parts job ≡ accepted p → (o : Outcome Rule) → walk_questions p.table p.lead p.tail ≡ o
        → IfRefused NotZero o → PartsAnswers o p.lead p.tail text → JobWay job text
    judge p is (refused number) asks some says = refused_way number (rw (is, asks)) some says
    judge p is (accepted R) asks some J = judged_way p R (rw (is, asks)) asks J

    split : (o : Outcome Parts) → job_parts job ≡ o → IfRefused (λ number. number ≡ 12) o → SplitAnswers o text → JobWay job text
    split (refused number) is twelve says = refused_way number (rw is) (λ z. omega (arith, twelve, z)) says
    split (accepted p) is twelve S =
        judge p is (walk_questions p.table p.lead p.tail) refl (walk_number p.table p.lead p.tail) S

-- no job goes both
one_way : {A : Type 0} {number : ℕ} {a : A} → (o : Outcome A) → o ≡ refused number → o ≡ accepted a → ⊥
one_way o refuses accepts = let z : ◌≡◌ {A = ℕ} 0 1 = cc in omega arith

-- an accepted job has one rule and one walk
one_job : (P : Rule → Parts → Type 0) (job : List ℕ) (p q : Parts) (R S : Rule) → AcceptedJob job p R → AcceptedJob job q S → P S q → P R p
one_job P job p q R S A B x =
    let both : ◌≡◌ {A = Outcome (Parts × Rule)} (accepted (q, S)) (accepted (p, R)) = sym B ∙ A in
    let pair : ◌≡◌ {A = Parts × Rule} (q, S) (p, R) = cc in
    rw (ap (λ (z : Parts × Rule). z.0) pair, ap (λ (z : Parts × Rule). z.1) pair) at x

pub printed_verdict : PrintedVerdict
unfolding PrintedVerdict
printed_verdict job p R text A answers = go (job_way job text answers)
  where
    go : JobWay job text → Says R p.lead p.tail text
    go (refused_way number is some says) = absurd (one_way (job_outcome job) is A)
    go (judged_way q S is asks J) =
        one_job (λ X x. Says X x.lead x.tail text) job p q R S A is
        (judged_says S q.table q.lead q.tail (accepted_walk q.table q.lead q.tail S asks) text J)

-- THE SAME IN LETTERS

abbrev PrintsYes : Text → Type 0
PrintsYes = Prints (ascii "verdict yes\n") (ascii "\nplain yes\n")

abbrev PrintsNo : Text → Type 0
PrintsNo = Prints (ascii "verdict no\n") (ascii "\nplain no\n")

-- a newline goes to the piece behind it
newline_on : (a b c d e : List ℕ) → a ++ (b ++ ((c ++ (d ++ ascii "\n")) ++ e)) ≡ (a ++ (b ++ (c ++ d))) ++ (ascii "\n" ++ e)
newline_on a b c d e = rw (
  append_assoc c (d ++ ascii "\n") e,
  append_assoc d (ascii "\n") e,
  append_assoc a (b ++ (c ++ d)) (ascii "\n" ++ e),
  append_assoc b (c ++ d) (ascii "\n" ++ e),
  append_assoc c d (ascii "\n" ++ e),
)

-- behind the first line, up to the newline before the last
middle : ℕ → ℕ → Finding → List ℕ
middle entry period f = line (ascii "entry ") (digits entry) ++ (line (ascii "period ") (digits period) ++ (ascii "node " ++ node_text f))

-- the five lines by their two verdicts
split_lines : (entry period : ℕ) (f : Finding) (plain : ℕ) → five_lines entry period f plain
    ≡ line (ascii "verdict ") (yes_no (finding_verdict f)) ++ (middle entry period f ++ (ascii "\nplain " ++ (yes_no plain ++ ascii "\n")))
unfolding five_lines line middle
split_lines entry period f plain = ap (line (ascii "verdict ") (yes_no (finding_verdict f)) ++◌)
    (newline_on (line (ascii "entry ") (digits entry)) (line (ascii "period ") (digits period)) (ascii "node ") (node_text f)
    (line (ascii "plain ") (yes_no plain)))

module _ {R : Rule} {u v : List ℕ} {text : Text} (S : Says R u v text) where
  abbrev between : List ℕ
  between = middle S.walk.entry S.walk.period S.walk.finding

  by_verdict : text ≡ text_of (line (ascii "verdict ") (yes_no (finding_verdict S.walk.finding))
      ++ (between ++ (ascii "\nplain " ++ (yes_no (finding_verdict S.walk.finding) ++ ascii "\n"))))
  by_verdict = S.lines ∙ ap text_of (split_lines S.walk.entry S.walk.period S.walk.finding S.plain ∙ rw S.last)

  prints_yes : finding_verdict S.walk.finding ≡ 1 → PrintsYes text
  unfolding line yes_no
  prints_yes is = (between, rw is at by_verdict)

  prints_no : finding_verdict S.walk.finding ≡ 0 → PrintsNo text
  unfolding line yes_no
  prints_no is = (between, rw is at by_verdict)

-- a refusal's text begins with another letter than a verdict's
no_verdict : (text : Text) (number : ℕ) → text ≡ text_of (refusal_text number) → Begins (ascii "verdict ") text → ⊥
unfolding text_of refusal_text line
no_verdict text number says (rest, is) =
    let z : ◌≡◌ {A = ℕ} 114 118 = ap (λ (t : Text). get_or t.bytes 0 0) (sym says ∙ is) in omega arith

-- five lines begin with it
begins_verdict : (entry period : ℕ) (f : Finding) (plain : ℕ) → Begins (ascii "verdict ") (text_of (five_lines entry period f plain))
unfolding five_lines line
begins_verdict entry period f plain = (_, ap text_of (append_assoc (ascii "verdict ") (yes_no (finding_verdict f) ++ ascii "\n") _))

pub job_number : JobNumber
job_number job text answers = go (job_way job text answers)
  where
    go : JobWay job text → TextTells job text
    go (refused_way number is some says) = record {
      accepts = ((λ begins. absurd (no_verdict text number says begins)), (λ (p, R, A). absurd (one_way (job_outcome job) is A)));
      refuses = λ other also.
          let same : refused number ≡ refused other = sym is ∙ also in
          let e : number ≡ other = cc in
          rw (← e) (says, some);
    }
    go (judged_way p R A _ J) = record {
      accepts = ((λ _. (p, R, A)), (λ _. rw J.says (begins_verdict J.walk.entry J.walk.period J.walk.finding J.plain)));
      refuses = λ number is. absurd (one_way (job_outcome job) is A);
    }

-- no text says both: the letters behind `verdict ` differ
not_both : (text : Text) → PrintsYes text → PrintsNo text → ⊥
unfolding text_of
not_both text y n = let z : ◌≡◌ {A = ℕ} 121 110 = ap (λ (t : Text). get_or t.bytes 8 0) (sym y.1 ∙ n.1) in omega arith

-- so each is said just if it is so
module _ {Y N P : Type 0} (clash : Y → N → ⊥) where
  said_right : (Y × P) ⊎ (N × (P → ⊥)) → (Y ↔ P) × (N ↔ (P → ⊥))
  said_right (inl (y, p)) = (((λ _. p), (λ _. y)), ((λ n. absurd (clash y n)), (λ none. absurd (none p))))
  said_right (inr (n, none)) = (((λ y. absurd (clash y n)), (λ p. absurd (none p))), ((λ _. none), (λ _. n)))

-- a text that is refused says neither
yes_begins : (text : Text) → PrintsYes text → Begins (ascii "verdict ") text
yes_begins text (between, is) = (ascii "yes\n" ++ (between ++ ascii "\nplain yes\n"), is)

no_begins : (text : Text) → PrintsNo text → Begins (ascii "verdict ") text
no_begins text (between, is) = (ascii "no\n" ++ (between ++ ascii "\nplain no\n"), is)

abbrev KeptBy : Rule → Parts → Type 0
KeptBy R p = Keeps R p.lead p.tail

pub printed_yes_no : PrintedYesNo
unfolding PrintedVerdict PrintedYesNo
printed_yes_no job text answers = go (job_way job text answers)
  where
    go : JobWay job text → (PrintsYes text ↔ ((p : Parts) × (R : Rule) × AcceptedJob job p R × KeptBy R p))
        × (PrintsNo text ↔ ((p : Parts) × (R : Rule) × AcceptedJob job p R × (KeptBy R p → ⊥)))
    go (refused_way number is some says) = (
      ((λ y. absurd (no_verdict text number says (yes_begins text y))), (λ (p, R, A, _). absurd (one_way (job_outcome job) is A))),
      ((λ n. absurd (no_verdict text number says (no_begins text n))), (λ (p, R, A, _). absurd (one_way (job_outcome job) is A))),
    )
    go (judged_way p R A _ _) =
        let S = printed_verdict job p R text A answers in
        let (said-yes, said-no) = said_right (not_both text) (⊎_elim (λ x. inl (prints_yes S x.0, x.1)) (λ x. inr (prints_no S x.0, x.1)) S.first) in (
          ((λ y. (p, R, A, said-yes.0 y)), (λ (q, Q, B, keeps). said-yes.1 (one_job KeptBy job p q R Q A B keeps))),
          ((λ n. (p, R, A, said-no.0 n)), (λ (q, Q, B, none). said-no.1 (one_job (λ X x. KeptBy X x → ⊥) job p q R Q A B none))),
        )
