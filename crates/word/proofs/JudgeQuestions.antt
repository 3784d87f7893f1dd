-- The questions to a table and a walk, and those of a judge: each way that they can go, and what is known where they accept a rule.
use mathlib.Core.Path.{◌≡◌}
use mathlib.Core.Bool.{◌&&◌}
use mathlib.Core.List.{List, []}
use Prim.Native.Nat.{ℕ, ◌≤◌}
use borrow.Author.Tests.{le-leb}
use lib.Dec.{leb}
use lib.ListN.{length}
use Rattle.base.specs.Lists.{all_below}
use Rattle.base.specs.Outcome.{refused, accepted, ◌then◌}
use Rattle.base.proofs.Accepted.{IfAccepted, itself, of_accepted, asked, followed, then_accepted}
use Rattle.rule.specs.Rule.{Grid, Rule}
use Rattle.rule.specs.WellFormed.{WellFormed}
use Rattle.table.specs.Table.{read_rule}
use Rattle.table.specs.declared.header.Header.{Header}
use Rattle.table.proofs.Asked.{within_limits, RuleRead}
use Rattle.word.specs.Walk.{lengths_fit, ask_walk, walk_outcome}
use Rattle.word.specs.Inner.WalkLookups.{Lookups, lookups_after}
use Rattle.word.specs.Judging.{walk_questions, judge_questions}
use Rattle.word.specs.Inner.Prepared.{Prepared}
use Rattle.word.proofs.WalkQuestions.{fit_nonempty, walk_letters, walk_then}
use Rattle.word.proofs.WalkLookups.{walk_prepared}

-- what the questions to the table and to the walk say on yes
pub record Accepted (table v : List ℕ) (R : Rule) : Type 0 where
  pub read : read_rule table ≡ accepted R
  pub well : WellFormed R
  pub sets : 1 ≤ R.sets
  pub nonempty : v ≡ [] → ⊥

module _ (table u v : List ℕ) where
  -- QUESTION BY QUESTION

  -- 1 to 6
  pub walk_no_table : {number : ℕ} → read_rule table ≡ refused number → walk_questions table u v ≡ refused number
  unfolding walk_questions
  walk_no_table e = rw e

  module _ {header : Header} {cells : Grid} {words : List (List ℕ)} (r : RuleRead table header cells words) where
    behind : walk_questions table u v ≡ (walk_outcome header.letters u v then λ _. accepted r.rule)
    unfolding walk_questions
    behind = rw (r.reads, r.holds.numbers.letters) (walk_then r.rule.letters u v (accepted r.rule))

    -- 7 and 8
    pub walk_no : {number : ℕ} → walk_outcome header.letters u v ≡ refused number → walk_questions table u v ≡ refused number
    walk_no e = rw (behind, e)

    -- all are answered yes, and the walk is prepared once its letters have their look-ups
    pub walk_yes : walk_outcome header.letters u v ≡ accepted tt → (before : Lookups) {lookups : Lookups} → lookups ≡ lookups_after words u v before
        → (R : Rule) × (walk_questions table u v ≡ accepted R) × Prepared R header lookups u v
    walk_yes e before {lookups} made =
        let (lead, tail) = walk_letters header.letters u v e in
        (r.rule, rw (behind, e), walk_prepared r.holds u v lead tail before lookups made)

  -- AN ACCEPTED WALK

  walk_known : IfAccepted (Accepted table v) (walk_questions table u v)
  unfolding walk_questions ask_walk
  walk_known = followed (λ R. read_rule table ≡ accepted R) (Accepted table v) (read_rule table) _ (itself (read_rule table)) λ R is.
      asked (Accepted table v) (lengths_fit u v) 7 _ λ fit.
      asked (Accepted table v) (all_below R.letters u && all_below R.letters v) 8 _ λ _.
      let limits = within_limits table R is in
      record { read = is; well = limits.well; sets = limits.some_set; nonempty = fit_nonempty u v fit }

  pub accepted_walk : (R : Rule) → walk_questions table u v ≡ accepted R → Accepted table v R
  accepted_walk R e = of_accepted (Accepted table v) (walk_questions table u v) R e walk_known

-- A JUDGE

module _ (needed : ℕ) (table u v buffer : List ℕ) where
  -- with bytes enough for question 10 a judge asks no more than that
  pub with_room : needed ≤ length buffer → judge_questions needed table u v buffer ≡ walk_questions table u v
  unfolding judge_questions
  with_room h = rw (le-leb needed (length buffer) h) (then_accepted (walk_questions table u v))

  -- an accepted call
  pub accepted_call : (R : Rule) → judge_questions needed table u v buffer ≡ accepted R → Accepted table v R
  unfolding judge_questions
  accepted_call R e = of_accepted (Accepted table v) (judge_questions needed table u v buffer) R e
      (followed (Accepted table v) (Accepted table v) (walk_questions table u v) _ (walk_known table u v) λ R known.
      asked (Accepted table v) (leb needed (length buffer)) 10 (accepted R) λ _. known)
