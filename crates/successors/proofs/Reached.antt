-- What an answer of the look-up says of the rule, by members.
use mathlib.Core.Path.{◌≡◌, refl, sym, ◌∙◌, ap, subst}
use mathlib.Core.Bool.{Bool, true}
use mathlib.Core.Logic.{◌↔◌}
use mathlib.Core.List.{List}
use Prim.Native.Nat.{ℕ, suc, ◌%◌, ◌^◌, ◌<◌, ◌≤◌}
use native.Mathlib.Decide.{dec_lt}
use native.Mathlib.Omega.{arith}
use borrow.Author.Tests.{lt-ltb}
use lib.Dec.{ltb}
use lib.ListN.{get_or, get_or-eq_default}
use Rattle.base.specs.BitSet.{member, collect, image}
use Rattle.base.specs.Outcome.{Outcome, refused, accepted}
use Rattle.base.specs.Lists.{tabulate}
use Rattle.base.proofs.Accepted.{IfAccepted, asked}
use Rattle.base.proofs.BitSet.{empty_set, image_in, image_out, image_mod, some_member, member_none, member_collect}
use Rattle.base.proofs.Logic.{clash, never, and_both}
use Rattle.base.proofs.Tabulate.{length_tabulate, get_d_tabulate, tabulate_ext}
use Rattle.rule.specs.Limits.{max_sets}
use Rattle.rule.specs.Rule.{Rule, edge, edge_in, successors, successors_in}
use Rattle.rule.specs.WellFormed.{WellFormed}
use Rattle.rule.proofs.Edges.{edge_inside, edge_in_edge, edge_in_set}
use Rattle.table.specs.LetterQuestions.{letter_questions}
use Rattle.table.specs.Table.{in_range}
use Rattle.table.proofs.LetterAsked.{letter_accepted}
use Rattle.table.proofs.Ranges.{in_range_lem}
use Rattle.table.proofs.RoundTrip.{read_well_formed}
use Rattle.successors.specs.SuccessorsCall.{successors_outcome, successors_answer}
use Rattle.successors.specs.Reached.{LeadsTo, Reached, ReachedExactly, StatesFromN, every_state, Serves}
use Rattle.successors.proofs.Answers.{successors_number}

-- the members of an image under a relation between numbers below n
image_exact : (n : ℕ) (E : ℕ → ℕ → Bool) → ((q r : ℕ) → E q r ≡ true → r < n) → (s r : ℕ)
    → (member (image n E s) r ≡ true) ↔ LeadsTo n E s r
image_exact n E within s r = (
  (λ m. let (q, q_in, _, inside, e) = image_out n E s r m in (q, q_in, inside, e)),
  (λ (q, q_in, inside, e). image_in n E s q r q_in (within q r e) inside e),
)

module _ (R : Rule) (well : WellFormed R) (a : ℕ) where
  -- transitions lead to states of the rule
  to_state : (q r : ℕ) → edge R.grid a q r ≡ true → r < R.states
  to_state q r e = (edge_inside R well a q r e).2

  -- no transition is one of a set that the rule does not have
  no_set : (i s : ℕ) → R.sets ≤ i → successors_in R (suc i) a s ≡ 0
  unfolding successors_in
  no_set i s large = empty_set _ (λ r. never _ (λ m.
      let (q, _, _, _, e) = image_out R.states (edge_in R.grid (suc i) a) s r m in
      omega (arith, edge_in_set R well i a q r e)))

  -- the answer of an accepted call
  reached : (s : ℕ) → Reached R a s (successors_answer (accepted R) a s)
  unfolding successors_answer successors successors_in
  reached s = record {
    next = image_exact R.states (edge R.grid a) to_state s;
    by_set = λ i r small. subst (λ x. (member x r ≡ true) ↔ LeadsTo R.states (edge_in R.grid (suc i) a) s r)
        (sym (get_d_tabulate max_sets (λ i. successors_in R (suc i) a s) i 0 small))
        (image_exact R.states (edge_in R.grid (suc i) a) (λ q r e. to_state q r (edge_in_edge R.grid (suc i) a q r e)) s r);
    others = λ i large. go i large (dec_lt i max_sets);
  }
    where
      maps : List ℕ
      maps = tabulate max_sets (λ i. successors_in R (suc i) a s)

      go : (i : ℕ) → R.sets ≤ i → Dec (i < max_sets) → get_or maps i 0 ≡ 0
      go i large (yes small) = get_d_tabulate max_sets (λ i. successors_in R (suc i) a s) i 0 small ∙ no_set i s large
      go i large (no other) = get_or-eq_default maps 0 (omega (arith, length_tabulate max_sets (λ i. successors_in R (suc i) a s)))

-- THE THEOREMS

pub reached_exactly : ReachedExactly
unfolding successors_outcome
reached_exactly table a s answer e none =
    let (R, is) = (successors_number table a s).accepts.0 (rw e at none) in
    let (reads, small) = letter_accepted table a R is in
    (R, reads, small, rw (e, is) (reached R (read_well_formed table R reads).0 a s))

-- sets with the same members below n have the same image
same_image : (n : ℕ) (E : ℕ → ℕ → Bool) (s t : ℕ) → s % 2 ^ n ≡ t % 2 ^ n → image n E s ≡ image n E t
same_image n E s t e = sym (image_mod n E s) ∙ ap (image n E) e ∙ image_mod n E t

same_answer : (o : Outcome Rule) (a s t : ℕ) → IfAccepted (λ R. s % 2 ^ R.states ≡ t % 2 ^ R.states) o
    → successors_answer o a s ≡ successors_answer o a t
unfolding successors_answer successors successors_in
same_answer (refused number) a s t h = refl
same_answer (accepted R) a s t h = rw (
  same_image R.states (edge R.grid a) s t h,
  tabulate_ext max_sets _ _ (λ i _. same_image R.states (edge_in R.grid (suc i) a) s t h),
)

pub states_from_n : StatesFromN
unfolding successors_outcome letter_questions
states_from_n table a s t R reads same = same_answer (successors_outcome table a) a s t
    (rw reads (asked (λ R. s % 2 ^ R.states ≡ t % 2 ^ R.states) (ltb a R.letters) 8 (accepted R) (λ _. same)))

-- every bit stands
every_state_lem : (q : ℕ) → q < 16 → member every_state q ≡ true
unfolding collect
every_state_lem q small = member_collect 16 (λ q. true) q ∙ and_both (ltb q 16) true (lt-ltb q 16 small) refl

pub serves : Serves
serves table a answer e none =
    let (R, reads, _, exactly) = reached_exactly table a every_state answer e none in
    (R, reads, served R (read_well_formed table R reads) exactly)
  where
    served : (R : Rule) → WellFormed R × (in_range R.states R.letters R.sets ≡ true) → Reached R a every_state answer
        → (i : ℕ) → i < max_sets → (get_or answer.reached i 0 ≡ 0 → ⊥) ↔ ((q : ℕ) × (r : ℕ) × (edge_in R.grid (suc i) a q r ≡ true))
    served R (well, range) exactly i small = (
      (λ some. let (r, m) = some_member _ some in let (q, _, _, e) = (exactly.by_set i r small).0 m in (q, r, e)),
      (λ (q, r, e). λ empty.
          let q_in = (edge_inside R well a q r (edge_in_edge R.grid (suc i) a q r e)).1 in
          let inside = every_state_lem q (omega (arith, q_in, (in_range_lem range).states)) in
          clash (member_none r) (rw empty at ((exactly.by_set i r small).1 (q, q_in, inside, e)))),
    )
