-- Two accepted tables under one walk (document 02, U10). They are equal on it by their bytes just if their rules are; and a judge's questions
-- go the same way for both.
use mathlib.Core.Path.{◌≡◌, refl, ap}
use mathlib.Core.Bool.{Bool, true, false, ◌&&◌}
use mathlib.Core.List.{List, []}
use Prim.Native.Nat.{ℕ}
use native.Mathlib.Omega.{arith}
use lib.Dec.{leb}
use lib.ListN.{length}
use Rattle.base.specs.Lists.{all_below}
use Rattle.base.specs.Outcome.{Outcome, refused, accepted, ask, ◌then◌}
use Rattle.base.proofs.Every.{every_weaker}
use Rattle.rule.specs.Rule.{Rule, square_of}
use Rattle.table.specs.Cells.{letter_cells}
use Rattle.table.specs.Table.{read_rule}
use Rattle.table.proofs.LetterCells.{same_numbers, same_headers, same_cells}
use Rattle.word.specs.EqualOn.{EqualOn, EqualBytesOn, EqualByBytes}
use Rattle.word.specs.Judging.{walk_questions, judge_questions}
use Rattle.word.specs.Walk.{lengths_fit, ask_walk}
use Rattle.word.proofs.WalkQuestions.{fit_nonempty}

-- BYTES AND RULES

pub equal_by_bytes : EqualByBytes
equal_by_bytes table table' u v R S e e' = (to, from)
  where
    to : EqualBytesOn table table' u v → EqualOn R S u v
    to bytes =
        let (states, letters, sets, start) = same_numbers table table' R S e e' bytes.header in
        let cell : (a : ℕ) → letter_cells table a ≡ letter_cells table' a → square_of R a ≡ square_of S a =
        λ a. (same_cells table table' R S e e' bytes.header a).0 in
        record {
          states = states;
          letters = letters;
          sets = sets;
          start = start;
          lead = every_weaker _ _ u cell bytes.lead;
          tail = every_weaker _ _ v cell bytes.tail;
        }

    from : EqualOn R S u v → EqualBytesOn table table' u v
    from rules =
        let header = same_headers table table' R S e e' (rules.states, rules.letters, rules.sets, rules.start) in
        let cell : (a : ℕ) → square_of R a ≡ square_of S a → letter_cells table a ≡ letter_cells table' a =
        λ a. (same_cells table table' R S e e' header a).1 in
        record { header = header; lead = every_weaker _ _ u cell rules.lead; tail = every_weaker _ _ v cell rules.tail }

-- THE QUESTIONS

-- they go the same way for accepted tables with as many letters and buffers of one length: both calls are refused by one number, or each is
-- accepted with its own rule, and the tail is not empty. So what holds of two such outcomes holds of the two calls.
pub same_way : (needed : ℕ) (table table' u v buffer buffer' : List ℕ) (R S : Rule) → read_rule table ≡ accepted R → read_rule table' ≡ accepted S
    → R.letters ≡ S.letters → length buffer ≡ length buffer' → (P : Outcome Rule → Outcome Rule → Type 0)
    → ((number : ℕ) → (number ≡ 0 → ⊥) → P (refused number) (refused number)) → ((v ≡ [] → ⊥) → P (accepted R) (accepted S))
    → P (judge_questions needed table u v buffer) (judge_questions needed table' u v buffer')
unfolding judge_questions walk_questions ask_walk
same_way needed table table' u v buffer buffer' R S reads reads' letters long P both-refused both-accepted =
    rw (reads, reads', ← below, ← room) (go (lengths_fit u v) refl (both R.letters) (leb needed (length buffer)))
  where
    both : ℕ → Bool
    both m = all_below m u && all_below m v

    below : both R.letters ≡ both S.letters
    below = ap both letters

    room : leb needed (length buffer) ≡ leb needed (length buffer')
    room = ap (leb needed) long

    go : (fit : Bool) → lengths_fit u v ≡ fit → (below room : Bool)
        → P (ask fit 7 (ask below 8 (accepted R)) then λ R. ask room 10 (accepted R))
        (ask fit 7 (ask below 8 (accepted S)) then λ S. ask room 10 (accepted S))
    go true fits true true = both-accepted (fit_nonempty u v fits)
    go true fits true false = both-refused 10 (λ e. omega arith)
    go true fits false room = both-refused 8 (λ e. omega arith)
    go false fits below room = both-refused 7 (λ e. omega arith)
