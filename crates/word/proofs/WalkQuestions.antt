-- Questions 7 and 8: what is known of an accepted walk, and what follows.
use mathlib.Core.Path.{◌≡◌, refl, ap}
use mathlib.Core.Bool.{Bool, true, false, ◌&&◌}
use mathlib.Core.List.{List, []}
use Prim.Native.Nat.{ℕ, ◌≤◌, ◌<◌}
use native.Mathlib.Omega.{arith}
use lib.Dec.{leb}
use lib.ListN.{length}
use borrow.Author.Tests.{leb-true}
use Rattle.base.specs.Outcome.{Outcome, accepted, ask, number_of, ◌then◌}
use Rattle.base.specs.Lists.{Every, all_below}
use Rattle.base.proofs.Accepted.{of_accepted, asked}
use Rattle.base.proofs.Logic.{and_in}
use Rattle.base.proofs.Every.{below_every}
use Rattle.word.specs.Walk.{max_length, lengths_fit, ask_walk, walk_outcome}

-- question 7 answered yes
pub lengths_in : (u v : List ℕ) → lengths_fit u v ≡ true → (length u ≤ max_length) × (1 ≤ length v) × (length v ≤ max_length)
unfolding lengths_fit
lengths_in u v fit =
    let (short, tail) = and_in (leb (length u) max_length) _ fit in
    let (filled, short') = and_in (leb 1 (length v)) _ tail in
    (leb-true (length u) max_length short, leb-true 1 (length v) filled, leb-true (length v) max_length short')

-- so the tail is not empty
pub fit_nonempty : (u v : List ℕ) → lengths_fit u v ≡ true → v ≡ [] → ⊥
fit_nonempty u v fit e =
    let (_, filled, _) = lengths_in u v fit in
    let none : length v ≡ 0 = ap length e in
    omega arith

-- the number 0 means that both questions were answered yes
both_yes : (fit below : Bool) → number_of (ask fit 7 (ask below 8 (accepted (tt {0})))) ≡ 0 → (fit ≡ true) × (below ≡ true)
both_yes true true h = (refl, refl)
both_yes true false h = absurd (omega arith)
both_yes false below h = absurd (omega arith)

module _ (m : ℕ) (u v : List ℕ) where
  -- so for a walk
  answers_yes : number_of (walk_outcome m u v) ≡ 0 → (lengths_fit u v ≡ true) × ((all_below m u && all_below m v) ≡ true)
  unfolding walk_outcome ask_walk
  answers_yes h = both_yes (lengths_fit u v) (all_below m u && all_below m v) h

  -- an accepted walk has a lead-in and a tail of allowed length, and letters below m
  pub walk_accepted : number_of (walk_outcome m u v) ≡ 0
      → (length u ≤ max_length) × (1 ≤ length v) × (length v ≤ max_length) × Every (λ a. a < m) u × Every (λ a. a < m) v
  walk_accepted h =
      let (fit, below) = answers_yes h in
      let (short, filled, short') = lengths_in u v fit in
      let (in_lead, in_tail_lem) = and_in (all_below m u) _ below in
      (short, filled, short', below_every m u in_lead, below_every m v in_tail_lem)

  -- an accepted walk has letters below m
  pub walk_letters : walk_outcome m u v ≡ accepted tt → Every (λ a. a < m) u × Every (λ a. a < m) v
  unfolding walk_outcome ask_walk
  walk_letters e = of_accepted (λ _. Every (λ a. a < m) u × Every (λ a. a < m) v) (walk_outcome m u v) tt e
      (asked _ (lengths_fit u v) 7 _ λ _.
      asked _ (all_below m u && all_below m v) 8 (accepted tt) λ below.
      let (lead, tail) = and_in (all_below m u) _ below in
      (below_every m u lead, below_every m v tail))

  -- what follows comes behind the two questions
  pub walk_then : {A : Type 0} (next : Outcome A) → ask_walk m u v next ≡ (walk_outcome m u v then λ _. next)
  unfolding walk_outcome ask_walk
  walk_then next = go (lengths_fit u v) (all_below m u && all_below m v)
    where
      go : (fit below : Bool) → ask fit 7 (ask below 8 next) ≡ (ask fit 7 (ask below 8 (accepted (tt {0}))) then λ _. next)
      go true true = refl
      go true false = refl
      go false below = refl
