-- Letters compared one after the other: how the positions before the end of the first tail go round, and how many letters tell two
-- walks apart.
use mathlib.Core.Path.{◌≡◌, refl, sym, ◌∙◌, ap}
use mathlib.Core.Logic.{◌↔◌}
use mathlib.Core.Bool.{true, false}
use mathlib.Core.List.{List}
use Prim.Native.Nat.{ℕ, suc, ◌+◌, ◌-◌, ◌≤◌, ◌<◌, max}
use native.Mathlib.Omega.{arith}
use native.Mathlib.Nat.{add-zero}
use native.Mathlib.Decide.{dec_lt}
use lib.ListN.{length}
use borrow.Author.Tests.{lt-ltb, le-ltb}
use Rattle.std.specs.Prelude.{IsTrue}
use Rattle.base.proofs.Logic.{clash}
use Rattle.word.specs.Walk.{lengths_fit, letter_at, SameLetters}
use Rattle.word.proofs.Periods.{Periodic}
use Rattle.word.proofs.Positions.{letter_again}
use Rattle.word.proofs.WalkQuestions.{lengths_in}
use Rattle.spelling.specs.Inner.Comparing.{wrapped}
use Rattle.spelling.proofs.FineWilf.{periods_agree}

-- THE LETTERS OF ONE WALK

module _ (u v : List ℕ) where
  -- the walk goes on from the position p as from a position before the end of the first tail
  pub record GoesOn (p position : ℕ) : Type 0 where
    pub before : position < length u + length v
    pub letters : (q : ℕ) → letter_at u v (p + q) ≡ letter_at u v (position + q)

  -- there
  pub goes_here : {p position : ℕ} → GoesOn p position → letter_at u v p ≡ letter_at u v position
  goes_here {p} {position} g = ap (letter_at u v) (sym (add-zero p)) ∙ g.letters 0 ∙ ap (letter_at u v) (add-zero position)

  -- at the beginning
  pub goes_from : 1 ≤ length v → GoesOn 0 0
  goes_from some = record { before = omega arith; letters = λ q. refl }

  -- and behind each letter
  pub goes_next : 1 ≤ length v → (p position : ℕ) → GoesOn p position → GoesOn (p + 1) (wrapped position (length u) (length u + length v))
  unfolding wrapped
  goes_next some p position g = go (dec_lt (position + 1) (length u + length v))
    where
      shifted : (q : ℕ) → letter_at u v (p + 1 + q) ≡ letter_at u v (position + 1 + q)
      shifted q =
          let e : p + 1 + q ≡ p + suc q = omega arith in
          let z : position + 1 + q ≡ position + suc q = omega arith in
          ap (letter_at u v) e ∙ g.letters (suc q) ∙ ap (letter_at u v) (sym z)

      go : Dec (position + 1 < length u + length v) → GoesOn (p + 1) (wrapped position (length u) (length u + length v))
      go (yes l) = rw (lt-ltb (position + 1) (length u + length v) l) (record { before = l; letters = shifted })
      go (no l) = rw (le-ltb (position + 1) (length u + length v) (omega arith)) (record {
        before = omega arith;
        letters = λ q.
            let z : position + 1 + q ≡ length u + q + length v = omega (arith, g.before) in
            shifted q ∙ ap (letter_at u v) z ∙ letter_again u v (length u + q) (omega arith);
      })

-- TWO WALKS

-- they have the same letter at the first `count` positions
abbrev pub SameUpTo : List ℕ → List ℕ → List ℕ → List ℕ → ℕ → Type 0
SameUpTo u v u' v' count = (p : ℕ) → p < count → letter_at u v p ≡ letter_at u' v' p

-- letters that are the same up to here, and here
pub same_further : (u v u' v' : List ℕ) (count : ℕ) → SameUpTo u v u' v' count → letter_at u v count ≡ letter_at u' v' count
    → SameUpTo u v u' v' (count + 1)
same_further u v u' v' count same here p h = go (dec_lt p count)
  where
    go : Dec (p < count) → letter_at u v p ≡ letter_at u' v' p
    go (yes l) = same p l
    go (no l) = let e : p ≡ count = omega arith in rw e here

-- a position where they differ
pub differ_at : (u v u' v' : List ℕ) (p : ℕ) → (letter_at u v p ≡ letter_at u' v' p → ⊥) → IsTrue false ↔ SameLetters u v u' v'
differ_at u v u' v' p other = (clash refl, λ same. absurd (other (same p)))

-- behind both lead-ins the letters have the tails' lengths as periods, so these letters tell
pub agree_up_to : (u v u' v' : List ℕ) → lengths_fit u v ≡ true → lengths_fit u' v' ≡ true
    → SameUpTo u v u' v' (max (length u) (length u') + length v + length v' - 1) → IsTrue true ↔ SameLetters u v u' v'
agree_up_to u v u' v' fit fit' same = (λ _ p. go p (dec_lt p from), λ _. refl)
  where
    from : ℕ
    from = max (length u) (length u')

    periodic : (w x : List ℕ) → length w ≤ from → Periodic (length x) (λ q. letter_at w x (from + q))
    periodic w x h q =
        let e : from + (q + length x) ≡ from + q + length x = omega arith in
        ap (letter_at w x) e ∙ letter_again w x (from + q) (omega arith)

    go : (p : ℕ) → Dec (p < from) → letter_at u v p ≡ letter_at u' v' p
    go p (yes l) = same p (let some = (lengths_in u v fit).1 in omega arith)
    go p (no l) =
        let e : p ≡ from + (p - from) = omega arith in
        ap (letter_at u v) e
        ∙ periods_agree (length v) (length v') (λ q. letter_at u v (from + q)) (λ q. letter_at u' v' (from + q))
        (lengths_in u v fit).1 (lengths_in u' v' fit').1 (periodic u v (omega arith)) (periodic u' v' (omega arith))
        (λ q h. same (from + q) (omega arith)) (p - from)
        ∙ ap (letter_at u' v') (sym e)
