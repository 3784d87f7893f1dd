-- Walks spelled anew: the spellings that document 02 names have the same letters.
use mathlib.Core.Path.{◌≡◌, refl, sym, ◌∙◌, ap}
use mathlib.Core.List.{List, [], ◌∷◌, ◌++◌, append-nil}
use Prim.Native.Nat.{ℕ, zero, suc, ◌+◌, ◌-◌, ◌%◌, ◌≤◌, ◌<◌}
use native.Mathlib.Omega.{arith}
use native.Mathlib.Nat.{mod-lt}
use native.Mathlib.Decide.{dec_lt}
use lib.ListN.{length, get_or, length-append, get_or-append}
use lib.Seq.{get_or-append-add}
use Rattle.word.specs.Walk.{letter_at, rounds, SameLetters}
use Rattle.word.proofs.Periods.{reduced}
use Rattle.word.proofs.Positions.{letter_prefix, letter_again, in_tail_lem, letter_unrolled}
use Rattle.spelling.specs.Spellings.{TailRepeated, LettersMoved}

-- THE TAIL SEVERAL TIMES

rounds_none : (times : ℕ) → rounds times [] ≡ []
unfolding rounds
rounds_none zero = refl
rounds_none (suc times) = rounds_none times

pub tail_repeated : TailRepeated
unfolding rounds
tail_repeated u [] times some p = ap (λ x. letter_at u x p) (sym (rounds_none times))
tail_repeated u (a ∷ v) times some p =
    sym (letter_unrolled u (a ∷ v) 0 times some (omega arith) p) ∙ ap (λ x. letter_at x (rounds times (a ∷ v)) p) (append-nil u)

-- LETTERS MOVED

module _ (u x y : List ℕ) where
  -- where the longer lead-in ends
  from : ℕ
  from = length u + length x

  lead_ends : length (u ++ x) ≡ from
  unfolding from
  lead_ends = length-append u x

  -- before it the letters are those of u and x
  in_lead : (p : ℕ) → p < from → Dec (p < length u) → letter_at u (x ++ y) p ≡ letter_at (u ++ x) (y ++ x) p
  unfolding from
  in_lead p h (yes l) =
      letter_prefix u (x ++ y) p l ∙ sym (get_or-append u x 0 p l) ∙ sym (letter_prefix (u ++ x) (y ++ x) p (omega (arith, lead_ends)))
  in_lead p h (no l) =
      let q : ℕ = p - length u in
      let e : p ≡ length u + q = omega arith in
      let near : q < length x = omega arith in
      rw e (in_tail_lem u (x ++ y) q (omega (arith, length-append x y)) ∙ get_or-append x y 0 q near ∙ sym (get_or-append-add u x q 0)
      ∙ sym (letter_prefix (u ++ x) (y ++ x) (length u + q) (omega (arith, lead_ends))))

  -- behind it those of y, then those of x
  in_round : (q : ℕ) → q < length x + length y → Dec (q < length y) → letter_at u (x ++ y) (from + q) ≡ get_or (y ++ x) q 0
  unfolding from
  in_round q h (yes l) =
      let e : length u + length x + q ≡ length u + (length x + q) = omega arith in
      rw e (in_tail_lem u (x ++ y) (length x + q) (omega (arith, length-append x y)) ∙ get_or-append-add x y q 0 ∙ sym (get_or-append y x 0 q l))
  in_round q h (no l) =
      let r : ℕ = q - length y in
      let e : length u + length x + q ≡ length u + r + length (x ++ y) = omega (arith, length-append x y) in
      let z : q ≡ length y + r = omega arith in
      let near : r < length x = omega arith in
      rw e (letter_again u (x ++ y) (length u + r) (omega arith) ∙ in_tail_lem u (x ++ y) r (omega (arith, length-append x y))
      ∙ get_or-append x y 0 r near ∙ sym (get_or-append-add y x r 0)) ∙ ap (λ t. get_or (y ++ x) t 0) (sym z)

  -- and so on round
  moved : 1 ≤ length x → SameLetters u (x ++ y) (u ++ x) (y ++ x)
  unfolding from
  moved some p = go (dec_lt p from)
    where
      width : ℕ
      width = length x + length y

      f : ℕ → ℕ
      f q = letter_at u (x ++ y) (from + q)

      g : ℕ → ℕ
      g q = letter_at (u ++ x) (y ++ x) (from + q)

      f_again : (q : ℕ) → f (q + width) ≡ f q
      f_again q =
          let e : from + (q + width) ≡ from + q + length (x ++ y) = omega (arith, length-append x y) in
          ap (letter_at u (x ++ y)) e ∙ letter_again u (x ++ y) (from + q) (omega arith)

      g_again : (q : ℕ) → g (q + width) ≡ g q
      g_again q =
          let e : from + (q + width) ≡ from + q + length (y ++ x) = omega (arith, length-append y x) in
          ap (letter_at (u ++ x) (y ++ x)) e ∙ letter_again (u ++ x) (y ++ x) (from + q) (omega (arith, lead_ends))

      first : (q : ℕ) → q < width → f q ≡ g q
      first q h =
          let e : from + q ≡ length (u ++ x) + q = omega (arith, lead_ends) in
          in_round q h (dec_lt q (length y)) ∙ sym (in_tail_lem (u ++ x) (y ++ x) q (omega (arith, length-append y x)))
          ∙ ap (letter_at (u ++ x) (y ++ x)) (sym e)

      go : Dec (p < from) → letter_at u (x ++ y) p ≡ letter_at (u ++ x) (y ++ x) p
      go (yes l) = in_lead p l (dec_lt p (length u))
      go (no l) =
          let q : ℕ = p - from in
          let e : p ≡ from + q = omega arith in
          ap (letter_at u (x ++ y)) e ∙ reduced width f f_again q ∙ first (q % width) (mod-lt q (omega arith)) ∙ sym (reduced width g g_again q)
          ∙ ap (letter_at (u ++ x) (y ++ x)) (sym e)

pub letters_moved : LettersMoved
letters_moved u [] y p = rw (append-nil u, append-nil y)
letters_moved u (a ∷ x) y p = moved u (a ∷ x) y (omega arith) p
