-- The first letters of an endless word, and those of a walk: its lead-in with some rounds, and the rounds from the end of a round on.
use mathlib.Core.Path.{◌≡◌, refl, ◌∙◌, ap}
use mathlib.Core.List.{List, [], ◌∷◌, ◌++◌}
use Prim.Native.Nat.{ℕ, zero, suc, ◌+◌, ◌*◌, ◌≤◌, ◌<◌}
use native.Mathlib.Omega.{arith}
use native.Mathlib.Nat.{zero-add}
use native.Mathlib.Decide.{dec_lt}
use lib.ListN.{length, get_or, length-append, get_or-append}
use lib.Seq.{ext_get_or, get_or-append_seam}
use Rattle.word.specs.Walk.{letter_at, rounds}
use Rattle.word.proofs.Positions.{length_rounds, reads_lead, reads_rounds}

-- the first d letters of an endless word
unfoldable pub stretch : (ℕ → ℕ) → ℕ → List ℕ
stretch letter zero = []
stretch letter (suc d) = stretch letter d ++ (letter d ∷ [])

pub length_stretch : (letter : ℕ → ℕ) (d : ℕ) → length (stretch letter d) ≡ d
unfolding stretch
length_stretch letter zero = refl
length_stretch letter (suc d) = omega (arith, length-append (stretch letter d) (letter d ∷ []), length_stretch letter d)

pub get_or_stretch : (letter : ℕ → ℕ) (d q : ℕ) → q < d → get_or (stretch letter d) q 0 ≡ letter q
unfolding stretch
get_or_stretch letter zero q h = absurd (omega arith)
get_or_stretch letter (suc d) q h = go (dec_lt q d) (get_or_stretch letter d q)
  where
    go : Dec (q < d) → (q < d → get_or (stretch letter d) q 0 ≡ letter q) → get_or (stretch letter d ++ (letter d ∷ [])) q 0 ≡ letter q
    go (yes l) before = get_or-append (stretch letter d) (letter d ∷ []) 0 q (omega (arith, length_stretch letter d)) ∙ before l
    go (no l) before =
        let e : q ≡ length (stretch letter d) = omega (arith, length_stretch letter d) in
        let e' : d ≡ q = omega arith in
        rw e (get_or-append_seam (stretch letter d) (letter d) [] 0) ∙ ap letter (e')

-- the letters of a list
stretch_list : (letter : ℕ → ℕ) (w : List ℕ) → ((q : ℕ) → q < length w → letter q ≡ get_or w q 0) → stretch letter (length w) ≡ w
stretch_list letter w same =
    ext_get_or 0 (stretch letter (length w)) w (length_stretch letter (length w))
    (λ q h. let l : q < length w = omega (arith, length_stretch letter (length w)) in get_or_stretch letter (length w) q l ∙ same q l)

-- THE LETTERS OF A WALK

-- the letters up to the end of a round
pub length_lead : (u v : List ℕ) (r : ℕ) → length (u ++ rounds r v) ≡ length u + r * length v
length_lead u v r = length-append u (rounds r v) ∙ ap (length u +◌) (length_rounds r v)

module _ (u v : List ℕ) (filled : 1 ≤ length v) (r : ℕ) where
  pub stretch_lead : stretch (letter_at u v) (length u + r * length v) ≡ u ++ rounds r v
  stretch_lead = rw (← length_lead u v r)
      (stretch_list (letter_at u v) (u ++ rounds r v) (λ q l. rw zero-add at (reads_lead u v r filled q l)))

  -- and those of j rounds from there on
  pub stretch_rounds : (j : ℕ) → 1 ≤ j → stretch (λ d. letter_at u v (length u + r * length v + d)) (j * length v) ≡ rounds j v
  stretch_rounds j h = rw (← length_rounds j v)
      (stretch_list _ (rounds j v) (λ q l. rw (← length_lead u v r) (reads_rounds u v r j h filled q l)))
