-- The letters of a walk by position (document 01, "Walks and verdicts"): u first, then v over and over. A walk stays
-- the same if rounds of its tail are moved into its prefix, and if several rounds are taken for one.
use mathlib.Core.Path.{◌≡◌, refl, sym, ap, ◌∙◌}
use mathlib.Core.List.{List, [], ◌∷◌, ◌++◌}
use Prim.Native.Nat.{ℕ, zero, suc, ◌+◌, ◌-◌, ◌*◌, ◌%◌, ◌≤◌, ◌<◌}
use native.Mathlib.Omega.{arith}
use native.Mathlib.Nat.{zero-add, zero-mul, mod-lt, mod-eq_of_lt, add-mod_left, add-mod_right, add-mul-mod_self_right, mul-pos, mod-mod_of_dvd, dvd-mul_left}
use native.Mathlib.Decide.{dec_lt}
use lib.ListN.{length, get_or, length-append, get_or-append}
use lib.Seq.{get_or-append-add}
use borrow.Author.Tests.{lt-ltb, le-ltb}
use Rattle.base.specs.Lists.{Every}
use Rattle.base.proofs.Every.{every_at}
use Rattle.word.specs.Walk.{letter_at, rounds}

-- THE LETTER AT A POSITION

-- within the prefix: its letter
pub letter_prefix : (u v : List ℕ) (p : ℕ) → p < length u → letter_at u v p ≡ get_or u p 0
unfolding letter_at
letter_prefix u v p h = rw (lt-ltb p (length u) h)

-- p letters behind the prefix: the tail's letter at p modulo its length
pub letter_behind : (u v : List ℕ) (p : ℕ) → letter_at u v (length u + p) ≡ get_or v (p % length v) 0
unfolding letter_at
letter_behind u v p =
    let q : length u + p - length u ≡ p = omega arith in
    rw (le-ltb (length u + p) (length u) (omega arith), q)

-- u, then r rounds, then the place p in v
pub letter_round : (u v : List ℕ) (r p : ℕ) → p < length v → letter_at u v (length u + r * length v + p) ≡ get_or v p 0
letter_round u v r p h =
    let q : length u + r * length v + p ≡ length u + (p + r * length v) = omega arith in
    rw (q, letter_behind, add-mul-mod_self_right, mod-eq_of_lt h)

-- behind the lead-in a letter comes again a tail further on
pub letter_again : (u v : List ℕ) (p : ℕ) → length u ≤ p → letter_at u v (p + length v) ≡ letter_at u v p
letter_again u v p h =
    let q : ℕ = p - length u in
    let e : p ≡ length u + q = omega arith in
    let e' : p + length v ≡ length u + (q + length v) = omega arith in
    ap (letter_at u v) e' ∙ letter_behind u v (q + length v) ∙ ap (λ (x : ℕ). get_or v x 0) (add-mod_right q (length v))
    ∙ sym (letter_behind u v q) ∙ ap (letter_at u v) (sym e)

-- the first tail's letters, by their places in the tail and by their positions
pub in_tail_lem : (u v : List ℕ) (q : ℕ) → q < length v → letter_at u v (length u + q) ≡ get_or v q 0
in_tail_lem u v q h = letter_behind u v q ∙ ap (λ (x : ℕ). get_or v x 0) (mod-eq_of_lt h)

pub letter_tail : (u v : List ℕ) (p : ℕ) → length u ≤ p → p < length u + length v → letter_at u v p ≡ get_or v (p - length u) 0
letter_tail u v p h l =
    let e : p ≡ length u + (p - length u) = omega arith in
    ap (letter_at u v) e ∙ in_tail_lem u v (p - length u) (omega arith)

-- a property of all letters of a walk
pub every_letter : (P : ℕ → Type 0) (u v : List ℕ) → 1 ≤ length v → Every P u → Every P v → (p : ℕ) → P (letter_at u v p)
every_letter P u v filled lead tail p = go (dec_lt p (length u))
  where
    go : Dec (p < length u) → P (letter_at u v p)
    go (yes h) = rw (letter_prefix u v p h) (every_at P u p 0 lead h)
    go (no h) =
        let q : ℕ = p - length u in
        let e : p ≡ length u + q = omega arith in
        rw (e, letter_behind u v q) (every_at P v (q % length v) 0 tail (mod-lt q filled))

-- ROUNDS

-- a tail that is not empty has a letter
pub filled : (v : List ℕ) → (v ≡ [] → ⊥) → 1 ≤ length v
filled [] nonempty = absurd (nonempty refl)
filled (a ∷ v) nonempty = omega arith

-- the length of r rounds
pub length_rounds : (r : ℕ) (v : List ℕ) → length (rounds r v) ≡ r * length v
unfolding rounds
length_rounds zero v = sym (zero-mul (length v))
length_rounds (suc r) v = length-append v (rounds r v) ∙ omega (arith, length_rounds r v)

-- the letter at place q of r rounds
pub get_or_rounds : (r : ℕ) (v : List ℕ) (q : ℕ) → q < r * length v → get_or (rounds r v) q 0 ≡ get_or v (q % length v) 0
unfolding rounds
get_or_rounds zero v q h = absurd (omega arith)
get_or_rounds (suc r) v q h = go (get_or_rounds r v) (dec_lt q (length v))
  where
    go : ((p : ℕ) → p < r * length v → get_or (rounds r v) p 0 ≡ get_or v (p % length v) 0) → Dec (q < length v)
        → get_or (v ++ rounds r v) q 0 ≡ get_or v (q % length v) 0
    go fewer (yes l) = rw (get_or-append v (rounds r v) 0 q l, mod-eq_of_lt l)
    go fewer (no l) =
        let p : ℕ = q - length v in
        let e : q ≡ length v + p = omega arith in
        ap (λ x. get_or (v ++ rounds r v) x 0) e ∙ get_or-append-add v (rounds r v) p 0 ∙ fewer p (omega arith)
        ∙ ap (λ x. get_or v x 0) (sym (add-mod_left (length v) p) ∙ ap (◌% length v) (sym e))

-- THE SAME WALK

-- the walk u v v v … is also the walk with prefix u and i rounds of v, and with j rounds of v for its tail
pub letter_unrolled : (u v : List ℕ) (i j : ℕ) → 1 ≤ j → 1 ≤ length v → (p : ℕ)
    → letter_at (u ++ rounds i v) (rounds j v) p ≡ letter_at u v p
letter_unrolled u v i j turns filled p = go (dec_lt p (length u))
  where
    w : List ℕ
    w = u ++ rounds i v

    width : length w ≡ length u + i * length v
    width = length-append u (rounds i v) ∙ ap (length u +◌) (length_rounds i v)

    cyclic : (q : ℕ) → get_or (rounds j v) (q % length (rounds j v)) 0 ≡ get_or v (q % length v) 0
    cyclic q = rw length_rounds
        (get_or_rounds j v (q % (j * length v)) (mod-lt q (mul-pos turns filled))
        ∙ ap (λ x. get_or v x 0) (mod-mod_of_dvd (length v) q (dvd-mul_left (length v) j)))

    behind : (q : ℕ) → Dec (q < i * length v) → letter_at w (rounds j v) (length u + q) ≡ get_or v (q % length v) 0
    behind q (yes l) =
        letter_prefix w (rounds j v) (length u + q) (omega (arith, width))
        ∙ get_or-append-add u (rounds i v) q 0 ∙ get_or_rounds i v q l
    behind q (no l) =
        let r : ℕ = q - i * length v in
        let e : q ≡ r + i * length v = omega arith in
        let s : length u + q ≡ length w + r = omega (arith, width) in
        rw s (letter_behind w (rounds j v) r ∙ cyclic r
        ∙ ap (λ x. get_or v x 0) (sym (add-mul-mod_self_right r i (length v)) ∙ ap (◌% length v) (sym e)))

    go : Dec (p < length u) → letter_at w (rounds j v) p ≡ letter_at u v p
    go (yes l) =
        letter_prefix w (rounds j v) p (omega (arith, width)) ∙ get_or-append u (rounds i v) 0 p l ∙ sym (letter_prefix u v p l)
    go (no l) =
        let e : p ≡ length u + (p - length u) = omega arith in
        ap (letter_at w (rounds j v)) e ∙ behind (p - length u) (dec_lt (p - length u) (i * length v))
        ∙ sym (letter_behind u v (p - length u)) ∙ ap (letter_at u v) (sym e)

-- the walk has the letters w from position p on
abbrev pub Reads : List ℕ → List ℕ → ℕ → List ℕ → Type 0
Reads u v p w = (q : ℕ) → q < length w → letter_at u v (p + q) ≡ get_or w q 0

-- at first u and any number of rounds
pub reads_lead : (u v : List ℕ) (i : ℕ) → 1 ≤ length v → Reads u v 0 (u ++ rounds i v)
reads_lead u v i h q l =
    rw zero-add
    (sym (letter_unrolled u v i 1 (omega arith) h q) ∙ letter_prefix (u ++ rounds i v) (rounds 1 v) q l)

-- then any number of further rounds
pub reads_rounds : (u v : List ℕ) (i j : ℕ) → 1 ≤ j → 1 ≤ length v → Reads u v (length (u ++ rounds i v)) (rounds j v)
reads_rounds u v i j t h q l =
    sym (letter_unrolled u v i j t h (length (u ++ rounds i v) + q)) ∙ letter_behind (u ++ rounds i v) (rounds j v) q
    ∙ ap (λ x. get_or (rounds j v) x 0) (mod-eq_of_lt l)
