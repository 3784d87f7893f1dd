-- The lines of a file, one after the other.
use Rattle.std.proofs.Common.{◌≡◌, refl, sym, ◌∙◌, ap, List, [], ◌∷◌, ℕ, suc, ◌+◌, ◌<◌, ◌≤◌, length, drop, take, get_or, length-drop, drop_of_length-le, add-one, ◌-◌, ◌⊎◌, inl, inr, Option, Some, None, MatchOption, Bor, Bool, true, false, not, cond, eqb, arith}
use Rattle.std.specs.List.{onto_first, starts_with, slice_range}
use Rattle.std.specs.Option.{unwrap_or}
use Rattle.std.proofs.Math.Seq.{take_all}
use Rattle.std.proofs.lemmas.List.{length-take}
use Rattle.std.proofs.Math.Bool.{and-true}
use Rattle.std.proofs.lemmas.Bool.{eqb-true, eqb-false, eq-eqb, ne_eqb}
use Rattle.notation.specs.Parts.{newline, parts, part_at}
use Rattle.stored.specs.Tallies.{without_end, lines_of, has_case, Kind, Tallied, no_line, no_case, is_right, differs}
use Rattle.stored.specs.Inner.Comparing.{LineTallied, not_counted, found_right, found_different}
use Rattle.stored.specs.declared.files.Tally.{Tally}
use mathlib.Core.Path.{subst₂}

-- THE LINES

pub lines_none : (text : List ℕ) → length text ≡ 0 → lines_of text ≡ []
unfolding lines_of without_end
lines_none [] e = refl
lines_none (letter ∷ rest) e = absurd (omega arith)

-- one letter more in the first line
without_onto : (letter : ℕ) (lines : List (List ℕ)) (tail : List (List ℕ)) → without_end lines ≡ get_or lines 0 [] ∷ tail
    → without_end (onto_first letter lines) ≡ (letter ∷ get_or lines 0 []) ∷ tail
unfolding without_end
without_onto letter [] tail e = cc
without_onto letter ([] ∷ []) tail e = cc
without_onto letter ((x ∷ first) ∷ []) tail e =
    let none : [] ≡ tail = cc in
    ap {B = List (List ℕ)} (λ l. (letter ∷ x ∷ first) ∷ l) none
without_onto letter (first ∷ next ∷ more) tail e =
    let others : without_end (next ∷ more) ≡ tail = cc in
    ap {B = List (List ℕ)} (λ l. (letter ∷ first) ∷ l) others

first_onto : (letter : ℕ) (lines : List (List ℕ)) → get_or (onto_first letter lines) 0 [] ≡ letter ∷ get_or lines 0 []
first_onto letter [] = refl
first_onto letter (first ∷ more) = refl

empty_line : (behind : List (List ℕ)) → 0 < length behind → without_end ([] ∷ behind) ≡ [] ∷ without_end behind
unfolding without_end
empty_line [] h = absurd (omega arith)
empty_line (next ∷ more) h = refl

some_part : (text : List ℕ) → 0 < length (parts newline text)
some_part [] = omega arith
some_part (letter ∷ rest) = go (eqb letter newline) (parts newline rest)
  where
    go : (t : Bool) (lines : List (List ℕ)) → 0 < length (cond t ([] ∷ lines) (onto_first letter lines))
    go true lines = omega arith
    go false [] = omega arith
    go false (first ∷ more) = omega arith

-- the first line, and those behind it
abbrev lines : ℕ → List ℕ → Bool → List (List ℕ)
lines letter rest t = cond t ([] ∷ parts newline rest) (onto_first letter (parts newline rest))

abbrev First : List (List ℕ) → List ℕ → Type 0
First all text = without_end all ≡ get_or all 0 [] ∷ without_end (parts newline (drop (suc (length (get_or all 0 []))) text))

one_letter : (letter : ℕ) (t : Bool) → First (lines letter [] t) (letter ∷ [])
unfolding without_end
one_letter letter true = refl
one_letter letter false = refl

more_letters : (letter : ℕ) (rest : List ℕ) → First (parts newline rest) rest → (t : Bool) → First (lines letter rest t) (letter ∷ rest)
more_letters letter rest before true = empty_line (parts newline rest) (some_part rest)
more_letters letter rest before false =
    rw first_onto (without_onto letter (parts newline rest) (without_end (parts newline (drop (suc (length (part_at newline rest 0))) rest))) before)

-- the first line is the front of the text, and no longer than it
pub line_front : (text : List ℕ) → take (length (part_at newline text 0)) text ≡ part_at newline text 0
line_front [] = refl
line_front (letter ∷ rest) = go (eqb letter newline) (parts newline rest) (line_front rest)
  where
    first : Bool → List (List ℕ) → List ℕ
    first t behind = get_or (cond t ([] ∷ behind) (onto_first letter behind)) 0 []

    go : (t : Bool) (behind : List (List ℕ)) → take (length (get_or behind 0 [])) rest ≡ get_or behind 0 []
        → take (length (first t behind)) (letter ∷ rest) ≡ first t behind
    go true behind before = refl
    go false [] before = refl
    go false (part ∷ more) before = ap {B = List ℕ} (λ l. letter ∷ l) before

pub line_short : (text : List ℕ) → length (part_at newline text 0) ≤ length text
line_short text = omega (arith, ap length (line_front text), length-take (length (part_at newline text 0)) text)

line_first : (text : List ℕ) → 0 < length text
    → lines_of text ≡ part_at newline text 0 ∷ lines_of (drop (suc (length (part_at newline text 0))) text)
unfolding lines_of
line_first [] h = absurd (omega arith)
line_first (letter ∷ []) h = one_letter letter (eqb letter newline)
line_first (letter ∷ next ∷ rest) h = more_letters letter (next ∷ rest) (line_first (next ∷ rest) (omega arith)) (eqb letter newline)

-- so the first line, where it ends, and fewer letters behind it
pub first_line : (text behind : List ℕ) (end : ℕ) → 0 < length text → end ≡ length (part_at newline text 0) → behind ≡ drop (end + 1) text
    → (lines_of text ≡ take end text ∷ lines_of behind) × (length behind < length text)
first_line text behind end h e b =
    let size = length (part_at newline text 0) in
    let line : take end text ≡ part_at newline text 0 = ap (λ (n : ℕ). take n text) e ∙ line_front text in
    let there : behind ≡ drop (suc size) text = b ∙ rw (e, add-one) in
    (rw (line, there) (line_first text h), rw there (omega (arith, length-drop (suc size) text)))

-- the text from a place on, or nothing past its end
pub rest_or : (found : Option (Bor (List ℕ))) (other : Bor (List ℕ)) (text : List ℕ) (n : ℕ) → other.now ≡ []
    → MatchOption found ((length text < n) ⊎ (length text < length text))
    (λ x. (n ≤ length text) × (length text ≤ length text) × (x.now ≡ slice_range text n (length text)) × (length x.now + n ≡ length text))
    → (unwrap_or found other).now ≡ drop n text
rest_or None other text n e h = e ∙ sym (drop_of_length-le text (past h))
  where
    past : (length text < n) ⊎ (length text < length text) → length text ≤ n
    past (inl h) = omega arith
    past (inr h) = omega arith
rest_or (Some x) other text n e h = h.2 ∙ take_all (length text - n) (drop n text) (omega (arith, length-drop n text))

-- A LINE'S CASE

eqb_turned : (a b : ℕ) → eqb a b ≡ eqb b a
eqb_turned a b = go (eqb a b) refl
  where
    go : (t : Bool) → eqb a b ≡ t → t ≡ eqb b a
    go true e = sym (eq-eqb b a (sym (eqb-true a b e)))
    go false e = sym (ne_eqb b a (λ same. eqb-false a b e (sym same)))

pub case_there : (line : List ℕ) → not (starts_with eqb line (35 ∷ [])) ≡ has_case line
unfolding has_case
case_there [] = refl
case_there (letter ∷ rest) = ap not (and-true (eqb 35 letter) ∙ eqb_turned 35 letter)

-- ONE LINE COUNTED

add_one_first : (a b : ℕ) → a + 1 + b ≡ a + suc b
add_one_first a b = omega arith

-- ALL LINES

-- what the lines of the rest come to, with those before
abbrev pub Counting : Kind → List ℕ → Tally → List ℕ → Type 0
Counting kind text tally rest =
    (c d : ℕ) → Tallied kind (lines_of rest) c d → Tallied kind (lines_of text) (tally.cases + c) (tally.differences + d)

pub counting_start : (kind : Kind) (text : List ℕ) → Counting kind text (record { cases = 0; differences = 0 }) text
counting_start kind text c d t = subst₂ (Tallied kind (lines_of text)) (omega arith) (omega arith) t

module _ (kind : Kind) (text rest : List ℕ) (tally : Tally) (so : Counting kind text tally rest) where
  -- the line in front of the rest
  pub counting_next : (line behind : List ℕ) (after : Tally) → lines_of rest ≡ line ∷ lines_of behind → LineTallied kind line tally after
      → Counting kind text after behind
  counting_next line behind after front (not_counted none same) c d t = rw same (so c d (rw front (no_case none t)))
  counting_next line behind after front (found_right case right same) c d t =
      let one = add_one_first tally.cases c in
      rw (same, one) (so (suc c) d (rw front (is_right case right t)))
  counting_next line behind after front (found_different case wrong same) c d t =
      let one = add_one_first tally.cases c in
      let two = add_one_first tally.differences d in
      rw (same, one, two) (so (suc c) (suc d) (rw front (differs case wrong t)))

  pub counting_done : lines_of rest ≡ [] → Tallied kind (lines_of text) tally.cases tally.differences
  counting_done none = subst₂ (Tallied kind (lines_of text)) (omega arith) (omega arith) (so 0 0 (rw none no_line))
