-- A text on one line, letter by letter.
use Rattle.std.proofs.Common.{◌≡◌, refl, sym, ◌∙◌, ap, List, [], ◌∷◌, ◌++◌, ℕ, ◌+◌, ◌<◌, ◌≤◌, ◌↔◌, length, drop, get_or, drop_of_length-le, drop-cons, add-one, eqb, arith}
use Rattle.std.proofs.lemmas.Bool.{eq-eqb, ne_eqb, eqb-true}
use mathlib.Core.List.{append_cancel_left}
use Rattle.notation.specs.OneLine.{written, on_one_line}
use Rattle.notation.specs.Testing.{Tests}

-- ONE LETTER

pub written_newline : (letter : ℕ) → letter ≡ 10 → written letter ≡ 92 ∷ 110 ∷ []
unfolding written
written_newline letter e = rw (eq-eqb letter 10 e)

pub written_other : (letter : ℕ) → (letter ≡ 10 → ⊥) → written letter ≡ letter ∷ []
unfolding written
written_other letter n = rw (ne_eqb letter 10 n)

-- THE LETTERS OF A TEXT, from a place on

module _ (text rest : List ℕ) (at : ℕ) where
  module _ (h : at < length text) where
    next : on_one_line (drop at text) ≡ written (get_or text at 0) ++ on_one_line (drop (at + 1) text)
    unfolding on_one_line
    next = rw (add-one at, drop-cons text at 0 h)

    -- another letter there
    pub line_other : ((l : List ℕ) → rest ≡ written (get_or text at 0) ++ l → ⊥) → rest ≡ on_one_line (drop at text) → ⊥
    line_other n e = n (on_one_line (drop (at + 1) text)) (e ∙ next)

    -- the letter there
    pub line_more : (more : List ℕ) → rest ≡ written (get_or text at 0) ++ more
        → (rest ≡ on_one_line (drop at text)) ↔ (more ≡ on_one_line (drop (at + 1) text))
    line_more more e = (
      λ same. append_cancel_left (written (get_or text at 0)) more (on_one_line (drop (at + 1) text)) (sym e ∙ same ∙ next),
      λ same. e ∙ ap (λ (l : List ℕ). written (get_or text at 0) ++ l) same ∙ sym next,
    )

  -- the whole text
  pub line_end : length text ≤ at → Tests (eqb (length rest) 0) (rest ≡ on_one_line (drop at text))
  unfolding on_one_line
  line_end all = rw (drop_of_length-le text all) (λ e. nothing rest (eqb-true (length rest) 0 e), λ e. eq-eqb (length rest) 0 (ap length e))
    where
      nothing : (l : List ℕ) → length l ≡ 0 → l ≡ []
      nothing [] e = refl
      nothing (letter ∷ l) e = absurd (omega arith)
