-- What the lines of a file come to: how many cases, and how many of them differ.
use Rattle.std.specs.Prelude.{◌≡◌, Bool, true, false, not, List, [], ◌∷◌, ℕ, zero, suc, eqb}
use Prim.Native.Char.{code}
use Rattle.notation.specs.Parts.{newline, parts}
use Rattle.notation.specs.Testing.{Tests}
use Rattle.stored.specs.Calls.{CallRight}
use Rattle.stored.specs.Jobs.{JobRight}

-- the lines of a file's text: each has a newline behind it, but the last may lack it
unfoldable pub without_end : List (List ℕ) → List (List ℕ)
without_end [] = []
without_end ([] ∷ []) = []
without_end ((letter ∷ rest) ∷ []) = (letter ∷ rest) ∷ []
without_end (line ∷ next ∷ more) = line ∷ without_end (next ∷ more)

unfoldable pub lines_of : List ℕ → List (List ℕ)
lines_of text = without_end (parts newline text)

-- a line that starts with # has no case
unfoldable pub has_case : List ℕ → Bool
has_case [] = true
has_case (letter ∷ rest) = not (eqb letter (code "#"))

-- what the lines of a file have
pub data Kind : Type 0 where
  Calls : Kind
  Jobs : Kind

-- when a line's case is right, by what the file has
abbrev pub LineRight : Kind → List ℕ → Type 0
LineRight Calls line = CallRight line
LineRight Jobs line = JobRight line

-- each answer that may be returned at a line says whether its case is right
abbrev pub TestsLines : (List ℕ → Bool → Type 0) → Kind → Type 0
TestsLines returns kind = (line : List ℕ) (answer : Bool) → returns line answer → Tests answer (LineRight kind line)

-- these lines come to so many cases, of which so many differ
pub data Tallied (kind : Kind) : List (List ℕ) → ℕ → ℕ → Type 0 where
  no_line : Tallied kind [] zero zero
  no_case : {line : List ℕ} {lines : List (List ℕ)} {cases differences : ℕ} → has_case line ≡ false → Tallied kind lines cases differences
      → Tallied kind (line ∷ lines) cases differences
  is_right : {line : List ℕ} {lines : List (List ℕ)} {cases differences : ℕ} → has_case line ≡ true → LineRight kind line
      → Tallied kind lines cases differences → Tallied kind (line ∷ lines) (suc cases) differences
  differs : {line : List ℕ} {lines : List (List ℕ)} {cases differences : ℕ} → has_case line ≡ true → (LineRight kind line → ⊥)
      → Tallied kind lines cases differences → Tallied kind (line ∷ lines) (suc cases) (suc differences)
