-- A text on one line.
use Rattle.std.specs.Prelude.{cond, List, [], ◌∷◌, ◌++◌, ℕ, eqb}
use Prim.Native.Char.{code}
use Rattle.notation.specs.Parts.{newline}

-- a newline is written as the two letters `\n`, any other letter as itself
unfoldable pub written : ℕ → List ℕ
written letter = cond (eqb letter newline) (code "\\" ∷ code "n" ∷ []) (letter ∷ [])

-- a text, letter by letter
unfoldable pub on_one_line : List ℕ → List ℕ
on_one_line [] = []
on_one_line (letter ∷ rest) = written letter ++ on_one_line rest
