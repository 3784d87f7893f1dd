-- Words in ASCII.
use Rattle.std.specs.Prelude.{List, [] as []ᴸ, ◌∷◌ as ◌∷ᴸ◌, ℕ}
use Prim.Native.Char.{code}
use Prim.Native.String.{String, [], ◌∷◌}

-- the bytes of a word: the code of each of its characters
abbrev pub ascii : String → List ℕ
ascii [] = []ᴸ
ascii (c ∷ word) = code c ∷ᴸ ascii word
