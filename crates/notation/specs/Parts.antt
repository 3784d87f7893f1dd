-- Texts in parts: the lines of a file, the fields of a line, the numbers of a field.
use Rattle.std.specs.Prelude.{List, [], ℕ, eqb, get_or}
use Rattle.std.specs.List.{slice_split}
use Prim.Native.Char.{code}

-- what stands between the fields of a line, between the numbers of a field, and behind each line
abbrev pub tab : ℕ
tab = code "\t"

abbrev pub space : ℕ
space = code " "

abbrev pub newline : ℕ
newline = code "\n"

-- the parts of a text between its separators: one more than there are separators
abbrev pub parts : ℕ → List ℕ → List (List ℕ)
parts separator text = slice_split (λ letter. eqb letter separator) text

-- the part with this number, from 0; nothing where there are fewer parts
abbrev pub part_at : ℕ → List ℕ → ℕ → List ℕ
part_at separator text number = get_or (parts separator text) number []

-- the fields of a line
abbrev pub field_at : List ℕ → ℕ → List ℕ
field_at line number = part_at tab line number
