-- Two spellings of one walk (document 02, U6): the ones that the request names.
use Rattle.std.specs.Prelude.{List, ◌++◌, ℕ, ◌≤◌}
use Rattle.word.specs.Walk.{rounds, SameLetters}

-- "One station stores a tail as 'stance, swing', another as that pair twice": or any number of times
abbrev pub TailRepeated : Type 0
TailRepeated = (u v : List ℕ) (times : ℕ) → 1 ≤ times → SameLetters u v u (rounds times v)

-- "or with a letter of the tail moved into the lead-in": or several, the first letters x of the tail x y
abbrev pub LettersMoved : Type 0
LettersMoved = (u x y : List ℕ) → SameLetters u (x ++ y) (u ++ x) (y ++ x)
