-- The limits of document 01, "The rule table", in one place: statements use these names. Made for these numbers is the number of a
-- tree (crates/history/proofs/Repeat/TreeCode.antt). The look-up has room for so many states, and for more sets (Inner/Lanes.antt).
use Rattle.std.specs.Prelude.{ℕ}

-- "n states (1 to 8, numbered from 0)"
abbrev pub max_states : ℕ
max_states = 8

-- "m letters (1 to 16, from 0; a letter is a mode)"
abbrev pub max_letters : ℕ
max_letters = 16

-- "k accepting sets (1 to 4, numbered from 1)"
abbrev pub max_sets : ℕ
max_sets = 4

-- a grid's byte: "255 is no transition"
abbrev pub no_transition : ℕ
no_transition = 255
