-- Walks (document 01, "Walks and verdicts"): ultimately periodic words u v v v …, a prefix u (the lead-in) and a
-- tail v that repeats for ever.
use Rattle.std.specs.Prelude.{◌≡◌, Bool, ◌&&◌, cond, List, [], ◌++◌, ℕ, zero, suc, ◌-◌, ◌%◌, leb, ltb, length, get_or, drop}
use Rattle.base.specs.Lists.{all_below}
use Rattle.base.specs.Outcome.{Outcome, accepted, ask, number_of, Tells}

-- "A walk is a lead-in u (0 to 4,096 letters, a byte each) and a tail v (1 to 4,096)."
abbrev pub max_length : ℕ
max_length = 4096

-- "Are u and v of allowed length?"
unfoldable pub lengths_fit : List ℕ → List ℕ → Bool
lengths_fit u v = leb (length u) max_length && (leb 1 (length v) && leb (length v) max_length)

-- questions 7 and 8, "Is each letter, u before v, below m?", and what follows on yes
unfoldable pub ask_walk : {A : Type 0} → ℕ → List ℕ → List ℕ → Outcome A → Outcome A
ask_walk m u v next = ask (lengths_fit u v) 7 (ask (all_below m u && all_below m v) 8 next)

-- questions 7 and 8 put to a walk by themselves
unfoldable pub walk_outcome : ℕ → List ℕ → List ℕ → Outcome (Unit {0})
walk_outcome m u v = ask_walk m u v (accepted tt)

-- "No gives the number": what the number that is given to a walk tells (proved: crates/word/proofs/RefusalNumbers.antt)
abbrev pub WalkNumber : Type 0
WalkNumber = (m : ℕ) (u v : List ℕ) → Tells (walk_outcome m u v) (number_of (walk_outcome m u v))

-- "At each place the letters still to be read are the rest of whichever of u and v is being read."
unfoldable pub letters_left : Bool → List ℕ → List ℕ → ℕ → List ℕ
letters_left in_tail u v at = drop at (cond in_tail v u)

-- "The positions of a walk are numbered from 0 without end: u's letters first, then v's, over and over from v's first."
unfoldable pub letter_at : List ℕ → List ℕ → ℕ → ℕ
letter_at u v p = cond (ltb p (length u)) (get_or u p 0) (get_or v ((p - length u) % length v) 0)

-- document 02, U6: two walks "have the same letter at every position of the endless sequence"
abbrev pub SameLetters : List ℕ → List ℕ → List ℕ → List ℕ → Type 0
SameLetters u v u' v' = (p : ℕ) → letter_at u v p ≡ letter_at u' v' p

-- r rounds: the tail v, r times
unfoldable pub rounds : ℕ → List ℕ → List ℕ
rounds zero v = []
rounds (suc r) v = v ++ rounds r v
