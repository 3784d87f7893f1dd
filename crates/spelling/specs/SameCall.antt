-- Two walks compared (document 02, U6: "One walk, two spellings"): what the call answers, for all inputs. It is lent nothing to write.
use Rattle.std.specs.Prelude.{◌≡◌, List, ℕ}
use Rattle.base.specs.Outcome.{Outcome, refused, accepted, ask, Tells}
use Rattle.word.specs.Verdict.{Decides}
use Rattle.word.specs.Walk.{lengths_fit, SameLetters}
use Rattle.spelling.specs.declared.same.SameAnswer.{SameAnswer}

-- question 7 to the first walk, then to the second. No table is given, so 8 does not apply: every byte is a letter.
unfoldable pub same_outcome : List ℕ → List ℕ → List ℕ → List ℕ → Outcome (Unit {0})
same_outcome u v u' v' = ask (lengths_fit u v) 7 (ask (lengths_fit u' v') 7 (accepted tt))

-- the answer: 1 exactly when the walks "have the same letter at every position of the endless sequence", else 0; on a refusal its
-- number and zero
abbrev pub SameAnswers : Outcome (Unit {0}) → List ℕ → List ℕ → List ℕ → List ℕ → SameAnswer → Type 0
SameAnswers (refused number) u v u' v' answer = answer ≡ record { number = number; same = 0 }
SameAnswers (accepted _) u v u' v' answer = (answer.number ≡ 0) × Decides answer.same (SameLetters u v u' v')

-- the contract of the call: for two walks, this answer
abbrev pub SameCall : List ℕ → List ℕ → List ℕ → List ℕ → SameAnswer → Type 0
SameCall u v u' v' answer = SameAnswers (same_outcome u v u' v') u v u' v' answer

-- the number that a caller sees tells whether the call is accepted
abbrev pub SameNumber : Type 0
SameNumber =
    (u v u' v' : List ℕ) (answer : SameAnswer) → SameCall u v u' v' answer → Tells (same_outcome u v u' v') answer.number
