-- Refusals as the code names them.
use Rattle.std.specs.Prelude.{◌≡◌, ℕ, Result, MatchResult}
use Rattle.base.specs.Outcome.{Outcome, refused, accepted}
use Rattle.base.specs.declared.refusal.Refusal.{Refusal}
use Rattle.base.specs.declared.refusal.Refusal.TheVariants.{TableTooShort, NumbersOutOfRange, StartMisfit, CellMissing, CellMisfit, TableTooLong, WalkLength, LetterOutOfRange, NoRecord, NoRoom, GridMisfit, JobMisfit}

-- "No gives the number": the number of the question that each refusal is of
abbrev pub refusal_number : Refusal → ℕ
refusal_number TableTooShort = 1
refusal_number NumbersOutOfRange = 2
refusal_number StartMisfit = 3
refusal_number CellMissing = 4
refusal_number CellMisfit = 5
refusal_number TableTooLong = 6
refusal_number WalkLength = 7
refusal_number LetterOutOfRange = 8
refusal_number NoRecord = 9
refusal_number NoRoom = 10
refusal_number GridMisfit = 11
refusal_number JobMisfit = 12

-- what the code answers to some questions: they accept something that what is found is of, or they refuse by the refusal's number
abbrev pub Answers : {A T : Type 0} → Outcome A → (A → T → Type 0) → Result T Refusal → Type 0
Answers {A} o IsOf r = MatchResult r (λ found. (a : A) × (o ≡ accepted a) × IsOf a found) (λ refusal. o ≡ refused (refusal_number refusal))

-- the same of questions that only accept or refuse
abbrev pub AnswersAlone : {A T : Type 0} → Outcome A → Result T Refusal → Type 0
AnswersAlone o r = Answers o (λ _ _. Unit) r
