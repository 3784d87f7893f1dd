-- The numbers that the calls on trees answer: no question has the number 0.
use mathlib.Core.Path.{◌≡◌, refl}
use mathlib.Core.List.{List}
use Prim.Native.Nat.{ℕ}
use native.Mathlib.Omega.{arith}
use lib.Dec.{leb}
use lib.ListN.{length}
use Rattle.base.specs.Outcome.{Outcome, refused, accepted, number_of}
use Rattle.base.proofs.Numbers.{IfRefused, NotZero, ask_number, then_number, tells}
use Rattle.table.specs.Table.{read_rule}
use Rattle.table.proofs.RefusalNumbers.{rule_number}
use Rattle.tree.specs.StartCall.{record_room, start_outcome, start_answer, StartNumber}

-- THE STARTING RECORD

start_questions : (table buffer : List ℕ) → IfRefused NotZero (start_outcome table buffer)
unfolding start_outcome
start_questions table buffer = then_number NotZero (read_rule table) _ (rule_number table) (λ R.
    ask_number NotZero (leb record_room (length buffer)) 10 _ (λ e. omega arith) tt)

start_answers : (o : Outcome (List ℕ)) → (start_answer o).number ≡ number_of o
unfolding start_answer
start_answers (refused number) = refl
start_answers (accepted bytes) = refl

pub start_number : StartNumber
start_number table buffer = rw (start_answers (start_outcome table buffer)) (tells (start_outcome table buffer) (start_questions table buffer))

-- ONE LETTER
