-- The call's answer, from what the look-up gives for a rule; and the numbers that it answers.
use mathlib.Core.Path.{◌≡◌, refl, ◌∙◌, ap}
use mathlib.Core.List.{List}
use Prim.Native.Nat.{ℕ, suc}
use native.Mathlib.Omega.{arith}
use Rattle.base.specs.Outcome.{Outcome, refused, accepted, number_of}
use Rattle.base.specs.Lists.{tabulate}
use Rattle.base.proofs.Numbers.{tells}
use Rattle.base.proofs.Tabulate.{tabulate_ext}
use Rattle.rule.specs.Limits.{max_sets}
use Rattle.rule.specs.Inner.Lanes.{map_of}
use Rattle.rule.specs.Inner.Lookup.{Lookup, images_by, look_up}
use Rattle.rule.specs.Rule.{Rule, successors, successors_in}
use Rattle.rule.proofs.LookupLaws.{look_up_successors, look_up_successors_in}
use Rattle.table.specs.Inner.Preparing.{PreparedLetter}
use Rattle.table.specs.declared.header.Header.{Header}
use Rattle.table.proofs.RefusalNumbers.{letter_number}
use Rattle.successors.specs.SuccessorsCall.{successors_outcome, successors_answer, SuccessorsNumber}

-- all questions are answered yes: the lanes of the images are the successors, by all transitions and by those of each set
pub looked_up : {R : Rule} {header : Header} {a : ℕ} {made : Lookup} → PreparedLetter R header a made → (s : ℕ)
    → {images : ℕ} → images ≡ images_by made s → {next : ℕ} → next ≡ map_of images 0
    → {reached : List ℕ} → reached ≡ tabulate max_sets (λ i. map_of images (suc i))
    → record { number = 0; next = next; reached = reached } ≡ successors_answer (accepted R) a s
unfolding successors_answer look_up
looked_up {R} {header} {a} p s {images} look {next} first {reached} rest =
    let well = p.limits.well in
    let few = p.limits.states in
    let word = look ∙ ap (λ (table : Lookup). images_by table s) p.is_lookup.entries in
    let all : next ≡ successors R a s = first ∙ ap (λ (w : ℕ). map_of w 0) word ∙ look_up_successors R well few a s in
    let sets : reached ≡ tabulate max_sets (λ i. successors_in R (suc i) a s) = rest ∙ tabulate_ext max_sets _ _ (λ i h.
    ap (λ (w : ℕ). map_of w (suc i)) word ∙ look_up_successors_in R well few (suc i) a s (omega arith) (omega arith)) in
    rw (all, sets)

-- THE NUMBERS

answers : (o : Outcome Rule) (a s : ℕ) → (successors_answer o a s).number ≡ number_of o
unfolding successors_answer
answers (refused number) a s = refl
answers (accepted R) a s = refl

pub successors_number : SuccessorsNumber
unfolding successors_outcome
successors_number table a s = rw (answers (successors_outcome table a) a s) (tells (successors_outcome table a) (letter_number table a))
