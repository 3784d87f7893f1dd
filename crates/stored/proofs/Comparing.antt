-- A call's answer compared, and the line above it.
use Rattle.std.proofs.Common.{◌≡◌, refl, sym, ◌∙◌, ap, Bool, List, [], ◌∷◌, ℕ, length, get_or, arith, Option, Some, None}
use Rattle.std.proofs.lemmas.Option.{none-some}
use Rattle.successors.specs.declared.call.SuccessorsAnswer.{SuccessorsAnswer}
use Rattle.notation.specs.Bytes.{Held, bytes_in}
use Rattle.notation.specs.Testing.{Tests, HasNumbers}
use Rattle.notation.specs.Decimal.{decimal_within}
use Rattle.stored.specs.Calls.{successors_numbers, Gives}
use Rattle.stored.specs.Inner.Comparing.{Compared}
use Rattle.stored.specs.declared.calls.Call.{Call}
use Rattle.stored.proofs.Determined.{gives_one}

-- an argument is missing
pub compared_none : (call : Call) (line lent text : List ℕ) (result : Option Bool) → result ≡ None
    → ((ms left : List ℕ) → Gives call line lent ms left → ⊥) → Compared call line lent text lent result
compared_none call line lent text result none lacks = record {
  every = λ ms left G. absurd (lacks ms left G);
  only = λ same e. absurd (none-some same (sym none ∙ e));
}

-- the numbers are compared
pub compared_some : (call : Call) (line lent text after : List ℕ) (same : Bool) (numbers : List ℕ) → Tests same (HasNumbers text numbers)
    → Gives call line lent numbers after → Compared call line lent text after (Some same)
compared_some call line lent text after same numbers tells gives = record {
  every = λ ms left G.
      let (equal, bytes) = gives_one call line lent ms left numbers after G gives in
      (bytes, (same, (refl, (λ e. rw equal (tells.0 e), λ has. tells.1 (rw (← equal) has)))));
  only = λ t e. (numbers, gives);
}

-- an argument is there
pub present : {found : Option Held} {text : Option (List ℕ)} {held : Held} {bytes : List ℕ} → found ≡ Some held → bytes_in found ≡ text → bytes ≡ held.bytes
    → text ≡ Some bytes
present was is same = sym is ∙ ap bytes_in was ∙ ap {B = Option (List ℕ)} Some (sym same)

pub number_present : (limit : ℕ) (text field : List ℕ) (found : Option ℕ) (n : ℕ) → found ≡ Some n → found ≡ decimal_within limit text → text ≡ field
    → decimal_within limit field ≡ Some n
number_present limit text field found n was is there = sym (is ∙ ap (λ t. decimal_within limit t) there) ∙ was

-- the numbers of an answer on successors: there are four maps
pub six_numbers : (a : SuccessorsAnswer) → length a.reached ≡ 4
    → a.number ∷ a.next ∷ get_or a.reached 0 0 ∷ get_or a.reached 1 0 ∷ get_or a.reached 2 0 ∷ get_or a.reached 3 0 ∷ [] ≡ successors_numbers a
six_numbers a four = ap (λ l. a.number ∷ a.next ∷ l) (go a.reached four)
  where
    go : (l : List ℕ) → length l ≡ 4 → get_or l 0 0 ∷ get_or l 1 0 ∷ get_or l 2 0 ∷ get_or l 3 0 ∷ [] ≡ l
    go [] e = absurd (omega (arith, e))
    go (w ∷ []) e = absurd (omega (arith, e))
    go (w ∷ x ∷ []) e = absurd (omega (arith, e))
    go (w ∷ x ∷ y ∷ []) e = absurd (omega (arith, e))
    go (w ∷ x ∷ y ∷ z ∷ []) e = refl
    go (w ∷ x ∷ y ∷ z ∷ v ∷ l) e = absurd (omega (arith, e))
