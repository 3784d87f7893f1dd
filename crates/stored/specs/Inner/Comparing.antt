-- The name of a call, the numbers of the writer, one call's answer compared, one line counted.
use Rattle.std.specs.Prelude.{◌≡◌, Bool, true, false, List, ℕ, ◌+◌, Option, Some, MatchOption}
use Rattle.notation.specs.Testing.{Tests, HasNumbers}
use Rattle.stored.specs.Calls.{name_of, RuleText, Gives}
use Rattle.stored.specs.Tallies.{Kind, has_case, LineRight}
use Rattle.stored.specs.declared.calls.Call.{Call}
use Rattle.stored.specs.declared.files.Tally.{Tally}
use Rattle.stored.specs.declared.rules.Rule.{Rule}

-- the call of this name, or that there is none
abbrev pub Names : List ℕ → Option Call → Type 0
Names name named = MatchOption named ((call : Call) → name ≡ name_of call → ⊥) (λ call. name ≡ name_of call)

-- the numbers that a text has, or that it has none
abbrev pub RuleIs : List ℕ → Option Rule → Type 0
RuleIs text read =
    MatchOption read ((n m k start : ℕ) → RuleText text n m k start → ⊥) (λ rule. RuleText text rule.n rule.m rule.k rule.start)

-- A call was made with the arguments of a line, on a lent buffer, and its numbers were compared with a text. `every`: whatever numbers and
-- bytes the call's contract allows, these bytes stand in the buffer now, and the result says whether the text has these numbers. `only`:
-- there is a result only where the line has the call's arguments.
pub record Compared (call : Call) (line lent text after : List ℕ) (result : Option Bool) : Type 0 where
  pub every : (numbers left : List ℕ) → Gives call line lent numbers left
      → (left ≡ after) × ((same : Bool) × ((result ≡ Some same) × Tests same (HasNumbers text numbers)))
  pub only : (same : Bool) → result ≡ Some same → (numbers : List ℕ) × Gives call line lent numbers after

-- one line counted
pub data LineTallied (kind : Kind) (line : List ℕ) (before after : Tally) : Type 0 where
  not_counted : has_case line ≡ false → after ≡ before → LineTallied kind line before after
  found_right : has_case line ≡ true → LineRight kind line → after ≡ record { cases = before.cases + 1; differences = before.differences }
      → LineTallied kind line before after
  found_different : has_case line ≡ true → (LineRight kind line → ⊥)
      → after ≡ record { cases = before.cases + 1; differences = before.differences + 1 } → LineTallied kind line before after
