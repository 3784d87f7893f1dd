-- The definitions at work: what some texts have, a line that is right, and lines that are not.
use mathlib.Core.Path.{◌≡◌, refl, sym, ◌∙◌, ap, subst, subst₂}
use mathlib.Core.List.{List, [], ◌∷◌, map}
use Rattle.std.proofs.Common.{Option, Some, None}
use Rattle.std.proofs.lemmas.Option.{same_Some}
use Prim.Native.Nat.{ℕ, ◌+◌}
use native.Mathlib.Omega.{arith}
use Rattle.table.specs.Table.{read_rule}
use Rattle.tree.specs.StartCall.{start_outcome, start_answer, start_after}
use Rattle.job.specs.Ascii.{ascii}
use Rattle.job.specs.JobCall.{JobAnswer, job_parts, text_of, refusal_text, digits, digits_within, line as job_line}
use Rattle.notation.specs.Parts.{space, parts, field_at}
use Rattle.notation.specs.Decimal.{digit_value, no_larger, digits_value, decimal}
use Rattle.notation.specs.Hexadecimal.{pair_byte, hexadecimal, times, bytes_of, no_longer, longest, byte_string}
use Rattle.notation.specs.Testing.{HasNumbers}
use Rattle.notation.specs.OneLine.{written, on_one_line}
use Rattle.stored.specs.Calls.{name_of, arguments, BytesAt, Gives, Answered, CallRight}
use Rattle.stored.specs.Jobs.{JobRight}
use Rattle.stored.specs.declared.calls.Call.TheVariants.{Start}
use Rattle.stored.proofs.CallNames.{names_one}
use Rattle.stored.proofs.Determined.{gives_one}

-- TEXTS

three_parts : parts space (ascii "1  2") ≡ ascii "1" ∷ [] ∷ ascii "2" ∷ []
three_parts = refl

a_number : decimal (ascii "1024") ≡ Some 1024
unfolding decimal no_larger digits_value digit_value
a_number = refl

no_number : decimal (ascii "12a") ≡ None
unfolding decimal no_larger digits_value digit_value
no_number = refl

two_bytes : byte_string (ascii "0aff") ≡ Some (10 ∷ 255 ∷ [])
unfolding byte_string no_longer longest bytes_of hexadecimal pair_byte digit_value
two_bytes = refl

no_bytes : byte_string (ascii "-") ≡ Some []
unfolding byte_string no_longer longest bytes_of
no_bytes = refl

three_times : byte_string (ascii "07*3") ≡ Some (7 ∷ 7 ∷ 7 ∷ [])
unfolding byte_string no_longer longest bytes_of times pair_byte decimal no_larger digits_value digit_value
three_times = refl

half_a_pair : byte_string (ascii "0af") ≡ None
unfolding byte_string no_longer longest bytes_of hexadecimal pair_byte digit_value
half_a_pair = refl

two_lines : on_one_line (ascii "yes\nno") ≡ ascii "yes\\nno"
unfolding on_one_line written
two_lines = refl

-- LINES

-- the starting record of a table of no bytes is refused with the number 1, and so a line with this call is right only if it says so
start_refused : (line : List ℕ) → BytesAt line 1 [] → Gives Start line [] (1 ∷ 0 ∷ []) []
unfolding start_outcome start_answer start_after read_rule
start_refused line e = record { table = []; has_table = e; answers = refl; leaves = refl }

says_so : (line : List ℕ) → field_at line 0 ≡ name_of Start → BytesAt line 1 [] → BytesAt line 2 [] → CallRight line
    → HasNumbers (field_at line 3) (1 ∷ 0 ∷ []) × BytesAt line 4 []
unfolding arguments
says_so line name table lent R =
    let call : R.call ≡ Start = names_one R.call Start (sym R.has_name ∙ name) in
    let there : BytesAt line 2 R.lent = subst (λ k. BytesAt line (arguments k + 1) R.lent) call R.has_lent in
    let none : R.lent ≡ [] = same_Some R.lent [] (sym there ∙ lent) in
    let answered : Answered Start line [] = subst₂ (λ k l. Answered k line l) call none R.answered in
    let (numbers, after) =
    gives_one Start line [] answered.numbers answered.after (1 ∷ 0 ∷ []) [] answered.gives (start_refused line table) in (
      answered.has_numbers ∙ ap (λ (l : List ℕ). map (λ (n : ℕ). Some n) l) numbers,
      answered.has_after ∙ ap {B = Option (List ℕ)} Some after,
    )

right_line : CallRight (ascii "start\t-\t-\t1 0\t-")
unfolding name_of arguments byte_string no_longer longest bytes_of decimal no_larger digits_value digit_value
right_line = record {
  call = Start;
  has_name = refl;
  fields = refl;
  lent = [];
  has_lent = refl;
  answered = record {
    numbers = 1 ∷ 0 ∷ [];
    after = [];
    gives = start_refused (ascii "start\t-\t-\t1 0\t-") refl;
    has_numbers = refl;
    has_after = refl;
  };
}

-- another number
wrong_number : CallRight (ascii "start\t-\t-\t0 0\t-") → ⊥
unfolding name_of byte_string no_longer longest bytes_of decimal no_larger digits_value digit_value
wrong_number R =
    let numbers = (says_so (ascii "start\t-\t-\t0 0\t-") refl refl refl R).0 in
    let z : ◌≡◌ {A = ℕ} 0 1 = cc in
    omega arith

-- another byte left
wrong_byte : CallRight (ascii "start\t-\t-\t1 0\t00") → ⊥
unfolding name_of byte_string no_longer longest bytes_of hexadecimal pair_byte digit_value
wrong_byte R =
    let bytes = (says_so (ascii "start\t-\t-\t1 0\t00") refl refl refl R).1 in
    let z : ◌≡◌ {A = ℕ} 0 1 = cc in
    omega arith

-- a job of no bytes is refused with the number 12
job_refused : JobAnswer [] (text_of (refusal_text 12))
unfolding JobAnswer job_parts
job_refused = refl

nothing : byte_string [] ≡ Some []
unfolding byte_string no_longer longest bytes_of hexadecimal
nothing = refl

right_job : JobRight (ascii "\trefused 12\\n")
unfolding written on_one_line text_of refusal_text job_line digits digits_within
right_job = record {
  fields = refl;
  job = [];
  has_job = nothing;
  answered = record { text = text_of (refusal_text 12); answers = job_refused; says = refl };
}
