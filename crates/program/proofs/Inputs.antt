-- The answer to what was read is the answer to the input: either it is all of the input, or both are too long.
use mathlib.Core.Path.{◌≡◌, refl, sym, ◌∙◌, ap}
use mathlib.Core.List.{List}
use Prim.Native.Nat.{ℕ, ◌≤◌, ◌<◌, min}
use native.Mathlib.Decide.{dec_lt}
use native.Mathlib.Omega.{arith}
use lib.ListN.{length, take, length-take}
use lib.Seq.{take_all}
use Rattle.job.specs.JobCall.{longest_job, text_room, JobAnswer}
use Rattle.job.specs.declared.call.Text.{Text}
use Rattle.job.proofs.JobVerdict.{job_determined, job_fits}
use Rattle.job.proofs.Splitting.{too_long}
use Rattle.program.specs.Input.{read_room, InputAnswer}

-- no more than all are taken
pub take_least : (count : ℕ) (bytes : List ℕ) → take (min count (length bytes)) bytes ≡ take count bytes
take_least count bytes = go (dec_lt (length bytes) count)
  where
    go : Dec (length bytes < count) → take (min count (length bytes)) bytes ≡ take count bytes
    go (yes more) = take_all (min count (length bytes)) bytes (omega arith) ∙ sym (take_all count bytes (omega arith))
    go (no less) = let e : min count (length bytes) ≡ count = omega arith in ap (λ (c : ℕ). take c bytes) e

-- all jobs that are too long have one answer
too_long_alike : (job other : List ℕ) (text : Text) → longest_job < length job → longest_job < length other
    → JobAnswer job text → JobAnswer other text
unfolding JobAnswer
too_long_alike job other text long longer A = rw (too_long other longer) (rw (too_long job long) at A)

pub input_answered : (read : List ℕ) (text : Text) → JobAnswer read text → InputAnswer read text
unfolding InputAnswer
input_answered read text A input same = go (dec_lt longest_job (length input))
  where
    sizes : min read_room (length read) ≡ min read_room (length input)
    sizes = sym (length-take read_room read) ∙ ap length same ∙ length-take read_room input

    go : Dec (longest_job < length input) → JobAnswer input text
    go (yes long) = too_long_alike read input text (omega (arith, sizes)) long A
    go (no short) =
        let all : take read_room input ≡ input = take_all read_room input (omega arith) in
        let own : take read_room read ≡ read = take_all read_room read (omega (arith, sizes)) in
        let one : read ≡ input = sym own ∙ same ∙ all in
        rw one at A

-- the contract determines the text: what was read is such an input itself
pub input_determined : (read : List ℕ) (a b : Text) → InputAnswer read a → InputAnswer read b → a ≡ b
unfolding InputAnswer
input_determined read a b A B = job_determined read a b (A read refl) (B read refl)

-- and the text fits its array
pub input_fits : (text : Text) → length text.bytes ≡ text_room → (read : List ℕ) → InputAnswer read text → text.length ≤ text_room
unfolding InputAnswer
input_fits text size read A = job_fits text size read (A read refl)
