-- What the contract of a job's call says: it leaves no choice of the text, and the text fits its array.
use mathlib.Core.Path.{◌≡◌, sym, ◌∙◌, ap}
use mathlib.Core.List.{List}
use Prim.Native.Nat.{ℕ, ◌-◌, ◌≤◌}
use native.Mathlib.Omega.{arith}
use lib.ListN.{length, replicate, length-append, length-replicate}
use Rattle.base.specs.Outcome.{Outcome, refused, accepted}
use Rattle.rule.specs.Rule.{Rule}
use Rattle.word.specs.Judging.{walk_questions}
use Rattle.word.proofs.Verdicts.{decides_one}
use Rattle.treejudge.proofs.TreeVerdict.{walk_one}
use Rattle.job.specs.JobCall.{Parts, job_parts, five_lines, refusal_text, text_room, text_of, PartsAnswers, SplitAnswers, JobAnswer}
use Rattle.job.specs.declared.call.Text.{Text}

-- THE CONTRACT DETERMINES THE TEXT

parts_determined : (o : Outcome Rule) (u v : List ℕ) (a b : Text) → PartsAnswers o u v a → PartsAnswers o u v b → a ≡ b
parts_determined (refused number) u v a b x y = x ∙ sym y
parts_determined (accepted R) u v a b J K =
    let (e, p, f) = walk_one J.walk K.walk in
    let d : J.plain ≡ K.plain = decides_one J.decides K.decides in
    J.says ∙ rw (e, p, f, d) (sym K.says)

-- two texts that the contract allows for a job are the same
pub job_determined : (job : List ℕ) (a b : Text) → JobAnswer job a → JobAnswer job b → a ≡ b
unfolding JobAnswer
job_determined job a b x y = go (job_parts job) x y
  where
    go : (o : Outcome Parts) → SplitAnswers o a → SplitAnswers o b → a ≡ b
    go (refused number) x y = x ∙ sym y
    go (accepted p) x y = parts_determined (walk_questions p.table p.lead p.tail) p.lead p.tail a b x y

-- THE TEXT FITS ITS ARRAY

module _ (text : Text) (size : length text.bytes ≡ text_room) where
  text_fits : (l : List ℕ) → text ≡ text_of l → text.length ≤ text_room
  unfolding text_of
  text_fits l e =
      let zeros = replicate {A = ℕ} (text_room - length l) 0 in
      omega (
        arith,
        ap (λ (t : Text). t.length) e,
        ap (λ (t : Text). length t.bytes) e,
        length-append l zeros,
        length-replicate {A = ℕ} (text_room - length l) 0,
      )

  parts_fit : (o : Outcome Rule) (u v : List ℕ) → PartsAnswers o u v text → text.length ≤ text_room
  parts_fit (refused number) u v x = text_fits (refusal_text number) x
  parts_fit (accepted R) u v J = text_fits (five_lines J.walk.entry J.walk.period J.walk.finding J.plain) J.says

  pub job_fits : (job : List ℕ) → JobAnswer job text → text.length ≤ text_room
  unfolding JobAnswer
  job_fits job x = go (job_parts job) x
    where
      go : (o : Outcome Parts) → SplitAnswers o text → text.length ≤ text_room
      go (refused number) x = text_fits (refusal_text number) x
      go (accepted p) x = parts_fit (walk_questions p.table p.lead p.tail) p.lead p.tail x
