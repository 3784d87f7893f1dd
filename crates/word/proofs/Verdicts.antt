-- What verdicts decide: two verdicts on one statement are the same, and a verdict on one statement is one on another that says the same.
use mathlib.Core.Path.{◌≡◌, sym, ◌∙◌}
use mathlib.Core.Logic.{inl, inr}
use Prim.Native.Nat.{ℕ}
use Rattle.word.specs.Verdict.{Decides}

pub decides_one : {a b : ℕ} {P : Type 0} → Decides a P → Decides b P → a ≡ b
decides_one (inl (x, p)) (inl (y, q)) = x ∙ sym y
decides_one (inl (x, p)) (inr (y, q)) = absurd (q p)
decides_one (inr (x, p)) (inl (y, q)) = absurd (p q)
decides_one (inr (x, p)) (inr (y, q)) = x ∙ sym y

pub decides_same : {verdict : ℕ} {P Q : Type 0} → (P → Q) → (Q → P) → Decides verdict P → Decides verdict Q
decides_same to from (inl (one, p)) = inl (one, to p)
decides_same to from (inr (none, p)) = inr (none, λ q. p (from q))
