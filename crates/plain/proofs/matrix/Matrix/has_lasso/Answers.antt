-- `has_lasso` meets its contract. A state with a loop is one that the test finds.
use borrow.Author.Rules.{rules}
use borrow.Author.Tests.{tests}
use native.Mathlib.Omega.{arith}
use mathlib.Core.Path.{◌≡◌, refl}
use mathlib.Core.Bool.{true}
use Prim.Native.Nat.{ℕ, ◌<◌}
use Rattle.std.specs.Prelude.{◌↔◌}
use Rattle.std.proofs.lemmas.Iterator.{cases_from_any, YieldsList-from_range}
use Rattle.plain.proofs.Searching.{some_below, Tested, tested_lasso}
use Rattle.plain.proofs.matrix.Matrix.has_lasso.Goals as goal
use Rattle.plain.proofs.matrix.Matrix.has_lasso.Goals.{After-any}

-- what the test finds
found : (c : After-any) → let self = c.args.self.now in
    (c.any.result ≡ true) ↔ ((t : ℕ) × (t < self.states) × Tested self.rows c.lanes_to-full.result c.reached-all.result t)
found c =
    let self = c.args.self.now in
    let P : ℕ → Type 0 = Tested self.rows c.lanes_to-full.result c.reached-all.result in
    some_below self.states P c.any.result
    (cases_from_any _ _ c.any.result P (λ t. P t → ⊥) c.any.ensures.ran (YieldsList-from_range 0 self.states self.states refl (omega arith))
    (λ x q k. search (rules, tests)) (λ x q k. search (rules, tests)))

pub returns : goal.returns
returns c =
    let self = c.args.self.now in
    let (finds, is-found) = found c in
    let (sound, complete) = tested_lasso self.states c.args.k c.args.from self.rows _ _ self.few_states c.requires c.lanes_to-full.ensures c.reached-all.ensures in
    (λ yes. sound (finds yes), λ lasso. is-found (complete lasso))
