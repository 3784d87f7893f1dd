-- Questions 4 and 5 at the byte that a reader gives.
use mathlib.Core.Path.{◌≡◌, refl, sym, ◌∙◌, ap}
use mathlib.Core.Bool.{Bool, true, false}
use mathlib.Core.List.{List, [], ◌∷◌}
use Prim.Native.Nat.{ℕ, suc, ◌-◌, ◌/◌, ◌^◌, ◌≤◌, ◌<◌}
use native.Mathlib.Omega.{arith}
use borrow.Author.Tests.{ltb-true}
use lib.Dec.{ltb}
use Rattle.base.specs.BitSet.{some}
use Rattle.base.specs.Outcome.{refused, accepted, ask}
use Rattle.base.specs.Reading.{Read}
use Rattle.base.proofs.Tests.{same_below}
use Rattle.rule.specs.Limits.{max_states}
use Rattle.table.specs.Table.{read_byte}
use Rattle.table.specs.Inner.Reader.{next_byte}

-- question 4: no byte is there
pub byte_missing : (w : ℕ) (bytes : List ℕ) → refused 4 ≡ next_byte bytes → refused 4 ≡ read_byte w bytes
unfolding read_byte
byte_missing w [] e = refl
byte_missing w (x ∷ rest) e = cc

-- the byte that is there, with question 5
byte_there : (w x : ℕ) (bytes rest : List ℕ) → accepted (x, rest) ≡ next_byte bytes
    → read_byte w bytes ≡ ask (ltb x (2 ^ w)) 5 (accepted (x, rest))
unfolding read_byte
byte_there w x [] rest e = cc
byte_there w x (y ∷ bytes) rest e =
    let pair : ◌≡◌ {A = ℕ × List ℕ} (x, rest) (y, bytes) = cc in
    rw (ap (λ (p : ℕ × List ℕ). p.0) pair, ap (λ (p : ℕ × List ℕ). p.1) pair)

-- the highest byte in which only the bits below w stand
pub highest : (w : ℕ) → w ≤ max_states → suc (255 / 2 ^ (8 - w)) ≡ 2 ^ w
unfolding some
highest w h = same_below 9 (λ w. suc (255 / 2 ^ (8 - w))) (λ w. 2 ^ w) refl w (omega arith)

-- question 5 answered yes, and no
pub byte_taken : (w x : ℕ) (bytes rest : List ℕ) → accepted (x, rest) ≡ next_byte bytes → ltb x (2 ^ w) ≡ true
    → accepted (x, rest) ≡ read_byte w bytes
byte_taken w x bytes rest e fits = sym (byte_there w x bytes rest e ∙ rw fits)

pub byte_misfit : (w x : ℕ) (bytes rest : List ℕ) → accepted (x, rest) ≡ next_byte bytes → ltb x (2 ^ w) ≡ false
    → refused 5 ≡ read_byte w bytes
byte_misfit w x bytes rest e fits = sym (byte_there w x bytes rest e ∙ rw fits)

-- a byte that passes question 5 is below the limit
pub byte_below : (w x : ℕ) (bytes rest : List ℕ) → accepted (x, rest) ≡ read_byte w bytes → x < 2 ^ w
unfolding read_byte
byte_below w x [] rest e = cc
byte_below w x (y ∷ bytes) rest e = go (ltb y (2 ^ w)) refl e
  where
    go : (b : Bool) → ltb y (2 ^ w) ≡ b → ◌≡◌ {A = Read ℕ} (accepted (x, rest)) (ask b 5 (accepted (y, bytes))) → x < 2 ^ w
    go true h e =
        let pair : ◌≡◌ {A = ℕ × List ℕ} (x, rest) (y, bytes) = cc in
        rw (ap (λ (p : ℕ × List ℕ). p.0) pair) (ltb-true y (2 ^ w) h)
    go false h e = cc
