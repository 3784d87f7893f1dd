-- Texts that grow at their end: one piece after another, from no text on.
use mathlib.Core.Path.{◌≡◌, sym, ◌∙◌, ap}
use mathlib.Core.List.{List, ◌++◌, append_assoc}
use Prim.Native.Nat.{ℕ, ◌+◌, ◌-◌, ◌≤◌}
use native.Mathlib.Nat.{zero-add}
use native.Mathlib.Omega.{arith}
use borrow.Rule.Slice.PartMut.{put_mid}
use lib.ListN.{length, drop, replicate, length-append, length-replicate, replicate-append-replicate}
use lib.Seq.{drop_at, drop-drop}
use Rattle.base.specs.LentBuffer.{stored}
use Rattle.base.proofs.Storing.{stored_start, stored_next}
use Rattle.job.specs.JobCall.{text_room, text_of}
use Rattle.job.specs.Inner.TextCode.{appended, Appends}
use Rattle.job.specs.declared.call.Text.{Text}

-- two pieces appended are one
appended_twice : (text : Text) (a b : List ℕ) → text.length + length a + length b ≤ length text.bytes
    → appended (appended text a) b ≡ appended text (a ++ b)
unfolding appended
appended_twice text a b room =
    let none = stored_start text.bytes text.length (omega arith) in
    let both = stored_next (stored_next none a (omega arith)) b (omega arith) in
    let bytes = both.same in
    let long : text.length + length a + length b ≡ text.length + length (a ++ b) = omega (arith, length-append a b) in
    λ i. record { bytes = bytes i; length = long i }

-- the length of what was appended to
appended_length : (text : Text) (more : List ℕ) {r : Text} → r ≡ appended text more → r.length ≡ text.length + length more
unfolding appended
appended_length text more e = ap (λ (t : Text). t.length) e

-- the bytes copied to the end of a text
pub appends_copied : (text : Text) (more copied : List ℕ) → copied ≡ more → length text.bytes ≡ text_room
    → Appends text more (length more)
    (record { bytes = put_mid text.length (text.length + length more - text.length) text.bytes copied; length = text.length + length more })
unfolding appended stored
appends_copied text more copied e whole =
    let size : text.length + length more - text.length ≡ length more = omega arith in
    record { size = whole; same = rw (e, size, drop-drop (length more) text.length text.bytes); long = omega arith }

module _ {text r : Text} {a : List ℕ} {m : ℕ} where
  -- how long the piece is
  appends_short : Appends text a m r → length a ≤ m
  appends_short A = omega (arith, A.long, appended_length text a A.same)

  -- another bound
  pub appends_most : Appends text a m r → (n : ℕ) → length a ≤ n → Appends text a n r
  appends_most A n h = record { size = A.size; same = A.same; long = omega (arith, appended_length text a A.same) }

  -- one piece after another
  pub appends_both : {middle : Text} {b : List ℕ} {n : ℕ} → Appends text a m middle → Appends middle b n r
      → text.length + (m + n) ≤ text_room → Appends text (a ++ b) (m + n) r
  appends_both {middle = middle} {b = b} A B room = record {
    size = A.size;
    same = B.same ∙ ap (λ (t : Text). appended t b) A.same
        ∙ appended_twice text a b (omega (arith, A.size, appended_length text a A.same, A.long, B.long, appended_length middle b B.same));
    long = omega (arith, A.long, B.long);
  }

-- three pieces, the last two as one
pub appends_regroup : {text r : Text} {m : ℕ} (a b d : List ℕ) → Appends text ((a ++ b) ++ d) m r → (n : ℕ) → m ≤ n → Appends text (a ++ (b ++ d)) n r
appends_regroup a b d A n h = rw (← append_assoc a b d) (record { size = A.size; same = A.same; long = omega (arith, A.long) })

-- no text
abbrev pub nothing : Text
nothing = record { bytes = replicate text_room 0; length = 0 }

-- zeros stay behind what is appended to no text
zeros_behind : (n m : ℕ) → n ≤ m → drop n (replicate {A = ℕ} m 0) ≡ replicate (m - n) 0
zeros_behind n m h =
    let whole : n + (m - n) ≡ m = omega arith in
    ap (λ (c : ℕ). drop n (replicate c 0)) (sym whole) ∙ ap (drop n) (sym (replicate-append-replicate n (m - n) 0))
    ∙ drop_at (replicate n 0) (replicate (m - n) 0) n (length-replicate {A = ℕ} n 0)

pub from_nothing : {r : Text} {l : List ℕ} {most : ℕ} → Appends nothing l most r → most ≤ text_room → r ≡ text_of l
unfolding appended text_of stored
from_nothing {r} {l} A room = A.same ∙ λ i. record { bytes = bytes i; length = zero-add (length l) i }
  where
    bytes : l ++ drop (0 + length l) (replicate text_room 0) ≡ l ++ replicate (text_room - length l) 0
    bytes = ap (l ++◌) (ap (λ (c : ℕ). drop c (replicate text_room 0)) (zero-add (length l)) ∙ zeros_behind (length l) text_room (omega (arith, appends_short A)))
