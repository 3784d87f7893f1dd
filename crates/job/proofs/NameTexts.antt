-- Names as texts: the numbers behind the first one by one, each behind a dot.
use mathlib.Core.Path.{◌≡◌, refl, ap}
use mathlib.Core.List.{List, [], ◌∷◌, ◌++◌, flat_map, append-nil}
use Prim.Native.Nat.{ℕ, suc, ◌+◌, ◌*◌, ◌≤◌, ◌<◌}
use native.Mathlib.Omega.{arith}
use native.Mathlib.Numerals.{add-one}
use lib.ListN.{length, take, drop, get_or, length-drop}
use lib.Seq.{take-suc, take_all}
use Rattle.base.proofs.Flattening.{flat_map_append}
use Rattle.job.specs.Ascii.{ascii}
use Rattle.job.specs.JobCall.{digits, dotted, name_text, text_room}
use Rattle.job.specs.Inner.TextCode.{Appends}
use Rattle.job.specs.declared.call.Text.{Text}
use Rattle.job.proofs.Appending.{appends_most, appends_both, appends_regroup}
use Rattle.job.proofs.DecimalDigits.{digits_short}

-- a byte has at most three digits
byte_digits : (x : ℕ) → x < 256 → length (digits x) ≤ 3
byte_digits x h = digits_short 2 x (omega arith)

-- the root's name
pub name_root : (name : List ℕ) → length name < 1 → name_text name ≡ ascii "-"
unfolding name_text
name_root [] h = refl
name_root (x ∷ others) h = absurd (omega arith)

-- any other: the first number, then the others
name_whole : (name : List ℕ) → 1 ≤ length name → name_text name ≡ digits (get_or name 0 0) ++ flat_map dotted (drop 1 name)
unfolding name_text
name_whole [] h = absurd (omega arith)
name_whole (x ∷ others) h = refl

-- the first number stands behind a text, and so many of the others, at most four bytes for each
pub record DottedSoFar (first : ℕ) (others : List ℕ) (start text : Text) (i : ℕ) : Type 0 where
  pub says : Appends start (digits first ++ flat_map dotted (take i others)) (3 + 4 * i) text

pub dotted_start : (first : ℕ) (others : List ℕ) (start text : Text) → first < 256 → {most : ℕ} → Appends start (digits first) most text → DottedSoFar first others start text 0
unfolding flat_map
dotted_start first others start text byte A = record { says = rw append-nil (appends_most A 3 (byte_digits first byte)) }

pub dotted_turn : (first : ℕ) (others : List ℕ) (start text next : Text) (i : ℕ) → DottedSoFar first others start text i → i < length others
    → get_or others i 0 < 256 → start.length + (3 + 4 * suc i) ≤ text_room
    → {most : ℕ} → Appends text (dotted (get_or others i 0)) most next → DottedSoFar first others start next (i + 1)
unfolding dotted flat_map
dotted_turn first others start text next i v h byte room A =
    let both = appends_both v.says (appends_most A 4 (omega (arith, byte_digits (get_or others i 0) byte))) (omega arith) in
    record {
      says = rw (add-one i, take-suc others i 0 h, flat_map_append dotted (take i others) (get_or others i 0 ∷ []), append-nil (dotted (get_or others i 0)))
          (appends_regroup (digits first) (flat_map dotted (take i others)) (dotted (get_or others i 0)) both _ (omega arith));
    }

pub dotted_done : (name others : List ℕ) (start text : Text) (i : ℕ) → DottedSoFar (get_or name 0 0) others start text i → i ≤ length others
    → length others ≤ i → others ≡ drop 1 name → 1 ≤ length name → length name ≤ 7 → Appends start (name_text name) 28 text
dotted_done name others start text i v low high behind some most =
    let few : i ≤ 6 = omega (arith, ap length behind, length-drop 1 name) in
    rw (name_whole name some, ← behind, ← take_all i others high) (record { size = v.says.size; same = v.says.same; long = omega (arith, v.says.long) })
