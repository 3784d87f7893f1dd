-- A witness by positions: a name that is stable from the end of round e on for ever, and accepting at one place of each p rounds. Nothing is
-- asked of the rule and of what a letter does.
use mathlib.Core.Path.{◌≡◌, sym, ◌∙◌}
use mathlib.Core.Bool.{Bool, true}
use mathlib.Core.List.{List}
use Prim.Native.Nat.{ℕ, ◌+◌, ◌*◌, ◌≤◌, ◌<◌}
use native.Mathlib.Omega.{arith}
use native.Mathlib.Nat.{mul-pos, mul-le-mul_left, mul-le-mul_right}
use lib.ListN.{length, get_or}
use Rattle.rule.specs.Rule.{Rule}
use Rattle.word.specs.Walk.{letter_at}
use Rattle.word.proofs.Positions.{letter_round}
use Rattle.history.specs.Tree.{Tree}
use Rattle.history.specs.Letter.{stable, accepting}
use Rattle.history.specs.Rounds.{round_tree, tree_in_round, FirstRepeat}
use Rattle.history.specs.Verdict.{Witness}
use Rattle.history.proofs.Walk.TreesOfWalk.{tree_at, tree_in_round_lem, walk_periodic}
use Rattle.history.proofs.Walk.RoundPositions.{letters_back, place_in, place_within, place_again, letter_of}

-- is the node of that name stable at a position, is it accepting?
abbrev pub stable_at : Rule → List ℕ → List ℕ → List ℕ → ℕ → Bool
stable_at R u v w p = stable R (letter_at u v p) (tree_at R u v p) w

abbrev pub accepting_at : Rule → List ℕ → List ℕ → List ℕ → ℕ → Bool
accepting_at R u v w p = accepting R (letter_at u v p) (tree_at R u v p) w

pub record Lasts (R : Rule) (u v : List ℕ) (entry period : ℕ) (w : List ℕ) : Type 0 where
  pub stays : (p : ℕ) → length u + entry * length v ≤ p → stable_at R u v w p ≡ true
  pub place : ℕ
  pub within : place < period * length v
  pub accepts : (j : ℕ) → accepting_at R u v w (length u + entry * length v + (place + j * (period * length v))) ≡ true

-- it is accepting as late as one likes
pub accepts_late : {R : Rule} {u v : List ℕ} {entry period : ℕ} {w : List ℕ} → Lasts R u v entry period w → (from : ℕ)
    → (p : ℕ) × (from ≤ p) × (accepting_at R u v w p ≡ true)
accepts_late {R} {u} {v} {entry} {period} {w} L from = (
  length u + entry * length v + (L.place + from * (period * length v)),
  omega (arith, mul-le-mul_left {m = 1} {n = period * length v} from (omega (arith, L.within))),
  L.accepts from,
)

module _ (R : Rule) (u v : List ℕ) (filled : 1 ≤ length v) (entry period : ℕ) (F : FirstRepeat (round_tree R u v) entry period)
    (start : ℕ) (late : entry ≤ start) where
  -- what is asked of a letter and of the tree before it returns after p rounds, and is in a round what it is at the position
  module _ {A : Type 0} (f : ℕ → Tree → A) where
    pub asked_back : (d p : ℕ) → length u + start * length v ≤ p
        → f (letter_at u v (p + d * (period * length v))) (tree_at R u v (p + d * (period * length v))) ≡ f (letter_at u v p) (tree_at R u v p)
    asked_back d p h =
        let e : p + d * (period * length v) ≡ p + d * period * length v = omega arith in
        rw (
          walk_periodic R u v filled entry period F d p (omega (arith, mul-le-mul_right (length v) late)),
          e,
          letters_back u v (d * period) p (omega arith),
        )

    pub asked_round : (r i : ℕ) → i < length v → f (letter_at u v (length u + r * length v + i)) (tree_at R u v (length u + r * length v + i))
        ≡ f (get_or v i 0) (tree_in_round R u v r i)
    asked_round r i h = rw (letter_round u v r i h, tree_in_round_lem R u v filled r i (omega arith))

  module _ (w : List ℕ) where
    -- a witness of rounds s+1 to s+p, from the entry on, lasts from the end of round s on
    pub witness_lasts : Witness R u v start period w → Lasts R u v start period w
    witness_lasts W = record {
      stays = λ p h.
          let (r, i, there, same) =
          letter_of u v start period (stable_at R u v w) (asked_back (λ a T. stable R a T w)) filled F.positive p h in
          same ∙ asked_round (λ a T. stable R a T w) r i there.within ∙ W.stays r i there;
      place = place_in v start W.round W.place;
      within = place_within W.there;
      accepts = λ j. place_again u v start period (accepting_at R u v w) (asked_back (λ a T. accepting R a T w)) W.there j
          ∙ asked_round (λ a T. accepting R a T w) W.round W.place W.there.within ∙ W.accepts;
    }

    -- a name that is stable from some position on, and accepting at one behind the end of round s, is a witness
    pub lasts_witness : (from : ℕ) → ((p : ℕ) → from ≤ p → stable_at R u v w p ≡ true)
        → (q : ℕ) → length u + start * length v ≤ q → accepting_at R u v w q ≡ true → Witness R u v start period w
    lasts_witness from stays q behind accepts =
        let (round, place, there, same) =
        letter_of u v start period (accepting_at R u v w) (asked_back (λ a T. accepting R a T w)) filled F.positive q behind in
        record {
          stays = λ r i l. sym (asked_round (λ a T. stable R a T w) r i l.within)
              ∙ sym (place_again u v start period (stable_at R u v w) (asked_back (λ a T. stable R a T w)) l from)
              ∙ stays _ (omega (arith, mul-le-mul_left {m = 1} {n = period * length v} from (mul-pos F.positive filled)));
          round = round;
          place = place;
          there = there;
          accepts = sym (asked_round (λ a T. accepting R a T w) round place there.within) ∙ sym same ∙ accepts;
        }
