-- The unions of older siblings' labels: they are the same before these siblings lose states to one another and after, and what such a
-- union takes from a sibling is what step 3 takes.
use mathlib.Core.Path.{◌≡◌, refl}
use mathlib.Core.Bool.{Bool, true, false, not, ◌&&◌, ◌||◌}
use Prim.Native.Nat.{ℕ}
use lib.Bits.{bit_or, or_zero_r}
use Rattle.base.specs.BitSet.{member, minus}
use Rattle.base.proofs.BitSet.{member_union, member_minus, set_ext}
use Rattle.history.specs.Forest.{Forest, nil, node}
use Rattle.history.specs.Letter.{Grown, separated}
use Rattle.history.specs.OlderSiblings.{apart_above, without_older, older_labels_from, older_labels}

-- a label joined to what its older siblings hold, whole or less what these hold
joined_same : (above set label : ℕ) → bit_or set (minus label above) ≡ bit_or set (minus label (bit_or above set))
joined_same above set label = set_ext _ _ (λ q. simp (member_union, member_minus) (go (member above q) (member set q) (member label q)))
  where
    go : (a s l : Bool) → (s || (l && not a)) ≡ (s || (l && not (a || s)))
    go true true l = refl
    go true false l = refl
    go false true l = refl
    go false false l = refl

-- and what is held then, by these and by what is older above
joined_above : (above set label : ℕ) → bit_or (bit_or above set) label ≡ bit_or above (bit_or set (minus label above))
joined_above above set label = set_ext _ _ (λ q. simp (member_union, member_minus) (go (member above q) (member set q) (member label q)))
  where
    go : (a s l : Bool) → ((a || s) || l) ≡ (a || (s || (l && not a)))
    go true s l = refl
    go false true l = refl
    go false false true = refl
    go false false false = refl

-- siblings, where their older siblings hold `set` and those of their ancestors `above`
older_labels_from_lem : (above set : ℕ) (F : Forest Grown)
    → older_labels_from set (apart_above above (bit_or above set) F) ≡ older_labels_from set (separated (bit_or above set) F)
unfolding older_labels_from apart_above separated
older_labels_from_lem above set nil = refl
older_labels_from_lem above set (node x below younger) =
    let down : older_labels_from 0 (apart_above (bit_or above set) (bit_or above set) below) ≡ older_labels_from 0 (separated (bit_or above set) below)
    = rw (or_zero_r (bit_or above set)) at (older_labels_from_lem (bit_or above set) 0 below) in
    rw (
      ← joined_same above set x.label,
      joined_above above set x.label,
      older_labels_from_lem above (bit_or set (minus x.label above)) younger,
      down,
    )

pub older_labels_same : (F : Forest Grown) → older_labels (apart_above 0 0 F) ≡ older_labels (separated 0 F)
unfolding older_labels
older_labels_same F = older_labels_from_lem 0 0 F

-- what leaves a label in two parts
minus_union : (label above set : ℕ) → minus label (bit_or above set) ≡ minus (minus label above) set
minus_union label above set = set_ext _ _ (λ q. simp (member_union, member_minus) (go (member label q) (member above q) (member set q)))
  where
    go : (l a s : Bool) → (l && not (a || s)) ≡ ((l && not a) && not s)
    go true true s = refl
    go true false s = refl
    go false true s = refl
    go false false s = refl

by_sets_from : (above set : ℕ) (F : Forest Grown)
    → separated (bit_or above set) F ≡ without_older set (apart_above above (bit_or above set) F)
unfolding separated apart_above without_older
by_sets_from above set nil = refl
by_sets_from above set (node x below younger) =
    let down : separated (bit_or above set) below ≡ without_older 0 (apart_above (bit_or above set) (bit_or above set) below)
    = rw (or_zero_r (bit_or above set)) at (by_sets_from (bit_or above set) 0 below) in
    rw (
      minus_union x.label above set,
      joined_above above set x.label,
      by_sets_from above (bit_or set (minus x.label above)) younger,
      down,
    )

pub step_three_by_sets : (F : Forest Grown) → separated 0 F ≡ without_older 0 (apart_above 0 0 F)
step_three_by_sets F = by_sets_from 0 0 F
