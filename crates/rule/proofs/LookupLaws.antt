-- Two entries of a letter's look-up give the image of any set of states under each of its relations: so a look-up gives the
-- successors of a set of states, and those by transitions of one set.
use mathlib.Core.Path.{◌≡◌, sym, ◌∙◌, ap, ap₂}
use mathlib.Core.Bool.{Bool, ◌&&◌}
use mathlib.Core.List.{List, [], ◌++◌}
use Prim.Native.Nat.{ℕ, zero, suc, ◌+◌, ◌*◌, ◌/◌, ◌%◌, ◌^◌, ◌≤◌, ◌<◌}
use native.Mathlib.Omega.{arith}
use borrow.Author.Tests.{lt-ltb}
use lib.Bits.{bit_or, or_shifted_r}
use lib.ListN.{length, get_or, get_or-append}
use lib.Seq.{get_or-append-add}
use Rattle.base.specs.BitSet.{member, image}
use Rattle.base.specs.Lists.{tabulate}
use Rattle.base.proofs.BitSet.{member_union, collect_members, image_lt, image_union, image_mod}
use Rattle.base.proofs.Tabulate.{length_tabulate, get_d_tabulate}
use Rattle.rule.specs.Inner.Lanes.{lane_width, lanes, set_lanes, map_of}
use Rattle.rule.specs.Rule.{Rule, cell_at, edge, edge_in, successors, successors_in}
use Rattle.rule.specs.WellFormed.{WellFormed}
use Rattle.rule.specs.Inner.Padded.{padded}
use Rattle.rule.specs.Inner.Lookup.{relation, images, Lookup, letter_lookup, images_by, look_up}
use Rattle.rule.proofs.ByRelation.{relations_ext, relations_union, relations_at}
use Rattle.rule.proofs.Padding.{image_padded, image_padded_in}

-- a union leads where its parts lead, by each relation
pub images_union : (square : List (List ℕ)) (s t : ℕ) → images square (bit_or s t) ≡ bit_or (images square s) (images square t)
unfolding images
images_union square s t = relations_ext _ _ (λ i r h l. ap (λ (x : ℕ). member x r) (image_union lane_width (relation square i) s t)
    ∙ member_union _ _ r) ∙ sym (relations_union _ _)

-- an image from a look-up's entry
images_at : (square : List (List ℕ)) (i s : ℕ) → i < lanes → map_of (images square s) i ≡ image lane_width (relation square i) s
unfolding images
images_at square i s h = relations_at (λ i r. member (image lane_width (relation square i) s) r) i h
    ∙ collect_members lane_width (image lane_width (relation square i) s) (image_lt lane_width (relation square i) s)

-- the look-up in a letter's look-up gives the image under the letter's relation i, for each lane
pub look_up_image : (square : List (List ℕ)) (i s : ℕ) → i < lanes
    → look_up (letter_lookup square) i s ≡ image lane_width (relation square i) s
unfolding look_up images_by letter_lookup
look_up_image square i s h = ap (λ (x : ℕ). map_of x i) (ap₂ bit_or first second
    ∙ sym (images_union square (s % 16) (16 * (s / 16 % 16))) ∙ ap (images square) both)
    ∙ images_at square i (s % 2 ^ lane_width) h ∙ image_mod lane_width (relation square i) s
  where
    low : Lookup
    low = tabulate 16 (λ j. images square j)

    high : Lookup
    high = tabulate 16 (λ j. images square (16 * j))

    size : length low ≡ 16
    size = length_tabulate 16 (λ j. images square j)

    first : get_or (low ++ high) (s % 16) 0 ≡ images square (s % 16)
    first = get_or-append low high 0 (s % 16) (omega (arith, size))
        ∙ get_d_tabulate 16 (λ j. images square j) (s % 16) 0 (omega arith)

    second : get_or (low ++ high) (16 + s / 16 % 16) 0 ≡ images square (16 * (s / 16 % 16))
    second = ap (λ (n : ℕ). get_or (low ++ high) (n + s / 16 % 16) 0) (sym size) ∙ get_or-append-add low high (s / 16 % 16) 0
        ∙ get_d_tabulate 16 (λ j. images square (16 * j)) (s / 16 % 16) 0 (omega arith)

    both : bit_or (s % 16) (16 * (s / 16 % 16)) ≡ s % 2 ^ lane_width
    both = let e : 16 * (s / 16 % 16) ≡ s / 16 % 16 * 2 ^ 4 = omega arith in
        ap (bit_or (s % 16)) e ∙ or_shifted_r (s / 16 % 16) 4 (s % 16) (omega arith) ∙ omega arith

-- of the rule that the arrays hold: the successors of any set, and those by transitions of set i
module _ (R : Rule) (well : WellFormed R) (small : R.states ≤ lane_width) where
  pub look_up_successors : (a s : ℕ) → look_up (letter_lookup (get_or (padded R.grid) a [])) 0 s ≡ successors R a s
  unfolding relation edge cell_at
  look_up_successors a s = look_up_image (get_or (padded R.grid) a []) 0 s (omega arith) ∙ image_padded R well lane_width small a s

  pub look_up_successors_in : (i a s : ℕ) → 1 ≤ i → i ≤ set_lanes
      → look_up (letter_lookup (get_or (padded R.grid) a [])) i s ≡ successors_in R i a s
  unfolding relation edge_in edge cell_at
  look_up_successors_in zero a s low high = absurd (omega arith)
  look_up_successors_in (suc i) a s low high = look_up_image (get_or (padded R.grid) a []) (suc i) s (omega arith)
      ∙ image_padded_in R well lane_width small (suc i) a s _
      (λ q r. ap (λ (b : Bool). b && edge_in (padded R.grid) (suc i) a q r) (lt-ltb i set_lanes (omega arith)))
