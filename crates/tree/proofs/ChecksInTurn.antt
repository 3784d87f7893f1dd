-- The checks of a record, one byte after the other: at each place the answer is that of the bytes from there on.
use mathlib.Core.Path.{◌≡◌, refl, sym, ◌∙◌, ap}
use mathlib.Core.Bool.{Bool, true, false, ◌&&◌}
use mathlib.Core.List.{List, [], ◌∷◌, ◌++◌}
use Prim.Native.Nat.{ℕ, zero, suc, ◌+◌, ◌/◌, ◌≤◌, ◌<◌}
use native.Mathlib.Omega.{arith}
use native.Mathlib.Numerals.{add-one}
use borrow.Author.Tests.{le-leb, lt-leb}
use lib.Dec.{eqb, leb}
use lib.ListN.{length, get_or, drop, drop_of_length-le}
use lib.Seq.{drop-cons}
use Rattle.std.specs.List.{list_all, range_with_len}
use Rattle.std.proofs.lemmas.List.Folds.{list_all-append}
use Rattle.history.specs.Inner.RecordChecks.{is_host, all_host, active_fits, tags_follow, tags_fit}

-- HOSTS

-- one number more
range_more : (from count : ℕ) → range_with_len from (suc count) ≡ range_with_len from count ++ ((from + count) ∷ [])
range_more from zero = let e : from + 0 ≡ from = omega arith in rw e
range_more from (suc count) =
    let e : from + 1 + count ≡ from + suc count = omega arith in
    ap (λ (l : List ℕ). from ∷ l) (range_more (from + 1) count ∙ ap (λ (n : ℕ). range_with_len (from + 1) count ++ (n ∷ [])) e)

-- the numbers below a count are looked for from the lowest on
pub hosts_listed : (hosts : List ℕ) (count : ℕ) → list_all (λ i. is_host i hosts) (range_with_len 0 count) ≡ all_host count hosts
unfolding all_host
hosts_listed hosts zero = refl
hosts_listed hosts (suc count) =
    let e : 0 + count ≡ count = omega arith in
    ap (list_all (λ i. is_host i hosts)) (range_more 0 count ∙ ap (λ (n : ℕ). range_with_len 0 count ++ (n ∷ [])) e)
    ∙ list_all-append (λ i. is_host i hosts) (range_with_len 0 count) (count ∷ [])
    ∙ last (list_all (λ i. is_host i hosts) (range_with_len 0 count)) (is_host count hosts)
    ∙ ap (λ (b : Bool). is_host count hosts && b) (hosts_listed hosts count)
  where
    last : (a b : Bool) → (a && (b && true)) ≡ (b && a)
    last true true = refl
    last true false = refl
    last false true = refl
    last false false = refl

-- TAGS

-- the tags from a place on, behind one of depth `before`
pub record TagsAhead (k : ℕ) (tags : List ℕ) (before at : ℕ) : Type 0 where
  pub upto : at ≤ length tags
  pub shallow : before < 16
  pub ahead : tags_follow k before (drop at tags) ≡ tags_follow k 0 tags

pub tags_start : (k : ℕ) (tags : List ℕ) → TagsAhead k tags 0 0
tags_start k tags = record { upto = omega arith; shallow = omega arith; ahead = refl }

module _ {k : ℕ} {tags : List ℕ} {before at : ℕ} (v : TagsAhead k tags before at) where
  module _ (h : at < length tags) where
    abbrev depth : ℕ
    depth = get_or tags at 0 / 16

    next_tag : tags_follow k 0 tags ≡ ((leb 1 depth && leb depth (suc before))
        && (active_fits k (get_or tags at 0) && tags_follow k depth (drop (suc at) tags)))
    unfolding tags_follow
    next_tag = rw (drop-cons tags at 0 h) at (sym v.ahead)

    -- the depth is 0, or too great, or the active set does not fit
    pub tags_no_depth : depth < 1 → false ≡ tags_follow k 0 tags
    tags_no_depth e = sym (rw (lt-leb 1 depth e) at next_tag)

    pub tags_too_deep : 1 ≤ depth → before + 1 < depth → false ≡ tags_follow k 0 tags
    tags_too_deep e f = sym (rw (le-leb 1 depth e, lt-leb depth (suc before) (omega arith)) at next_tag)

    module _ (e : 1 ≤ depth) (f : depth ≤ before + 1) where
      pub tags_no_set : active_fits k (get_or tags at 0) ≡ false → false ≡ tags_follow k 0 tags
      tags_no_set g = sym (rw (le-leb 1 depth e, le-leb depth (suc before) (omega arith), g) at next_tag)

      -- the next tag follows
      pub tags_next : get_or tags at 0 < 256 → active_fits k (get_or tags at 0) ≡ true → TagsAhead k tags depth (at + 1)
      tags_next small g = rw (add-one at) (record {
        upto = h;
        shallow = omega arith;
        ahead = sym (rw (le-leb 1 depth e, le-leb depth (suc before) (omega arith), g) at next_tag);
      })

  pub tags_done : length tags ≤ at → true ≡ tags_follow k 0 tags
  unfolding tags_follow
  tags_done h = rw (drop_of_length-le tags h) at v.ahead

-- the root's tag, then those behind it
pub fit_none : (k : ℕ) (tags : List ℕ) → length tags < 1 → false ≡ tags_fit k tags
unfolding tags_fit
fit_none k [] h = refl
fit_none k (m ∷ left) h = absurd (omega arith)

pub fit_parts : (k : ℕ) (tags : List ℕ) → 1 ≤ length tags
    → tags_fit k tags ≡ (eqb (get_or tags 0 0 / 16) 0 && (active_fits k (get_or tags 0 0) && tags_follow k 0 (drop 1 tags)))
unfolding tags_fit
fit_parts k [] h = absurd (omega arith)
fit_parts k (m ∷ left) h = refl
