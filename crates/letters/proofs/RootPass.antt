-- Letters read for the root alone: the loop over the letters, and a place and its root in one word.
use mathlib.Core.Path.{◌≡◌, refl, sym, ◌∙◌, ap}
use mathlib.Core.Bool.{Bool, true, false, cond}
use mathlib.Core.List.{List, [], ◌∷◌, ◌++◌}
use Prim.Native.Nat.{ℕ, suc, ◌+◌, ◌*◌, ◌/◌, ◌%◌, ◌^◌, ◌≤◌, ◌<◌}
use native.Mathlib.Decide.{dec_le}
use native.Mathlib.Numerals.{add-one}
use native.Mathlib.Omega.{arith}
use borrow.Author.Tests.{eqb-true, eqb-false}
use lib.Dec.{eqb}
use lib.ListN.{length, get_or, take, drop, length-take, length-drop, take-append-drop}
use lib.Seq.{take-suc, take-take, take-add}
use Rattle.std.specs.Int.{from_bool}
use Rattle.base.specs.Lists.{Every}
use Rattle.base.proofs.Every.{append_every}
use Rattle.rule.specs.Limits.{max_letters, max_sets}
use Rattle.rule.specs.Inner.Lookup.{Lookup}
use Rattle.word.specs.Inner.WalkLookups.{Lookups}
use Rattle.history.specs.Inner.Root.{Root}
use Rattle.history.proofs.Root.RootLetter.{settled_active}
use Rattle.letters.specs.Inner.RootPass.{root_by, roots_by, Passable, AloneAt, place_in, root_in}

-- A PLACE AND ITS ROOT IN ONE WORD

-- the word that the code makes
abbrev pub alone_word : ℕ → Root → ℕ
alone_word place r = place * 4294967296 + from_bool r.accepted * 16777216 + r.active * 65536 + r.label

-- a truth value as a number is at most 1
pub bit_small : (b : Bool) → cond b 1 0 ≤ 1
bit_small true = omega arith
bit_small false = omega arith

-- a root as it stands where it is alone
abbrev pub childless : Root → Root
childless r = record { label = r.label; kids = 0; active = r.active; accepted = r.accepted }

childless_is : (r : Root) → r.kids ≡ 0 → childless r ≡ r
childless_is r none = ap (λ (x : ℕ). record { label = r.label; kids = x; active = r.active; accepted = r.accepted }) (sym none)

pub word_packed : (place : ℕ) (r : Root) → r.label < 2 ^ 16 → r.active < 2 ^ 8
    → (place_in (alone_word place r) ≡ place) × (root_in (alone_word place r) ≡ childless r)
unfolding place_in root_in
word_packed place r l a = go r.accepted refl
  where
    parts : (bit : ℕ) → bit ≤ 1 → let word = place * 4294967296 + bit * 16777216 + r.active * 65536 + r.label in
        (word / 2 ^ 32 ≡ place) × (word % 2 ^ 16 ≡ r.label) × (word / 2 ^ 16 % 2 ^ 8 ≡ r.active) × (word / 2 ^ 24 % 2 ^ 8 ≡ bit)
    parts bit h = (omega arith, omega arith, omega arith, omega arith)

    go : (b : Bool) → r.accepted ≡ b → (place_in (alone_word place r) ≡ place) × (root_in (alone_word place r) ≡ childless r)
    go true e = let (above, label, active, bit) = parts 1 (bit_small true) in rw e (above, rw (label, active, bit))
    go false e = let (above, label, active, bit) = parts 0 (bit_small false) in rw e (above, rw (label, active, bit))

-- LETTER BY LETTER

-- the letters of two stretches
pub roots_append : (lookups : Lookups) (k : ℕ) (w w' : List ℕ) (r : Root)
    → roots_by lookups k (w ++ w') r ≡ roots_by lookups k w' (roots_by lookups k w r)
unfolding roots_by
roots_append lookups k [] w' r = refl
roots_append lookups k (a ∷ w) w' r = roots_append lookups k w w' (root_by (get_or lookups a []) k r)

-- a letter more
roots_more : (lookups : Lookups) (k : ℕ) (w : List ℕ) (at : ℕ) (r : Root) → at < length w
    → roots_by lookups k (take (suc at) w) r ≡ root_by (get_or lookups (get_or w at 0) []) k (roots_by lookups k (take at w) r)
unfolding roots_by
roots_more lookups k w at r h = rw (take-suc w at 0 h, roots_append)

-- the active set has images after a letter, too
root_fits : (lookup : Lookup) (k : ℕ) (r : Root) → k ≤ max_sets → r.active ≤ max_sets → (root_by lookup k r).active ≤ max_sets
unfolding root_by
root_fits lookup k r room = (settled_active k max_sets _ _ r room (omega arith)).1

-- the root behind the first `at` letters of w, and the last place up to there where it was alone
pub record PassedUpTo (lookups : Lookups) (k : ℕ) (w : List ℕ) (first : Root) (at : ℕ) (r : Root) (last : ℕ) : Type 0 where
  pub upto : at ≤ length w
  pub root : r ≡ roots_by lookups k (take at w) first
  pub active : r.active ≤ max_sets
  pub here : 0 < place_in last → AloneAt lookups k w first (place_in last) (root_in last)
  pub within : place_in last ≤ at
  pub latest : (i : ℕ) → place_in last < i → i ≤ at → (roots_by lookups k (take i w) first).kids ≡ 0 → ⊥

module _ (lookups : Lookups) (k : ℕ) (w : List ℕ) (first : Root) (can : Passable k w first) where
  -- at the start
  pub passed_none : PassedUpTo lookups k w first 0 first 0
  unfolding roots_by place_in
  passed_none = record {
    upto = omega arith;
    root = refl;
    active = can.active;
    here = λ some. absurd (omega arith);
    within = omega arith;
    latest = λ i low high. absurd (omega arith);
  }

  -- a letter more: the place behind it is the last one, or the one before
  pub passed_more : (at : ℕ) (r : Root) (last : ℕ) → PassedUpTo lookups k w first at r last → at < length w
      → (next : Root) → next ≡ root_by (get_or lookups (get_or w at 0) []) k r
      → (here : ℕ) → (place_in here ≡ at + 1) × (root_in here ≡ childless next)
      → PassedUpTo lookups k w first (at + 1) next (cond (eqb next.kids 0) here last)
  passed_more at r last v h next is here (place, root) = go (eqb next.kids 0) refl
    where
      reads : next ≡ roots_by lookups k (take (at + 1) w) first
      reads = is ∙ rw (v.root, add-one) (sym (roots_more lookups k w at first h))

      fits : next.active ≤ max_sets
      fits = rw is (root_fits (get_or lookups (get_or w at 0) []) k r can.sets v.active)

      go : (none : Bool) → eqb next.kids 0 ≡ none → PassedUpTo lookups k w first (at + 1) next (cond none here last)
      go true e =
          let none : next.kids ≡ 0 = eqb-true next.kids 0 e in
          let there : root_in here ≡ next = root ∙ childless_is next none in
          record {
            upto = omega arith;
            root = reads;
            active = fits;
            here = λ some. rw (there, place) (record { some = omega arith; upto = omega arith; root = reads; alone = none });
            within = omega (arith, place);
            latest = λ i low high. absurd (omega (arith, place));
          }
      go false e = record {
        upto = omega arith;
        root = reads;
        active = fits;
        here = v.here;
        within = omega (arith, v.within);
        latest = λ i low high none. later i low high none (dec_le i at);
      }
        where
          later : (i : ℕ) → place_in last < i → i ≤ at + 1 → (roots_by lookups k (take i w) first).kids ≡ 0 → Dec (i ≤ at) → ⊥
          later i low high none (yes before) = v.latest i low before none
          later i low high none (no after) = let same : i ≡ at + 1 = omega arith in
              eqb-false next.kids 0 e (ap (λ (x : Root). x.kids) reads ∙ (rw same at none))

-- PARTS OF A STRETCH

-- the root has images for its active set after any letters
roots_fit : (lookups : Lookups) (k : ℕ) (w : List ℕ) (r : Root) → k ≤ max_sets → r.active ≤ max_sets
    → (roots_by lookups k w r).active ≤ max_sets
unfolding roots_by
roots_fit lookups k [] r hk ha = ha
roots_fit lookups k (a ∷ w) r hk ha = roots_fit lookups k w _ hk (root_fits (get_or lookups a []) k r hk ha)

module _ (lookups : Lookups) (k : ℕ) (w : List ℕ) (first : Root) (can : Passable k w first) (n : ℕ) where
  parts_small : Every (λ a. a < max_letters) (take n w) × Every (λ a. a < max_letters) (drop n w)
  parts_small = append_every (λ a. a < max_letters) (take n w) (drop n w) (rw (take-append-drop n w) can.letters)

  -- a first part can be read, and what is behind it, from the root there
  pub front_passable : Passable k (take n w) first
  front_passable =
      record { sets = can.sets; active = can.active; letters = parts_small.0; short = omega (arith, can.short, length-take n w) }

  pub rest_passable : (place : ℕ) (r : Root) → r ≡ roots_by lookups k (take place w) first → Passable k (drop n w) r
  rest_passable place r is = record {
    sets = can.sets;
    active = rw is (roots_fit lookups k (take place w) first can.sets can.active);
    letters = parts_small.1;
    short = omega (arith, can.short, length-drop n w);
  }

module _ (lookups : Lookups) (k : ℕ) (w : List ℕ) (first : Root) where
  -- a place in the first part is one in the whole
  pub alone_front : (n place : ℕ) (r : Root) → AloneAt lookups k (take n w) first place r → AloneAt lookups k w first place r
  alone_front n place r v =
      let low : place ≤ n = omega (arith, v.upto, length-take n w) in
      record {
        some = v.some;
        upto = omega (arith, v.upto, length-take n w);
        root = v.root ∙ ap (λ (l : List ℕ). roots_by lookups k l first) (take-take place n w low);
        alone = v.alone;
      }

  -- a place behind a place
  pub alone_behind : (n place : ℕ) (there r : Root) → AloneAt lookups k w first n there
      → AloneAt lookups k (drop n w) there place r → AloneAt lookups k w first (n + place) r
  unfolding roots_by
  alone_behind n place there r v b = record {
    some = omega (arith, v.some);
    upto = omega (arith, v.upto, b.upto, length-drop n w);
    root = b.root ∙ rw v.root (sym (roots_append lookups k (take n w) (take place (drop n w)) first)
        ∙ ap (λ (l : List ℕ). roots_by lookups k l first) (sym (take-add n place w)));
    alone = b.alone;
  }
