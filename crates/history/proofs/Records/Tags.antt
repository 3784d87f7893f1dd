-- The tags of a tree pass the checks of tags, and tags that pass them are those of some tree.
use mathlib.Core.Path.{◌≡◌, refl, sym, ◌∙◌, ap, ap₂}
use mathlib.Core.Bool.{true, ◌&&◌}
use mathlib.Core.List.{List, [], ◌∷◌, ◌++◌, append_assoc}
use Prim.Native.Nat.{ℕ, zero, suc, ◌+◌, ◌*◌, ◌/◌, ◌%◌, ◌≤◌, ◌<◌}
use native.Mathlib.Omega.{arith}
use native.Mathlib.Decide.{dec_lt}
use borrow.Author.Tests.{eqb-true, eq-eqb, leb-true, le-leb}
use lib.Dec.{eqb, leb}
use lib.ListN.{length, length-append}
use Rattle.base.proofs.Logic.{clash, and_both, and_in}
use Rattle.history.specs.Forest.{nil, node, size}
use Rattle.history.specs.Tree.{Node, Tree}
use Rattle.history.specs.Record.{tags}
use Rattle.history.specs.Inner.RecordChecks.{active_fits, tags_follow, tags_fit}
use Rattle.history.proofs.Tree.Conditions.{Active}
use Rattle.history.proofs.Records.HostLabels.{relabelled}
use Rattle.history.proofs.Records.RecordOfTree.{Shallower}

-- tags do not depend on labels
pub tags_relabelled : (label : ℕ → ℕ → ℕ) (i d : ℕ) (F : Tree) → tags d (relabelled label i F) ≡ tags d F
unfolding tags relabelled
tags_relabelled label i d nil = refl
tags_relabelled label i d (node x below younger) =
    rw (tags_relabelled label (suc i) (suc d) below, tags_relabelled label (suc (i + size below)) d younger)

-- THE TAGS OF A TREE PASS

-- an active set is read back from its tag
active_in : (k d a : ℕ) → 1 ≤ a → a ≤ k → k < 16 → active_fits k (16 * d + a) ≡ true
unfolding active_fits
active_in k d a low high h = let e : (16 * d + a) % 16 ≡ a = omega arith in
    rw e (and_both (leb 1 a) (leb a k) (le-leb 1 a low) (le-leb a k high))

-- the tags of siblings and of all below them, behind a tag of at least their parent's depth d
follow_in : (k d e : ℕ) (F : Tree) (left : List ℕ) → Active k F → k < 16 → d ≤ e
    → ((c : ℕ) → d ≤ c → tags_follow k c left ≡ true) → tags_follow k e (tags (suc d) F ++ left) ≡ true
unfolding tags tags_follow
follow_in k d e nil left w h l rest = rest e l
follow_in k d e (node x below younger) left (low, high, down, on) h l rest =
    let depth : (16 * suc d + x.active) / 16 ≡ suc d = omega arith in
    rw (depth, append_assoc (tags (suc (suc d)) below) (tags (suc d) younger) left)
    (and_both (leb 1 (suc d) && leb (suc d) (suc e)) _
    (and_both (leb 1 (suc d)) _ (le-leb 1 (suc d) (omega arith)) (le-leb (suc d) (suc e) (omega arith)))
    (and_both (active_fits k (16 * suc d + x.active)) _ (active_in k (suc d) x.active low high h)
    (follow_in k (suc d) (suc d) below (tags (suc d) younger ++ left) down h (omega arith)
    (λ c g. follow_in k d c younger left on h (omega arith) rest))))

-- the tags of a root and of all below it
pub tags_in : (k : ℕ) (x : Node) (below : Tree) → Active k (node x below nil) → k < 16 → tags_fit k (tags 0 (node x below nil)) ≡ true
unfolding tags tags_fit tags_follow
tags_in k x below (low, high, down, on) h =
    let depth : (16 * 0 + x.active) / 16 ≡ 0 = omega arith in
    and_both (eqb ((16 * 0 + x.active) / 16) 0) _ (eq-eqb ((16 * 0 + x.active) / 16) 0 depth)
    (and_both (active_fits k (16 * 0 + x.active)) _ (active_in k 0 x.active low high h)
    (follow_in k 0 0 below [] down h (omega arith) (λ c g. refl)))

-- TAGS THAT PASS ARE THOSE OF A TREE

-- the first tag, if any, is at most of depth d
abbrev AtMost : ℕ → List ℕ → Type 0
AtMost d [] = Unit {0}
AtMost d (m ∷ left) = m / 16 ≤ d

-- each tag has an active set from 1 to k and a depth of at least 1; the next is at most one deeper
abbrev Followed : ℕ → List ℕ → Type 0
Followed k [] = Unit {0}
Followed k (m ∷ left) = (1 ≤ m % 16) × (m % 16 ≤ k) × (1 ≤ m / 16) × AtMost (suc (m / 16)) left × Followed k left

-- the tests say so
active_out : (k m : ℕ) → active_fits k m ≡ true → (1 ≤ m % 16) × (m % 16 ≤ k)
unfolding active_fits
active_out k m h = let (low, high) = and_in (leb 1 (m % 16)) _ h in (leb-true 1 (m % 16) low, leb-true (m % 16) k high)

follow_out : (k d : ℕ) (left : List ℕ) → tags_follow k d left ≡ true → AtMost (suc d) left × Followed k left
unfolding tags_follow
follow_out k d [] h = (tt, tt)
follow_out k d (m ∷ left) h =
    let (depth, rest) = and_in (leb 1 (m / 16) && leb (m / 16) (suc d)) _ h in
    let (deep, near) = and_in (leb 1 (m / 16)) _ depth in
    let (active, more) = and_in (active_fits k m) _ rest in
    let (low, high) = active_out k m active in
    let (next, all) = follow_out k (m / 16) left more in
    (leb-true (m / 16) (suc d) near, (low, high, leb-true 1 (m / 16) deep, next, all))

-- siblings at depth d from the front of some tags, and the tags left
record Parsed (k d : ℕ) (all : List ℕ) : Type 0 where
  shape : Tree
  left : List ℕ
  whole : tags d shape ++ left ≡ all
  ends : Shallower d left
  active : Active k shape

-- what stands behind some tags
at_most : (d : ℕ) (left : List ℕ) → Shallower (suc d) left → AtMost d left
at_most d [] h = tt
at_most d (m ∷ left) h = omega arith

followed_behind : (k : ℕ) (u v : List ℕ) → Followed k (u ++ v) → Followed k v
followed_behind k [] v h = h
followed_behind k (m ∷ u) v h = followed_behind k u v h.4

-- tags of at most depth d that follow each other begin with all siblings of a forest at depth d, which are none if the first is of
-- less depth
parsed : (k fuel d : ℕ) (all : List ℕ) → length all ≤ fuel → AtMost d all → Followed k all → Parsed k d all
unfolding tags
parsed k zero d [] l h w = record { shape = nil; left = []; whole = refl; ends = tt; active = tt }
parsed k (suc fuel) d [] l h w = record { shape = nil; left = []; whole = refl; ends = tt; active = tt }
parsed k zero d (m ∷ all) l h w = absurd (omega arith)
parsed k (suc fuel) d (m ∷ all) l h (low, high, deep, next, rest) =
    go (dec_lt (m / 16) d) (parsed k fuel (suc d) all (omega arith)) (λ v. parsed k fuel d v)
  where
    go : Dec (m / 16 < d) → (AtMost (suc d) all → Followed k all → Parsed k (suc d) all)
        → ((v : List ℕ) → length v ≤ fuel → AtMost d v → Followed k v → Parsed k d v) → Parsed k d (m ∷ all)
    go (yes g) down on = record { shape = nil; left = m ∷ all; whole = refl; ends = g; active = tt }
    go (no g) down on =
        let depth : m / 16 ≡ d = omega arith in
        let tag : 16 * d + m % 16 ≡ m = omega arith in
        let B = down (rw depth at next) rest in
        let b : List ℕ = tags (suc d) B.shape in
        let Y = on B.left (omega (arith, ap length B.whole, length-append b B.left)) (at_most d B.left B.ends)
        (followed_behind k b B.left (rw B.whole rest)) in
        record {
          shape = node (record { label = 0; active = m % 16 }) B.shape Y.shape;
          left = Y.left;
          whole = rw tag (ap (λ (v : List ℕ). m ∷ v) (append_assoc b (tags d Y.shape) Y.left
              ∙ ap (λ (v : List ℕ). b ++ v) Y.whole ∙ B.whole));
          ends = Y.ends;
          active = (low, high, B.active, Y.active);
        }

-- tags that pass are those of a root with what is below it
pub tags_out : (k : ℕ) (all : List ℕ) → tags_fit k all ≡ true
    → (x : Node) × (below : Tree) × (tags 0 (node x below nil) ≡ all) × Active k (node x below nil)
unfolding tags tags_fit
tags_out k [] h = clash refl h
tags_out k (m ∷ all) h =
    let (root, rest) = and_in (eqb (m / 16) 0) _ h in
    let (active, more) = and_in (active_fits k m) _ rest in
    let (low, high) = active_out k m active in
    let (near, followed) = follow_out k 0 all more in
    let P = parsed k (length all) 1 all (omega arith) near followed in
    let none : P.left ≡ [] = nothing P.left P.ends (followed_behind k (tags 1 P.shape) P.left (rw P.whole followed)) in
    let tag : 16 * 0 + m % 16 ≡ m = omega (arith, eqb-true (m / 16) 0 root) in (
      record { label = 0; active = m % 16 },
      P.shape,
      ap₂ (λ (c : ℕ) (v : List ℕ). c ∷ v) tag (
          ap (λ (v : List ℕ). tags 1 P.shape ++ v) (sym none) ∙ P.whole),
      (low, high, P.active, tt),
    )
  where
    nothing : (left : List ℕ) → Shallower 1 left → Followed k left → left ≡ []
    nothing [] ends w = refl
    nothing (c ∷ left) ends w = absurd (omega (arith, w.2))
