-- The loops that make nodes from a record: how many tags are deeper, the states hosted in a range, and a node for each tag.
use mathlib.Core.Path.{◌≡◌, refl, sym, ◌∙◌, ap, ap₂}
use mathlib.Core.Bool.{Bool, true, false, ◌&&◌, cond}
use mathlib.Core.List.{List, [], ◌∷◌, ◌++◌, append-nil}
use Prim.Native.Nat.{ℕ, suc, ◌+◌, ◌-◌, ◌/◌, ◌%◌, ◌^◌, ◌≤◌, ◌<◌}
use native.Mathlib.Omega.{arith}
use native.Mathlib.Numerals.{add-one}
use borrow.Author.Tests.{eq-eqb, ne_eqb}
use lib.Bits.{bit_or, or_zero_r}
use lib.Count.{ones}
use lib.Dec.{leb, ltb}
use lib.ListN.{length, get_or, take, drop, set, replicate, length-set, length-drop, length-replicate, take-append-drop, drop_of_length-le}
use lib.Seq.{drop-cons, drop-set-lt, length-take-le, take-suc-set, append_snoc}
use Rattle.std.specs.List.{prefix_len}
use Rattle.std.proofs.lemmas.List.Folds.{length-prefix_len}
use Rattle.base.specs.BitSet.{member, collect}
use Rattle.base.specs.Lists.{pad}
use Rattle.base.proofs.BitSet.{collect_more}
use Rattle.history.specs.Record.{rank, hosted_in}
use Rattle.history.proofs.Records.Members.{rank_all, rank_lt}
use Rattle.tree.specs.Inner.Nodes.{blank_node}
use Rattle.tree.specs.Inner.Places.{places}
use Rattle.tree.specs.Inner.RecordNodes.{blank_behind, deeper, nodes_of_tags}
use Rattle.tree.specs.declared.nodes.Node.{Node as CodeNode}

-- DEEPER TAGS

-- they are those in front that pass the test
deeper_prefix : (d : ℕ) (tags : List ℕ) → prefix_len (λ m. ltb d (m / 16)) tags ≡ deeper d tags
unfolding deeper
deeper_prefix d [] = refl
deeper_prefix d (m ∷ left) = let e : 1 + prefix_len (λ m. ltb d (m / 16)) left ≡ suc (deeper d left) = omega (arith, deeper_prefix d left) in
    ap (λ (n : ℕ). cond (ltb d (m / 16)) n 0) e

pub deeper_listed : (d : ℕ) (tags : List ℕ) → length (take (prefix_len (λ m. ltb d (m / 16)) tags) tags) ≡ deeper d tags
deeper_listed d tags = length-prefix_len (λ m. ltb d (m / 16)) tags ∙ deeper_prefix d tags

-- there are no more of them than tags
deeper_le : (d : ℕ) (tags : List ℕ) → deeper d tags ≤ length tags
unfolding deeper
deeper_le d [] = omega arith
deeper_le d (m ∷ left) = go (ltb d (m / 16)) (deeper_le d left)
  where
    go : (b : Bool) → deeper d left ≤ length left → cond b (suc (deeper d left)) 0 ≤ suc (length left)
    go true h = omega arith
    go false h = omega arith

-- nor of tags from a place on
pub deeper_few : (d : ℕ) {count : ℕ} {part : List ℕ} (from : ℕ) (tags : List ℕ) → part ≡ drop from tags → count ≡ deeper d part
    → count ≤ length tags
deeper_few d from tags e is = omega (arith, is, ap (deeper d) e, deeper_le d (drop from tags), length-drop from tags)

-- HOSTED STATES

-- is q in the map, with a host from lo up to hi?
abbrev Within : ℕ → List ℕ → ℕ → ℕ → ℕ → Bool
Within s hosts lo hi q = member s q && (leb lo (get_or hosts (rank s q) 0) && ltb (get_or hosts (rank s q) 0) hi)

-- the states below `state` are looked at, and `at` is the place of the next host
pub record HostedSoFar (n s : ℕ) (hosts : List ℕ) (lo hi states at state : ℕ) : Type 0 where
  pub upto : state ≤ n
  pub small : s < 2 ^ n
  pub many : ones s ≤ length hosts
  pub place : at ≡ rank s state
  pub sofar : states ≡ collect state (Within s hosts lo hi)

pub hosted_start : (n s : ℕ) (hosts : List ℕ) (lo hi : ℕ) → s < 2 ^ n → ones s ≤ length hosts → HostedSoFar n s hosts lo hi 0 0 0
unfolding rank collect
hosted_start n s hosts lo hi small many = record { upto = omega arith; small = small; many = many; place = refl; sofar = refl }

module _ {n s : ℕ} {hosts : List ℕ} {lo hi states at state : ℕ} (v : HostedSoFar n s hosts lo hi states at state) where
  module _ (h : state < n) where
    -- the next state is not in the map
    pub hosted_skip : (s / 2 ^ state % 2 ≡ 1 → ⊥) → HostedSoFar n s hosts lo hi states at (state + 1)
    unfolding rank member
    hosted_skip e = rw (add-one state) (record {
      upto = h;
      small = v.small;
      many = v.many;
      place = rw (ne_eqb (s / 2 ^ state % 2) 1 e) (omega (arith, v.place));
      sofar = v.sofar ∙ sym (collect_more state (Within s hosts lo hi) ∙ rw (ne_eqb (s / 2 ^ state % 2) 1 e) (or_zero_r _));
    })

    module _ (e : s / 2 ^ state % 2 ≡ 1) where
      in_map : member s state ≡ true
      unfolding member
      in_map = eq-eqb (s / 2 ^ state % 2) 1 e

      -- it is: its host is there
      pub hosted_room : at < length hosts
      hosted_room = omega (arith, v.place, v.many, rank_lt n s state h in_map, rank_all n s v.small)

      pub hosted_take : (x : ℕ) → x ≡ cond (leb lo (get_or hosts at 0) && ltb (get_or hosts at 0) hi) (2 ^ state) 0
          → HostedSoFar n s hosts lo hi (bit_or states x) (at + 1) (state + 1)
      unfolding rank
      hosted_take x is = rw (add-one state) (record {
        upto = h;
        small = v.small;
        many = v.many;
        place = rw in_map (omega (arith, v.place));
        sofar = ap₂ bit_or v.sofar (is ∙ rw (v.place, in_map)) ∙ sym (collect_more state (Within s hosts lo hi));
      })

  pub hosted_done : n ≤ state → states ≡ hosted_in n s hosts lo hi
  unfolding hosted_in
  hosted_done h = let e : state ≡ n = omega (arith, v.upto) in v.sofar ∙ ap (λ (c : ℕ). collect c (Within s hosts lo hi)) e

-- NODES

-- the nodes of the tags in front of `number` are made
pub record NodesSoFar (label : ℕ → ℕ → ℕ) (tags : List ℕ) (nodes : List CodeNode) (number : ℕ) : Type 0 where
  pub upto : number ≤ length tags
  pub held : length nodes ≡ places
  pub few : length tags ≤ places
  pub whole : take number nodes ++ nodes_of_tags label number (drop number tags) ≡ nodes_of_tags label 0 tags
  pub blank : drop number nodes ≡ replicate (places - number) blank_node

pub nodes_start : (label : ℕ → ℕ → ℕ) (tags : List ℕ) (nodes : List CodeNode) → nodes ≡ replicate places blank_node → length tags ≤ places
    → NodesSoFar label tags nodes 0
nodes_start label tags nodes is few =
    record { upto = omega arith; held = ap length is ∙ length-replicate {A = CodeNode} places blank_node; few = few; whole = refl; blank = is }

module _ {label : ℕ → ℕ → ℕ} {tags : List ℕ} {nodes : List CodeNode} {number : ℕ} (v : NodesSoFar label tags nodes number) where
  pub nodes_next : number < length tags → (own kids count : ℕ) (behind : List ℕ) → behind ≡ drop (number + 1) tags
      → count ≡ deeper (get_or tags number 0 / 16) behind → own ≡ label number (number + 1 + count) → kids ≡ label (number + 1) (number + 1 + count)
      → (after : List CodeNode) → after ≡ set nodes number
      (record { depth = get_or tags number 0 / 16; label = own; kids = kids; active = get_or tags number 0 % 16; old = 0 })
      → NodesSoFar label tags after (number + 1)
  unfolding nodes_of_tags
  nodes_next h own kids count behind b e f g after made = rw (made, add-one number) (record {
    upto = h;
    held = rw length-set v.held;
    few = v.few;
    whole = rw (take-suc-set nodes number _ (omega (arith, v.held, v.few)), append_snoc (take number nodes), f, g, e, b, add-one number)
        (rw (drop-cons tags number 0 h) at v.whole);
    blank = drop-set-lt (suc number) nodes number _ (omega arith) ∙ blank_tail;
  })
    where
      blank_tail : drop (suc number) nodes ≡ replicate (places - suc number) blank_node
      blank_tail =
          let inside : number < length nodes = omega (arith, v.held, v.few) in
          let more : places - number ≡ suc (places - suc number) = omega (arith, v.few) in
          cc (drop-cons nodes number blank_node inside, v.blank, ap (λ (c : ℕ). replicate c blank_node) more)

  pub nodes_done : length tags ≤ number → nodes ≡ blank_behind (nodes_of_tags label 0 tags)
  unfolding nodes_of_tags blank_behind pad
  nodes_done h =
      let e : number ≡ length tags = omega (arith, v.upto) in
      let made : take number nodes ≡ nodes_of_tags label 0 tags = sym (append-nil (take number nodes)) ∙ rw (drop_of_length-le tags h) at v.whole in
      let many : length (nodes_of_tags label 0 tags) ≡ number =
      ap length (sym made) ∙ length-take-le number nodes (omega (arith, v.held, v.few, v.upto)) in
      sym (take-append-drop number nodes) ∙ rw (many, made, v.blank)
