-- The record from the words of nodes: the host of a state, the hosts of a map's states, and the tags.
use mathlib.Core.Path.{◌≡◌, refl, sym, ◌∙◌, ap, ap₂}
use mathlib.Core.Bool.{Bool, true, false, not, ◌&&◌, cond}
use mathlib.Core.List.{List, [], ◌∷◌, ◌++◌, map, map-append, append-nil}
use Prim.Native.Nat.{ℕ, zero, suc, ◌+◌, ◌*◌, ◌/◌, ◌%◌, ◌^◌, ◌≤◌, ◌<◌}
use native.Mathlib.Decide.{dec_lt}
use native.Mathlib.Omega.{arith}
use native.Mathlib.Nat.{add-zero, zero-add}
use borrow.Author.Tests.{eq-eqb, ne_eqb, lt-ltb, le-ltb}
use lib.Dec.{ltb}
use lib.ListN.{length, get_or, take, set, length-set, length-append, length-map, length-take}
use lib.Seq.{take-suc, take_all}
use Rattle.std.specs.Prelude.{Option, Some, None}
use Rattle.std.specs.List.{position_or_len}
use Rattle.std.specs.Option.{unwrap_or}
use Rattle.std.proofs.lemmas.List.Sums.{prefix_len-le-length}
use Rattle.base.specs.BitSet.{member}
use Rattle.base.specs.LentBuffer.{stored}
use Rattle.base.proofs.Storing.{stored_start, stored_byte, stored_next, PiecesStored, pieces_start, pieces_byte, pieces_skip, pieces_size, pieces_done}
use Rattle.history.specs.Record.{members_from, members}
use Rattle.tree.specs.StartCall.{record_room}
use Rattle.tree.specs.Inner.PackedNodes.{unpacked, nodes_in}
use Rattle.tree.specs.Inner.Nodes.{blank_node}
use Rattle.tree.specs.Inner.RecordNodes.{host_node, tag_of, host_bytes, tag_bytes, nodes_record, Recordable}
use Rattle.tree.specs.declared.nodes.Node.{Node as CodeNode}

-- THE HOST OF A STATE

-- has the node of a word a state in its label and in no child's?
abbrev pub hosts : ℕ → ℕ → Bool
hosts q word = member (unpacked word).label q && not (member (unpacked word).kids q)

-- the first such node is the host
pub host_place : (q i : ℕ) (words : List ℕ) → host_node i (nodes_in words) q ≡ i + position_or_len (hosts q) words
unfolding host_node
host_place q i [] = omega arith
host_place q i (word ∷ words) = go (hosts q word) (host_place q (suc i) words)
  where
    go : (b : Bool) → host_node (suc i) (nodes_in words) q ≡ suc i + position_or_len (hosts q) words
        → cond b i (host_node (suc i) (nodes_in words) q) ≡ i + cond (not b) (1 + position_or_len (hosts q) words) 0
    go true h = omega arith
    go false h = omega arith

-- so it is found by its place
pub host_found : (q : ℕ) (words : List ℕ) {place : Option ℕ}
    → place ≡ cond (ltb (position_or_len (hosts q) words) (length words)) (Some (position_or_len (hosts q) words)) None
    → unwrap_or place (length words) ≡ host_node 0 (nodes_in words) q
host_found q words is =
    let most : position_or_len (hosts q) words ≤ length words = prefix_len-le-length (λ x. not (hosts q x)) words in
    ap (λ (o : Option ℕ). unwrap_or o (length words)) is ∙ go (position_or_len (hosts q) words) (length words) most ∙ sym (host_place q 0 words ∙ zero-add _)
  where
    go : (i n : ℕ) → i ≤ n → unwrap_or (cond (ltb i n) (Some i) None) n ≡ i
    go i n h = by (dec_lt i n)
      where
        by : Dec (i < n) → unwrap_or (cond (ltb i n) (Some i) None) n ≡ i
        by (yes less) = rw (lt-ltb i n less)
        by (no most) = let e : n ≡ i = omega arith in rw (le-ltb i n (omega arith)) e

-- THE HOSTS

-- the members from p on among c + 1 states: those among c states, and the last if it is one
members_more : (s p c : ℕ) → members_from p (suc c) s ≡ members_from p c s ++ cond (member s (p + c)) ((p + c) ∷ []) []
unfolding members_from
members_more s p zero = rw (add-zero p)
members_more s p (suc c) = go (member s p) (members_more s (suc p) c)
  where
    same : suc p + c ≡ p + suc c
    same = omega arith

    go : (b : Bool) → members_from (suc p) (suc c) s ≡ members_from (suc p) c s ++ cond (member s (suc p + c)) ((suc p + c) ∷ []) []
        → cond b (p ∷ members_from (suc p) (suc c) s) (members_from (suc p) (suc c) s)
        ≡ cond b (p ∷ members_from (suc p) c s) (members_from (suc p) c s) ++ cond (member s (p + suc c)) ((p + suc c) ∷ []) []
    go true ih = rw (ih, same)
    go false ih = rw (ih, same)

members_le : (s p c : ℕ) → length (members_from p c s) ≤ c
unfolding members_from
members_le s p zero = omega arith
members_le s p (suc c) = go (member s p) (members_le s (suc p) c)
  where
    go : (b : Bool) → length (members_from (suc p) c s) ≤ c
        → length (cond b (p ∷ members_from (suc p) c s) (members_from (suc p) c s)) ≤ suc c
    go true h = omega arith
    go false h = omega arith

module _ (nodes : List CodeNode) (s q : ℕ) where
  hosts_more : host_bytes nodes (suc q) s ≡ host_bytes nodes q s ++ map (host_node 0 nodes) (cond (member s q) (q ∷ []) [])
  unfolding host_bytes members
  hosts_more = ap (map (host_node 0 nodes)) (rw (zero-add q) at (members_more s 0 q)) ∙ map-append (host_node 0 nodes) (members_from 0 q s) _

  -- the state is in the map, or not
  hosts_one : s / 2 ^ q % 2 ≡ 1 → host_bytes nodes (suc q) s ≡ host_bytes nodes q s ++ (host_node 0 nodes q ∷ [])
  unfolding member
  hosts_one e = rw (eq-eqb (s / 2 ^ q % 2) 1 e) at hosts_more

  hosts_none : (s / 2 ^ q % 2 ≡ 1 → ⊥) → host_bytes nodes (suc q) s ≡ host_bytes nodes q s
  unfolding member
  hosts_none e = rw (ne_eqb (s / 2 ^ q % 2) 1 e, append-nil (host_bytes nodes q s)) at hosts_more

  -- there are no more hosts than states
  hosts_le : length (host_bytes nodes q s) ≤ q
  unfolding host_bytes members
  hosts_le = omega (arith, length-map (members_from 0 q s) (host_node 0 nodes), members_le s 0 q)

-- the hosts of the states below `state` are stored
pub record HostsStored (nodes : List CodeNode) (n s : ℕ) (before : List ℕ) (from : ℕ) (out : List ℕ) (at state : ℕ) : Type 0 where
  pub room : from + n ≤ length before
  pub pieces : PiecesStored (λ q. host_bytes nodes q s) n before from out at state

pub hosts_start : (nodes : List CodeNode) (n s : ℕ) (before : List ℕ) (from : ℕ) → from + n ≤ length before
    → HostsStored nodes n s before from before from 0
unfolding host_bytes members members_from
hosts_start nodes n s before from h = record { room = h; pieces = pieces_start refl (omega arith) }

module _ {nodes : List CodeNode} {n s : ℕ} {before : List ℕ} {from : ℕ} {out : List ℕ} {at state : ℕ}
    (v : HostsStored nodes n s before from out at state) where
  module _ (h : state < n) where
    pub hosts_skip : (s / 2 ^ state % 2 ≡ 1 → ⊥) → HostsStored nodes n s before from out at (state + 1)
    hosts_skip e = record { room = v.room; pieces = pieces_skip v.pieces h (hosts_none nodes s state e) }

    -- there is a byte for each host
    hosts_room : at < length before
    hosts_room = omega (arith, v.room, v.pieces.stores.place, hosts_le nodes s state)

    pub hosts_fits : at < length out
    hosts_fits = omega (arith, hosts_room, pieces_size v.pieces)

    pub hosts_put : s / 2 ^ state % 2 ≡ 1 → (x : ℕ) → x ≡ host_node 0 nodes state
        → HostsStored nodes n s before from (set out at x) (at + 1) (state + 1)
    hosts_put e x is = record {
      room = v.room;
      pieces = pieces_byte v.pieces h x
          (hosts_one nodes s state e ∙ ap (λ (c : ℕ). host_bytes nodes state s ++ (c ∷ [])) (sym is)) hosts_room;
    }

  pub hosts_done : n ≤ state
      → (at ≡ from + length (host_bytes nodes n s)) × (out ≡ stored from (host_bytes nodes n s) before)
  hosts_done h = let (same, place) = pieces_done v.pieces h in (place, same)

-- THE TAGS

-- the tags of the nodes in front of `number` are stored
pub record TagsStored (n : ℕ) (nodes : List CodeNode) (before : List ℕ) (from : ℕ) (out : List ℕ) (number : ℕ) : Type 0 where
  pub fits : Recordable n nodes
  pub room : from + length nodes ≤ length before
  pub pieces : PiecesStored (λ c. tag_bytes (take c nodes)) (length nodes) before from out (from + number) number

tags_le : (nodes : List CodeNode) (c : ℕ) → length (tag_bytes (take c nodes)) ≤ c
unfolding tag_bytes
tags_le nodes c = omega (arith, length-map (take c nodes) tag_of, length-take c nodes)

pub tags_start : (n : ℕ) (nodes : List CodeNode) (before : List ℕ) (from : ℕ) → Recordable n nodes → from + length nodes ≤ length before
    → TagsStored n nodes before from before 0
unfolding tag_bytes
tags_start n nodes before from fits h =
    let here : from + 0 ≡ from = omega arith in
    record { fits = fits; room = h; pieces = rw here (pieces_start refl (omega arith)) }

module _ {n : ℕ} {nodes : List CodeNode} {before : List ℕ} {from : ℕ} {out : List ℕ} {number : ℕ}
    (v : TagsStored n nodes before from out number) where
  module _ (h : number < length nodes) where
    -- the tag is a byte, and there is room for it
    pub tag_small : (node : CodeNode) → node ≡ get_or nodes number blank_node → 16 * node.depth + node.active < 256
    unfolding tag_of
    tag_small node is = rw is (v.fits.tags number h)

    tags_room : from + number < length before
    tags_room = omega (arith, v.room)

    pub tags_fits : from + number < length out
    tags_fits = omega (arith, tags_room, pieces_size v.pieces)

    pub tags_put : (node : CodeNode) → node ≡ get_or nodes number blank_node
        → TagsStored n nodes before from (set out (from + number) (16 * node.depth + node.active)) (number + 1)
    unfolding tag_bytes tag_of
    tags_put node is = let next : from + (number + 1) ≡ from + number + 1 = omega arith in rw is (record {
      fits = v.fits;
      room = v.room;
      pieces = rw next (pieces_byte v.pieces h _ (ap (map tag_of) (take-suc nodes number blank_node h)
          ∙ map-append tag_of (take number nodes) (get_or nodes number blank_node ∷ [])) tags_room);
    })

  pub tags_done : length nodes ≤ number
      → (from + length nodes ≡ from + length (tag_bytes nodes)) × (out ≡ stored from (tag_bytes nodes) before)
  unfolding tag_bytes
  tags_done h =
      let (same, place) = rw (take_all (length nodes) nodes (omega arith)) at (pieces_done v.pieces h) in
      (omega (arith, length-map nodes tag_of), same)

-- THE RECORD

-- a dead tree's record
dead_record : (n : ℕ) (nodes : List CodeNode) → length nodes ≡ 0 → nodes_record n nodes ≡ 0 ∷ []
unfolding nodes_record
dead_record n [] e = refl
dead_record n (x ∷ nodes) e = absurd (omega arith)

-- a live tree's record: the root's map, the hosts and the tags
live_record : (n : ℕ) (nodes : List CodeNode) → (length nodes ≡ 0 → ⊥)
    → nodes_record n nodes ≡ (get_or nodes 0 blank_node).label ∷ (host_bytes nodes n (get_or nodes 0 blank_node).label ++ tag_bytes nodes)
unfolding nodes_record
live_record n [] some = absurd (some refl)
live_record n (x ∷ nodes) some = refl

module _ (n : ℕ) (nodes : List CodeNode) (before : List ℕ) (fits : Recordable n nodes) (room : record_room ≤ length before) where
  -- the dead tree's
  pub record_dead : length nodes ≡ 0
      → (1 ≡ length (nodes_record n nodes)) × (set before 0 0 ≡ stored 0 (nodes_record n nodes) before)
  record_dead e = rw (dead_record n nodes e) (refl, (stored_byte (stored_start before 0 (omega arith)) 0 (omega arith)).same)

  module _ (node : CodeNode) (is : node ≡ get_or nodes 0 blank_node) where
    abbrev root : ℕ
    root = node.label

    abbrev hosts_of : List ℕ
    hosts_of = host_bytes nodes n root

    abbrev tags : List ℕ
    tags = tag_bytes nodes

    -- the root's map is a byte
    pub root_small : (length nodes ≡ 0 → ⊥) → root < 256
    root_small some = rw is (fits.root (omega arith))

    -- the map, the hosts behind it, and the tags behind them
    record_room_lem : 1 + length hosts_of + length nodes ≤ record_room
    record_room_lem = omega (arith, hosts_le nodes root n, fits.few, fits.states)

    pub tags_room_left : (at : ℕ) (then : List ℕ) → at ≡ 1 + length hosts_of → length then ≡ length (set before 0 root)
        → at + length nodes ≤ length then
    tags_room_left at then e f = omega (arith, record_room_lem, length-set before 0 root)

    pub record_live : (length nodes ≡ 0 → ⊥) → (at r : ℕ) (then after : List ℕ)
        → at ≡ 1 + length hosts_of → then ≡ stored 1 hosts_of (set before 0 root) → r ≡ at + length tags → after ≡ stored at tags then
        → (r ≡ length (nodes_record n nodes)) × (after ≡ stored 0 (nodes_record n nodes) before)
    unfolding tag_bytes
    record_live some at r then after e f g h =
        let first = stored_byte (stored_start before 0 (omega arith)) root (omega arith) in
        let second = stored_next first hosts_of (omega (arith, record_room_lem)) in
        let third = stored_next second tags (omega (arith, record_room_lem, length-map nodes tag_of)) in
        rw (live_record n nodes some, ← is) (
          omega (arith, length-append hosts_of tags),
          h ∙ ap₂ (λ (c : ℕ) (l : List ℕ). stored c tags l) e f ∙ third.same,
        )
