-- The laws of words of lanes (specs/Inner/Lanes.antt): the map in a lane, words made of maps, lanes chosen, and maps put into them.
use mathlib.Core.Path.{◌≡◌, refl, sym, ◌∙◌, ap, ap₂}
use mathlib.Core.Bool.{Bool, true, false, ◌&&◌, cond}
use Prim.Native.Nat.{ℕ, zero, suc, ◌+◌, ◌*◌, ◌/◌, ◌%◌, ◌^◌, ◌≤◌, ◌<◌}
use native.Mathlib.Omega.{arith}
use lib.Bits.{bit_and, bit_or, and_block, and_mask, and_zero_r, or_block, or_self, or_shr, or_mod, or_zero_l, or_zero_r}
use lib.Dec.{eqb, eqb-zero-suc, eqb-suc-zero, eqb-suc-suc}
use lib.Pow.{shr-shr, pow-add}
use Rattle.base.specs.BitSet.{member}
use Rattle.base.proofs.BitSet.{bit_member, member_none, member_from, member_mod}
use Rattle.rule.specs.Inner.Lanes.{lane_width, map_of, word_of, chosen_lanes, each_lane, lanes_with, in_lane, in_lanes}

-- THE MAP IN A LANE

-- lane i + 1 is one further up
next_lane : (i : ℕ) → lane_width * suc i ≡ lane_width + lane_width * i
next_lane i = omega arith

shift_suc : (word i : ℕ) → word / 2 ^ (lane_width * suc i) ≡ word / 2 ^ lane_width / 2 ^ (lane_width * i)
shift_suc word i = rw (next_lane i) (sym (shr-shr word lane_width (lane_width * i)))

map_suc : (word i : ℕ) → map_of word (suc i) ≡ map_of (word / 2 ^ lane_width) i
map_suc word i = ap (λ (x : ℕ). x % 2 ^ lane_width) (shift_suc word i)

-- a map has no state from lane_width up
pub map_lt : (word i : ℕ) → map_of word i < 2 ^ lane_width
map_lt word i = omega arith

-- no states
pub map_none : (i : ℕ) → map_of 0 i ≡ 0
map_none zero = refl
map_none (suc i) = map_suc 0 i ∙ map_none i

-- a union
pub map_union : (a b i : ℕ) → map_of (bit_or a b) i ≡ bit_or (map_of a i) (map_of b i)
map_union a b i = ap (λ (x : ℕ). x % 2 ^ lane_width) (or_shr a b (lane_width * i))
    ∙ or_mod (a / 2 ^ (lane_width * i)) (b / 2 ^ (lane_width * i)) lane_width

-- lane 0 stands lowest: as a number its map is in the word
pub lane_zero : (word : ℕ) → bit_or word (map_of word 0) ≡ word
lane_zero word =
    let high = word / 2 ^ lane_width in
    let low = word % 2 ^ lane_width in
    let parts : word ≡ high * 2 ^ lane_width + low = omega arith in
    let lowest : map_of word 0 ≡ 0 * 2 ^ lane_width + low = omega arith in
    ap₂ bit_or parts lowest ∙ or_block lane_width high 0 low low (omega arith) (omega arith) ∙ omega (arith, or_zero_r high, or_self low)

-- WORDS MADE OF MAPS

-- the same maps, the same word
pub word_of_ext : (k : ℕ) (f g : ℕ → ℕ) → ((i : ℕ) → i < k → f i ≡ g i) → word_of k f ≡ word_of k g
unfolding word_of
word_of_ext zero f g same = refl
word_of_ext (suc k) f g same = ap₂ (λ (x y : ℕ). x + 2 ^ lane_width * y) (same 0 (omega arith))
    (word_of_ext k (λ i. f (suc i)) (λ i. g (suc i)) (λ i small. same (suc i) (omega arith)))

-- one map
pub word_of_one : (f : ℕ → ℕ) → word_of 1 f ≡ f 0
unfolding word_of
word_of_one f = omega arith

-- no states
word_of_none : (k : ℕ) → word_of k (λ i. 0) ≡ 0
unfolding word_of
word_of_none zero = refl
word_of_none (suc k) = omega (arith, word_of_none k)

-- each map a multiple
word_of_times : (x k : ℕ) (f : ℕ → ℕ) → x * word_of k f ≡ word_of k (λ i. x * f i)
unfolding word_of
word_of_times x zero f = omega arith
word_of_times x (suc k) f = omega (arith, word_of_times x k (λ i. f (suc i)))

-- its maps
pub word_of_at : (k : ℕ) (f : ℕ → ℕ) (i : ℕ) → ((j : ℕ) → f j < 2 ^ lane_width) → i < k → map_of (word_of k f) i ≡ f i
unfolding word_of
word_of_at zero f i fit small = absurd (omega arith)
word_of_at (suc k) f zero fit small = omega (arith, fit 0)
word_of_at (suc k) f (suc i) fit small =
    let y = word_of k (λ i. f (suc i)) in
    let rest : (f 0 + 2 ^ lane_width * y) / 2 ^ lane_width ≡ y = omega (arith, fit 0) in
    map_suc (f 0 + 2 ^ lane_width * y) i ∙ ap (λ (x : ℕ). map_of x i) rest ∙ word_of_at k (λ i. f (suc i)) i (λ j. fit (suc j)) (omega arith)

-- a union
pub word_of_union : (k : ℕ) (f g : ℕ → ℕ) → ((j : ℕ) → f j < 2 ^ lane_width) → ((j : ℕ) → g j < 2 ^ lane_width)
    → bit_or (word_of k f) (word_of k g) ≡ word_of k (λ i. bit_or (f i) (g i))
unfolding word_of
word_of_union zero f g fit fit' = refl
word_of_union (suc k) f g fit fit' =
    let y = word_of k (λ i. f (suc i)) in
    let z = word_of k (λ i. g (suc i)) in
    let first : f 0 + 2 ^ lane_width * y ≡ y * 2 ^ lane_width + f 0 = omega arith in
    let second : g 0 + 2 ^ lane_width * z ≡ z * 2 ^ lane_width + g 0 = omega arith in
    ap₂ bit_or first second ∙ or_block lane_width y z (f 0) (g 0) (fit 0) (fit' 0)
    ∙ omega (arith, word_of_union k (λ i. f (suc i)) (λ i. g (suc i)) (λ j. fit (suc j)) (λ j. fit' (suc j)))

-- one map more
pub word_of_more : (k : ℕ) (f : ℕ → ℕ) → ((j : ℕ) → f j < 2 ^ lane_width) → bit_or (word_of k f) (in_lane (f k) k) ≡ word_of (suc k) f
unfolding word_of in_lane
word_of_more zero f fit = omega (arith, or_zero_l (f 0 * 1))
word_of_more (suc k) f fit =
    let y = word_of k (λ i. f (suc i)) in
    let z = f (suc k) * 2 ^ (lane_width * k) in
    let front : f 0 + 2 ^ lane_width * y ≡ y * 2 ^ lane_width + f 0 = omega arith in
    let last : f (suc k) * 2 ^ (lane_width * suc k) ≡ z * 2 ^ lane_width + 0 =
    rw (next_lane k, pow-add 2 lane_width (lane_width * k)) (omega arith) in
    let joins = word_of_more k (λ i. f (suc i)) (λ j. fit (suc j)) in
    rw (front, last, or_block lane_width y z (f 0) 0 (fit 0) (omega arith), or_zero_r (f 0), joins) (omega arith)

-- MAPS KEPT OR DROPPED

-- a product with 1 or 0 keeps a map or drops it
pub kept : (x : ℕ) (b : Bool) → x * cond b 1 0 ≡ cond b x 0
kept x true = omega arith
kept x false = omega arith

pub kept_in : (P : ℕ → Bool) → P 0 ≡ false → (x : ℕ) (b : Bool) → P (cond b x 0) ≡ (b && P x)
kept_in P none x true = refl
kept_in P none x false = none

pub kept_le : (x : ℕ) (b : Bool) → cond b x 0 ≤ x
kept_le x true = omega arith
kept_le x false = omega arith

-- LANES CHOSEN

-- the same lanes
chosen_ext : (k : ℕ) (f g : ℕ → Bool) → ((i : ℕ) → i < k → f i ≡ g i) → chosen_lanes k f ≡ chosen_lanes k g
unfolding chosen_lanes
chosen_ext k f g same = word_of_ext k _ _ (λ i small. ap (λ (b : Bool). cond b 1 0) (same i small))

-- one lane alone
one_lane : (k i : ℕ) → i < k → 2 ^ (lane_width * i) ≡ chosen_lanes k (λ j. eqb j i)
unfolding chosen_lanes word_of
one_lane zero i small = absurd (omega arith)
one_lane (suc k) zero small = omega (arith, chosen_ext k _ (λ j. false) (λ j l. eqb-suc-zero j) ∙ word_of_none k)
one_lane (suc k) (suc i) small =
    rw (next_lane i, pow-add 2 lane_width (lane_width * i), eqb-zero-suc i)
    (omega (arith, one_lane k i (omega arith), chosen_ext k _ (λ j. eqb j i) (λ j l. eqb-suc-suc j i)))

-- chosen below k they are, as a number, at most each of the lanes below n, if k is at most n
pub chosen_le : (k n : ℕ) (f : ℕ → Bool) → k ≤ n → chosen_lanes k f ≤ each_lane n
unfolding each_lane chosen_lanes word_of
chosen_le zero n f h = omega arith
chosen_le (suc k) zero f h = absurd (omega arith)
chosen_le (suc k) (suc n) f h = omega (arith, chosen_le k n (λ i. f (suc i)) (omega arith), kept_le 1 (f 0))

-- d lanes fewer
pub each_fewer : (d n k : ℕ) → n ≡ k + d → each_lane n / 2 ^ (lane_width * d) ≡ each_lane k
unfolding each_lane chosen_lanes word_of
each_fewer zero n k e = let same : n ≡ k = omega arith in rw same (omega arith)
each_fewer (suc d) zero k e = absurd (omega arith)
each_fewer (suc d) (suc n) k e =
    let rest : (1 + 2 ^ lane_width * each_lane n) / 2 ^ lane_width ≡ each_lane n = omega arith in
    shift_suc (1 + 2 ^ lane_width * each_lane n) d ∙ ap (λ (x : ℕ). x / 2 ^ (lane_width * d)) rest ∙ each_fewer d n k (omega arith)

-- the map in a chosen lane has bit 0 alone
pub chosen_at : (k : ℕ) (f : ℕ → Bool) (i : ℕ) → i < k → map_of (chosen_lanes k f) i ≡ cond (f i) 1 0
unfolding chosen_lanes
chosen_at k f i small = word_of_at k (λ i. cond (f i) 1 0) i (λ j. omega (arith, kept_le 1 (f j))) small

-- so a product with it keeps a word or drops it
pub chosen_kept : (word k : ℕ) (f : ℕ → Bool) (i : ℕ) → i < k → word * map_of (chosen_lanes k f) i ≡ cond (f i) word 0
chosen_kept word k f i small = ap (word *◌) (chosen_at k f i small) ∙ kept word (f i)

-- the bits 0 of the lanes below k, taken from a number
bits_of : (x k : ℕ) → bit_and x (each_lane k) ≡ chosen_lanes k (λ i. member x (lane_width * i))
unfolding each_lane chosen_lanes word_of
bits_of x zero = and_zero_r x
bits_of x (suc k) =
    let high = x / 2 ^ lane_width in
    let low = x % 2 ^ lane_width in
    let parts : x ≡ high * 2 ^ lane_width + low = omega arith in
    let each : 1 + 2 ^ lane_width * each_lane k ≡ each_lane k * 2 ^ lane_width + 1 = omega arith in
    ap₂ bit_and parts each ∙ and_block lane_width high (each_lane k) low 1 (omega arith) (omega arith)
    ∙ omega (
      arith,
      and_mask low 1,
      bit_member x 0,
      bits_of high k ∙ chosen_ext k _ _ (λ i small. member_from lane_width x (lane_width * i)
          ∙ ap (member x) (sym (next_lane i))),
    )

-- does bit s of lane i stand? For a state s: is it in the map of lane i?
abbrev pub stands : ℕ → ℕ → ℕ → Bool
stands word s i = member (word / 2 ^ s) (lane_width * i)

pub stands_in : (word s i : ℕ) → s < lane_width → stands word s i ≡ member (map_of word i) s
stands_in word s i small = let e : s + lane_width * i ≡ lane_width * i + s = omega arith in
    member_from s word (lane_width * i) ∙ ap (member word) e
    ∙ sym (member_mod lane_width (word / 2 ^ (lane_width * i)) s small ∙ member_from (lane_width * i) word s)

pub stands_none : (s i : ℕ) → stands 0 s i ≡ false
stands_none s i = member_from s 0 (lane_width * i) ∙ member_none (s + lane_width * i)

-- of the lanes below k those in which bit s stands
pub lanes_with_lem : (word s k : ℕ) → lanes_with word s (each_lane k) ≡ chosen_lanes k (stands word s)
unfolding lanes_with
lanes_with_lem word s k = bits_of (word / 2 ^ s) k

pub lanes_with_le : (word s k n : ℕ) → k ≤ n → lanes_with word s (each_lane k) ≤ each_lane n
lanes_with_le word s k n h = rw (lanes_with_lem word s k) (chosen_le k n (stands word s) h)

-- those with a state
module _ (word s k : ℕ) (small : s < lane_width) where
  pub lanes_with_state : lanes_with word s (each_lane k) ≡ chosen_lanes k (λ i. member (map_of word i) s)
  lanes_with_state = lanes_with_lem word s k ∙ chosen_ext k _ _ (λ i h. stands_in word s i small)

  -- are they each of the lanes?
  pub each_out : lanes_with word s (each_lane k) ≡ each_lane k → (i : ℕ) → i < k → member (map_of word i) s ≡ true
  unfolding each_lane
  each_out all i h = go (member (map_of word i) s)
      (sym (chosen_at k _ i h) ∙ ap (λ (x : ℕ). map_of x i) (sym lanes_with_state ∙ all) ∙ chosen_at k (λ i. true) i h)
    where
      go : (b : Bool) → ◌≡◌ {A = ℕ} (cond b 1 0) 1 → b ≡ true
      go true e = refl
      go false e = absurd (omega arith)

  pub each_in : ((i : ℕ) → i < k → member (map_of word i) s ≡ true) → lanes_with word s (each_lane k) ≡ each_lane k
  unfolding each_lane
  each_in all = lanes_with_state ∙ chosen_ext k _ _ all

-- MAPS PUT INTO LANES

-- in each of some lanes
pub in_lanes_lem : (map k : ℕ) (f : ℕ → Bool) → in_lanes map (chosen_lanes k f) ≡ word_of k (λ i. cond (f i) map 0)
unfolding in_lanes chosen_lanes
in_lanes_lem map k f = word_of_times map k (λ i. cond (f i) 1 0) ∙ word_of_ext k _ _ (λ i small. kept map (f i))

pub in_lanes_none : (chosen : ℕ) → in_lanes 0 chosen ≡ 0
unfolding in_lanes
in_lanes_none chosen = omega arith

pub in_lanes_at : (map k : ℕ) (f : ℕ → Bool) (i : ℕ) → map < 2 ^ lane_width → i < k
    → map_of (in_lanes map (chosen_lanes k f)) i ≡ cond (f i) map 0
in_lanes_at map k f i fits small = ap (λ (x : ℕ). map_of x i) (in_lanes_lem map k f)
    ∙ word_of_at k (λ i. cond (f i) map 0) i (λ j. omega (arith, kept_le map (f j))) small

pub in_lanes_member : (map k : ℕ) (f : ℕ → Bool) (i t : ℕ) → map < 2 ^ lane_width → i < k
    → member (map_of (in_lanes map (chosen_lanes k f)) i) t ≡ (f i && member map t)
in_lanes_member map k f i t fits small = ap (λ (x : ℕ). member x t) (in_lanes_at map k f i fits small)
    ∙ kept_in (λ x. member x t) (member_none t) map (f i)

-- in one lane
pub in_lane_lem : (map k i : ℕ) → i < k → in_lane map i ≡ in_lanes map (chosen_lanes k (λ j. eqb j i))
unfolding in_lane in_lanes
in_lane_lem map k i small = ap (map *◌) (one_lane k i small)

pub in_lane_member : (map i j t : ℕ) → map < 2 ^ lane_width → member (map_of (in_lane map i) j) t ≡ (eqb j i && member map t)
in_lane_member map i j t fits = ap (λ (x : ℕ). member (map_of x j) t) (in_lane_lem map (suc (i + j)) i (omega arith))
    ∙ in_lanes_member map (suc (i + j)) (λ j. eqb j i) j t fits (omega arith)
