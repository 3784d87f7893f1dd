-- The members of a map as a list, lowest first: how many there are, and that each stands at the place of its rank, the number of
-- members below it.
use mathlib.Core.Path.{◌≡◌, refl, sym, ◌∙◌, ap}
use mathlib.Core.Logic.{◌⊎◌, inl, inr, ⊎_elim}
use mathlib.Core.Bool.{true, false}
use mathlib.Core.List.{List, ◌∷◌, map}
use Prim.Native.Nat.{ℕ, zero, suc, ◌+◌, ◌-◌, ◌/◌, ◌%◌, ◌^◌, ◌≤◌, ◌<◌}
use native.Mathlib.Omega.{arith}
use native.Mathlib.Decide.{ℕ_discrete}
use native.Mathlib.Nat.{pow-suc}
use borrow.Author.Tests.{eqb-true, eqb-false}
use lib.Count.{ones, ones_step, ones-le}
use lib.ListN.{length, get_or, drop, drop_of_length-le}
use lib.Seq.{drop-cons}
use Rattle.base.specs.BitSet.{member}
use Rattle.base.proofs.Logic.{look, clash}
use Rattle.base.proofs.BitSet.{member_zero, member_suc}
use Rattle.history.specs.Record.{members_from, members, rank}

-- RANKS

-- one state further
rank_in : (s q : ℕ) → member s q ≡ true → rank s (suc q) ≡ suc (rank s q)
unfolding rank
rank_in s q h = rw h (omega arith)

rank_out : (s q : ℕ) → member s q ≡ false → rank s (suc q) ≡ rank s q
unfolding rank
rank_out s q h = rw h (omega arith)

-- ranks do not fall
rank_more : (s p c : ℕ) → rank s p ≤ rank s (p + c)
rank_more s p zero = let e : p + 0 ≡ p = omega arith in rw e (omega arith)
rank_more s p (suc c) = let e : p + suc c ≡ suc (p + c) = omega arith in let ih = rank_more s p c in
    rw e (⊎_elim (λ h. omega (arith, rank_in s (p + c) h)) (λ h. omega (arith, rank_out s (p + c) h)) (look (member s (p + c))))

rank_mono : (s p q : ℕ) → p ≤ q → rank s p ≤ rank s q
rank_mono s p q h = let e : p + (q - p) ≡ q = omega arith in rw e at (rank_more s p (q - p))

-- the rank in a map from the rank in its half
rank_half : (s q : ℕ) → rank s (suc q) ≡ s % 2 + rank (s / 2) q
unfolding rank
rank_half s zero = ⊎_elim (λ h. omega (arith, rank_in s 0 h, eqb-true (s % 2) 1 (sym (member_zero s) ∙ h)))
    (λ h. omega (arith, rank_out s 0 h, eqb-false (s % 2) 1 (sym (member_zero s) ∙ h))) (look (member s 0))
rank_half s (suc q) = let ih = rank_half s q in rw (member_suc s q) (omega arith)

-- the states below n of a map below 2^n are all of it
pub rank_all : (n s : ℕ) → s < 2 ^ n → rank s n ≡ ones s
unfolding rank
rank_all zero s h = let e : s ≡ 0 = omega arith in rw e (omega (arith, ones-le 0 0 (omega arith)))
rank_all (suc n) s h = omega (arith, rank_half s n, ones_step s, rank_all n (s / 2) (omega (arith, pow-suc 2 n)))

-- each number below the number of members is the rank of a member
pub rank_onto : (n s r : ℕ) → r < rank s n → (q : ℕ) × (q < n) × (member s q ≡ true) × (rank s q ≡ r)
unfolding rank
rank_onto zero s r h = absurd (omega arith)
rank_onto (suc n) s r h = go (look (member s n)) (ℕ_discrete r (rank s n)) (rank_onto n s r)
  where
    go : (member s n ≡ true) ⊎ (member s n ≡ false) → Dec (r ≡ rank s n)
        → (r < rank s n → (q : ℕ) × (q < n) × (member s q ≡ true) × (rank s q ≡ r))
        → (q : ℕ) × (q < suc n) × (member s q ≡ true) × (rank s q ≡ r)
    go (inl m) (yes e) ih = (n, omega arith, m, sym e)
    go (inl m) (no e) ih = let (q, l, b, z) = ih (omega (arith, rank_in s n m)) in (q, omega arith, b, z)
    go (inr m) d ih = let (q, l, b, z) = ih (omega (arith, rank_out s n m)) in (q, omega arith, b, z)

-- a member's rank is below the number of members
pub rank_lt : (n s q : ℕ) → q < n → member s q ≡ true → rank s q < rank s n
rank_lt n s q h m = omega (arith, rank_in s q m, rank_mono s (suc q) n h)

-- MEMBERS

-- one state further
from_in : (s p c : ℕ) → member s p ≡ true → members_from p (suc c) s ≡ p ∷ members_from (suc p) c s
unfolding members_from
from_in s p c h = rw h

from_out : (s p c : ℕ) → member s p ≡ false → members_from p (suc c) s ≡ members_from (suc p) c s
unfolding members_from
from_out s p c h = rw h

-- as many members as the rank says
length_members_from : (s p c : ℕ) → length (members_from p c s) + rank s p ≡ rank s (p + c)
unfolding members_from
length_members_from s p zero = let e : p + 0 ≡ p = omega arith in rw e (omega arith)
length_members_from s p (suc c) = let e : p + suc c ≡ suc p + c = omega arith in let ih = length_members_from s (suc p) c in
    rw e (⊎_elim (λ h. rw (from_in s p c h) (omega (arith, rank_in s p h))) (λ h. rw (from_out s p c h) (omega (arith, rank_out s p h)))
    (look (member s p)))

pub length_members : (n s : ℕ) → s < 2 ^ n → length (members n s) ≡ ones s
unfolding members rank
length_members n s h = let e : 0 + n ≡ n = omega arith in omega (arith, length_members_from s 0 n, rank_all n s h, ap (rank s) e)

-- the place of a member is its rank
member_at : (f : ℕ → ℕ) (s p c q r : ℕ) → p ≤ q → q < p + c → member s q ≡ true → rank s q ≡ rank s p + r
    → get_or (map f (members_from p c s)) r 0 ≡ f q
unfolding members_from
member_at f s p zero q r l h m e = absurd (omega arith)
member_at f s p (suc c) q r l h m e = go (ℕ_discrete q p) r e (λ g r. member_at f s (suc p) c q r g (omega arith) m) (look (member s p))
  where
    go : Dec (q ≡ p) → (r : ℕ) → rank s q ≡ rank s p + r
        → (suc p ≤ q → (r : ℕ) → rank s q ≡ rank s (suc p) + r → get_or (map f (members_from (suc p) c s)) r 0 ≡ f q)
        → (member s p ≡ true) ⊎ (member s p ≡ false)
        → get_or (map f (members_from p (suc c) s)) r 0 ≡ f q
    go (yes z) zero e ih (inl b) = rw (from_in s p c b) (ap f (sym z))
    go (yes z) (suc r) e ih (inl b) = absurd (omega (arith, ap (rank s) z))
    go (no z) zero e ih (inl b) = absurd (omega (arith, rank_in s p b, rank_mono s (suc p) q (omega arith)))
    go (no z) (suc r) e ih (inl b) = rw (from_in s p c b) (ih (omega arith) r (omega (arith, rank_in s p b)))
    go (yes z) r e ih (inr b) = clash b (ap (member s) (sym z) ∙ m)
    go (no z) r e ih (inr b) = rw (from_out s p c b) (ih (omega arith) r (omega (arith, rank_out s p b)))

pub map_at_rank : (f : ℕ → ℕ) (n s q : ℕ) → q < n → member s q ≡ true → get_or (map f (members n s)) (rank s q) 0 ≡ f q
unfolding members rank
map_at_rank f n s q h m = member_at f s 0 n q (rank s q) (omega arith) (omega arith) m (omega arith)

-- functions that agree on the members
map_members_from : (f g : ℕ → ℕ) (s p c : ℕ) → ((q : ℕ) → q < p + c → member s q ≡ true → f q ≡ g q)
    → map f (members_from p c s) ≡ map g (members_from p c s)
unfolding members_from
map_members_from f g s p zero h = refl
map_members_from f g s p (suc c) h = let ih = map_members_from f g s (suc p) c (λ q l m. h q (omega arith) m) in
    ⊎_elim (λ b. rw (from_in s p c b, h p (omega arith) b, ih)) (λ b. rw (from_out s p c b, ih)) (look (member s p))

pub map_members : (f g : ℕ → ℕ) (n s : ℕ) → ((q : ℕ) → q < n → member s q ≡ true → f q ≡ g q)
    → map f (members n s) ≡ map g (members n s)
unfolding members
map_members f g n s h = map_members_from f g s 0 n (λ q l m. h q (omega arith) m)

-- a list with one number for each member is that of the numbers at the members' ranks
map_ranks_from : (l : List ℕ) (s p c : ℕ) → length l ≡ rank s (p + c)
    → map (λ q. get_or l (rank s q) 0) (members_from p c s) ≡ drop (rank s p) l
unfolding members_from
map_ranks_from l s p zero e = let z : p + 0 ≡ p = omega arith in sym (drop_of_length-le l {i = rank s p} (omega (arith, e, ap (rank s) z)))
map_ranks_from l s p (suc c) e = let z : p + suc c ≡ suc p + c = omega arith in
    let ih = map_ranks_from l s (suc p) c (e ∙ ap (rank s) z) in
    let long = rank_mono s (suc p) (suc p + c) (omega arith) in
    ⊎_elim (λ b. rw (from_in s p c b, ih, rank_in s p b, drop-cons l (rank s p) 0 (omega (arith, e, ap (rank s) z, rank_in s p b))))
    (λ b. rw (from_out s p c b, ih, rank_out s p b)) (look (member s p))

pub map_ranks : (n s : ℕ) (l : List ℕ) → s < 2 ^ n → length l ≡ ones s → map (λ q. get_or l (rank s q) 0) (members n s) ≡ l
unfolding members rank
map_ranks n s l h e = let z : 0 + n ≡ n = omega arith in map_ranks_from l s 0 n (e ∙ sym (rank_all n s h) ∙ ap (rank s) (sym z))
