-- The two maps by old node number: a node's number is a member just if its name is accepting, or stable.
use mathlib.Core.Path.{◌≡◌, refl, sym, ◌∙◌, ap, ap₂}
use mathlib.Core.Bool.{Bool, true, false, ◌&&◌, ◌||◌, cond, and_comm}
use mathlib.Core.List.{List, [], ◌∷◌}
use Prim.Native.Nat.{ℕ, ◌^◌, ◌<◌}
use borrow.Author.Tests.{lt-ltb}
use lib.Bits.{bit_or}
use lib.Dec.{eqb}
use lib.ListN.{get_or}
use Rattle.base.specs.BitSet.{member, collect}
use Rattle.base.specs.Lists.{any_of}
use Rattle.base.proofs.Logic.{bool_ext, and_both, and_in}
use Rattle.base.proofs.BitSet.{member_none, member_union, member_single, set_ext_below, member_collect, collect_lt}
use Rattle.rule.specs.Rule.{Rule}
use Rattle.history.specs.Forest.{Forest, nil, node, size, listing, named, names, same_numbers}
use Rattle.history.specs.Tree.{Tree}
use Rattle.history.specs.Letter.{Origin, was, sprouted, survivors, is_old, accepting, stable, by_number, accepting_map, stable_map}
use Rattle.history.specs.Inner.OldNumbers.{no_node, old_number}
use Rattle.history.proofs.Tree.Conditions.{OneRoot}
use Rattle.history.proofs.Names.Names.{same_self, same_equal, any_node}
use Rattle.step.proofs.GrownNodes.{marked, keeps_name, accepting_of, stable_in}
use Rattle.step.proofs.OldNumbers.{old_number_lem}

-- the same test on a list
any_same : {A : Type 0} (f g : A → Bool) → ((x : A) → f x ≡ g x) → (l : List A) → any_of f l ≡ any_of g l
unfolding any_of
any_same f g h [] = refl
any_same f g h (x ∷ l) = ap₂ ◌||◌ (h x) (any_same f g h l)

-- the members of a map are the numbers of the nodes that pass the test
member_marked : {A : Type 0} (f : A → Bool) (number : A → ℕ) (F : Forest A) (q : ℕ)
    → member (marked f number F) q ≡ any_of (λ x. f x && eqb (number x) q) (listing F)
unfolding marked listing any_of
member_marked f number nil q = member_none q
member_marked f number (node x below younger) q =
    member_union (cond (f x) (2 ^ number x) 0) (bit_or (marked f number below) (marked f number younger)) q
    ∙ ap₂ ◌||◌ (own (f x)) (member_union (marked f number below) (marked f number younger) q
    ∙ ap₂ ◌||◌ (member_marked f number below q) (member_marked f number younger q))
    ∙ sym (any_node (λ x. f x && eqb (number x) q) x below younger)
  where
    own : (b : Bool) → member (cond b (2 ^ number x) 0) q ≡ (b && eqb (number x) q)
    own true = member_single (number x) q
    own false = member_none q

-- a map that has the number of each node of a tree just where f holds of its name
by_number_lem : (T : Tree) (f : List ℕ → Bool) (m : ℕ) → m < 2 ^ size T
    → ((q : ℕ) → q < size T → member m q ≡ f (get_or (names T) q [])) → m ≡ by_number f T
unfolding by_number
by_number_lem T f m small same = set_ext_below (size T) m (collect (size T) (λ i. f (get_or (names T) i []))) small (collect_lt (size T) _)
    (λ q h. same q h ∙ sym (member_collect (size T) (λ i. f (get_or (names T) i [])) q
    ∙ ap (λ (b : Bool). b && f (get_or (names T) q [])) (lt-ltb q (size T) h)))

-- an old node keeps its name n, and its name was w, just if its name was w and w is n
name_kept_lem : (w n : List ℕ) (o : Origin) → (is_old n o && is_old w o) ≡ (is_old w o && same_numbers w n)
unfolding is_old
name_kept_lem w n (was p) = bool_ext _ _
    (λ h. let (a, b) = and_in (same_numbers n p) (same_numbers w p) h in
    and_both (same_numbers w p) (same_numbers w n) b (rw (same_equal w p b, ← same_equal n p a) (same_self n)))
    (λ h. let (a, b) = and_in (same_numbers w p) (same_numbers w n) h in
    and_both (same_numbers n p) (same_numbers w p) (rw (← same_equal w n b) a) a)
name_kept_lem w n sprouted = refl

module _ (R : Rule) (a : ℕ) (T : Tree) (one : OneRoot T) (few : size T < no_node) where
  -- the maps that the letter gives
  pub accepting_map_lem : accepting_of (old_number T) (survivors R a T) < 2 ^ size T
      → accepting_of (old_number T) (survivors R a T) ≡ accepting_map R a T
  unfolding accepting_map accepting accepting_of
  accepting_map_lem small = by_number_lem T (accepting R a T) _ small (λ q h.
      member_marked (λ x. x.accepting) (λ x. old_number T x.origin) (survivors R a T) q
      ∙ any_same _ _ (λ x. and_comm x.accepting (eqb (old_number T x.origin) q)
      ∙ ap (λ (b : Bool). b && x.accepting) (sym (old_number_lem T one few x.origin q h))) (listing (survivors R a T)))

  pub stable_map_lem : stable_in (old_number T) (survivors R a T) < 2 ^ size T → stable_in (old_number T) (survivors R a T) ≡ stable_map R a T
  unfolding stable_map stable stable_in keeps_name
  stable_map_lem small = by_number_lem T (stable R a T) _ small (λ q h.
      member_marked keeps_name (λ x. old_number T x.here.origin) (named (survivors R a T)) q
      ∙ any_same _ _ (λ x. ap (λ (b : Bool). is_old x.name x.here.origin && b) (sym (old_number_lem T one few x.here.origin q h))
      ∙ name_kept_lem (get_or (names T) q []) x.name x.here.origin) (listing (named (survivors R a T))))
