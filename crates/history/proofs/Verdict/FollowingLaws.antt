-- Following names letter by letter (specs/Inner/Following.antt): the maps of the nodes that kept their names, and of those of them
-- that were accepting once, go from each letter to the next by the old numbers and the maps of that letter.
use mathlib.Core.Path.{◌≡◌, refl, sym, ◌∙◌, ap, ap₂, fun_ext}
use mathlib.Core.Bool.{Bool, true, false, ◌&&◌, ◌||◌, and-true, and-false, and_assoc, or-false, or_assoc}
use mathlib.Core.List.{List, [], ◌∷◌, ◌++◌}
use Prim.Native.Nat.{ℕ, ◌-◌, ◌^◌, ◌≤◌, ◌<◌}
use borrow.Author.Tests.{ltb-true, lt-ltb}
use lib.Bits.{bit_and, bit_or}
use lib.Dec.{ltb}
use lib.ListN.{get_or}
use Rattle.base.specs.BitSet.{member, collect}
use Rattle.base.proofs.Logic.{bool_ext, and_both, and_in}
use Rattle.base.proofs.BitSet.{member_union, member_inter, set_ext, member_collect, collect_ext, collect_all, collect_none}
use Rattle.rule.specs.Rule.{Rule}
use Rattle.rule.specs.WellFormed.{WellFormed}
use Rattle.history.specs.Forest.{size, names}
use Rattle.history.specs.Tree.{Tree, is_tree_of}
use Rattle.history.specs.Letter.{next_tree, accepting, stable, by_number, accepting_map, stable_map}
use Rattle.history.specs.Rounds.{read_letters}
use Rattle.history.specs.Inner.OldNumbers.{no_node, old_numbers}
use Rattle.history.specs.Inner.Following.{stable_through, accepting_once, kept_map, witness_map, carried}
use Rattle.history.proofs.Walk.TreesOfWalk.{read_append}
use Rattle.history.proofs.Repeat.RepeatExists.{letters_keep}
use Rattle.history.proofs.Names.OldNumberLaws.{length_old, stable_keeps, stable_comes}

-- SOME LETTERS, AND MORE BEHIND THEM

-- stable at all of them, accepting at one of them
pub stable_append : (R : Rule) (T : Tree) (w w' p : List ℕ)
    → stable_through R T (w ++ w') p ≡ (stable_through R T w p && stable_through R (read_letters R w T) w' p)
unfolding stable_through read_letters
stable_append R T [] w' p = refl
stable_append R T (a ∷ w) w' p =
    ap (λ (b : Bool). stable R a T p && b) (stable_append R (next_tree R a T) w w' p) ∙ sym (and_assoc (stable R a T p) _ _)

pub accepting_append : (R : Rule) (T : Tree) (w w' p : List ℕ)
    → accepting_once R T (w ++ w') p ≡ (accepting_once R T w p || accepting_once R (read_letters R w T) w' p)
unfolding accepting_once read_letters
accepting_append R T [] w' p = refl
accepting_append R T (a ∷ w) w' p =
    ap (λ (b : Bool). accepting R a T p || b) (accepting_append R (next_tree R a T) w w' p) ∙ sym (or_assoc (accepting R a T p) _ _)

-- MAPS BY NUMBER

module _ (T : Tree) where
  -- the members of such a map
  pub member_by : (f : List ℕ → Bool) (i : ℕ) → member (by_number f T) i ≡ (ltb i (size T) && f (get_or (names T) i []))
  unfolding by_number
  member_by f i = member_collect (size T) (λ i. f (get_or (names T) i [])) i

  -- the nodes with two properties, and with one of two
  by_and : (f g : List ℕ → Bool) → bit_and (by_number f T) (by_number g T) ≡ by_number (λ p. f p && g p) T
  by_and f g = set_ext _ _ (λ i. simp (member_inter, member_by) (both (ltb i (size T)) (f (get_or (names T) i [])) (g (get_or (names T) i []))))
    where
      both : (s x y : Bool) → ((s && x) && (s && y)) ≡ (s && (x && y))
      both true x y = refl
      both false x y = refl

  by_or : (f g : List ℕ → Bool) → bit_or (by_number f T) (by_number g T) ≡ by_number (λ p. f p || g p) T
  by_or f g = set_ext _ _ (λ i. simp (member_union, member_by) (both (ltb i (size T)) (f (get_or (names T) i [])) (g (get_or (names T) i []))))
    where
      both : (s x y : Bool) → ((s && x) || (s && y)) ≡ (s && (x || y))
      both true x y = refl
      both false x y = refl

-- THE MAPS THAT ARE FOLLOWED

-- before the first letter all nodes have kept their names, and none was accepting
pub follow_none : (R : Rule) (T : Tree) → (kept_map R T [] ≡ 2 ^ size T - 1) × (witness_map R T [] ≡ 0)
unfolding kept_map witness_map by_number stable_through accepting_once read_letters
follow_none R T = (collect_all (size T), collect_none (size T))

module _ (R : Rule) (well : WellFormed R) (sets : 1 ≤ R.sets) (few : R.states < no_node) where
  -- a map of stable names is carried to the same names
  carried_names : (a : ℕ) (T : Tree) → is_tree_of R T ≡ true → (f : List ℕ → Bool)
      → carried (old_numbers R a T) (by_number (λ p. f p && stable R a T p) T) ≡ by_number (λ p. f p && stable R a T p) (next_tree R a T)
  unfolding carried by_number
  carried_names a T tree f =
      ap (λ (n : ℕ). collect n (λ j. member (by_number h T) (get_or (old_numbers R a T) j 0))) (length_old R well sets a T tree)
      ∙ collect_ext (size (next_tree R a T)) _ _ (λ j l. member_by T h (get_or (old_numbers R a T) j 0) ∙ bool_ext _ _ (into j l) (back j l))
    where
      h : List ℕ → Bool
      h p = f p && stable R a T p

      into : (j : ℕ) → j < size (next_tree R a T)
          → (ltb (get_or (old_numbers R a T) j 0) (size T) && h (get_or (names T) (get_or (old_numbers R a T) j 0) [])) ≡ true
          → h (get_or (names (next_tree R a T)) j []) ≡ true
      into j l e =
          let i = get_or (old_numbers R a T) j 0 in
          let (small, holds) = and_in (ltb i (size T)) _ e in
          let st = (and_in (f (get_or (names T) i [])) _ holds).1 in
          rw (stable_keeps R well sets a T tree few j l (ltb-true i (size T) small) st) holds

      back : (j : ℕ) → j < size (next_tree R a T) → h (get_or (names (next_tree R a T)) j []) ≡ true
          → (ltb (get_or (old_numbers R a T) j 0) (size T) && h (get_or (names T) (get_or (old_numbers R a T) j 0) [])) ≡ true
      back j l e =
          let (small, same) = stable_comes R well sets a T tree j l (and_in (f (get_or (names (next_tree R a T)) j [])) _ e).1 in
          and_both (ltb (get_or (old_numbers R a T) j 0) (size T)) _ (lt-ltb _ (size T) small) (rw same e)

  module _ (T₀ : Tree) (tree : is_tree_of R T₀ ≡ true) (w : List ℕ) (a : ℕ) where
    -- if the names with f are those with g that are stable at the letter behind w, then g's map gives f's
    follow : (f g : List ℕ → Bool) → ((p : List ℕ) → f p ≡ (g p && stable R a (read_letters R w T₀) p))
        → by_number f (read_letters R (w ++ (a ∷ [])) T₀)
        ≡ carried (old_numbers R a (read_letters R w T₀)) (bit_and (by_number g (read_letters R w T₀)) (stable_map R a (read_letters R w T₀)))
    unfolding read_letters stable_map
    follow f g h = let T = read_letters R w T₀ in
        ap₂ by_number (fun_ext h) (read_append R w (a ∷ []) T₀)
        ∙ sym (carried_names a T (letters_keep R well sets w T₀ tree) g)
        ∙ ap (carried (old_numbers R a T)) (sym (by_and T g (stable R a T)))

    -- the nodes kept so far that are stable at that letter
    pub follow_kept : kept_map R T₀ (w ++ (a ∷ []))
        ≡ carried (old_numbers R a (read_letters R w T₀)) (bit_and (kept_map R T₀ w) (stable_map R a (read_letters R w T₀)))
    unfolding kept_map stable_through
    follow_kept = follow (stable_through R T₀ (w ++ (a ∷ []))) (stable_through R T₀ w) (λ p. stable_append R T₀ w (a ∷ []) p ∙ rw and-true)

    -- and of these the ones that were accepting before, or are at this letter
    pub follow_accepted : witness_map R T₀ (w ++ (a ∷ [])) ≡ carried (old_numbers R a (read_letters R w T₀))
        (bit_and (bit_or (witness_map R T₀ w) (bit_and (kept_map R T₀ w) (accepting_map R a (read_letters R w T₀))))
        (stable_map R a (read_letters R w T₀)))
    unfolding kept_map witness_map accepting_map stable_through accepting_once
    follow_accepted =
        let T = read_letters R w T₀ in
        let kept = stable_through R T₀ w in
        let once = accepting_once R T₀ w in
        follow _ (λ p. (kept p && once p) || (kept p && accepting R a T p)) (λ p. rw (
          stable_append R T₀ w (a ∷ []) p,
          accepting_append R T₀ w (a ∷ []) p,
        ) (joined (kept p) (stable R a T p) (once p) (accepting R a T p)))
        ∙ ap (λ (m : ℕ). carried (old_numbers R a T) (bit_and m (stable_map R a T)))
        (sym (ap (bit_or (by_number (λ p. kept p && once p) T)) (by_and T kept (accepting R a T))
        ∙ by_or T (λ p. kept p && once p) (λ p. kept p && accepting R a T p)))
      where
        joined : (k s o c : Bool) → ((k && (s && true)) && (o || (c || false))) ≡ (((k && o) || (k && c)) && s)
        joined true true o c = rw (or-false c, and-true (o || c))
        joined true false o c = sym (and-false (o || c))
        joined false s o c = refl
