-- Lists of lists, one behind the other; a part of a list up to its end.
use mathlib.Core.Path.{◌≡◌, refl, sym, ap, ◌∙◌}
use mathlib.Core.List.{List, [], ◌∷◌, ◌++◌, flatten, flat_map, append_assoc}
use Prim.Native.Nat.{ℕ, ◌-◌, ◌*◌}
use native.Mathlib.Nat.{zero-mul}
use native.Mathlib.Omega.{arith}
use lib.ListN.{length, take, drop, length-append, length-drop}
use lib.Seq.{take_all}
use Rattle.base.specs.Lists.{Every}

-- a part of a list up to its end
pub to_end : (from : ℕ) (l : List ℕ) → take (length l - from) (drop from l) ≡ drop from l
to_end from l = take_all (length l - from) (drop from l) (omega (arith, length-drop from l))

module _ {A : Type 0} where
  -- lists of lists, one behind the other
  pub flatten_append : (a b : List (List A)) → flatten (a ++ b) ≡ flatten a ++ flatten b
  unfolding flatten
  flatten_append [] b = refl
  flatten_append (x ∷ a) b = ap (x ++◌) (flatten_append a b) ∙ sym (append_assoc x (flatten a) (flatten b))

  -- c lists of length w hold c * w elements
  pub length_flatten : (w : ℕ) (ls : List (List A)) → Every (λ l. length l ≡ w) ls → length (flatten ls) ≡ length ls * w
  unfolding flatten
  length_flatten w [] h = sym (zero-mul w)
  length_flatten w (l ∷ ls) h = omega (arith, length-append l (flatten ls), length_flatten w ls h.1, h.0)

module _ {A B : Type 0} (f : A → List B) where
  -- the images of elements, put together: over two lists, and over a list of lists
  pub flat_map_append : (a b : List A) → flat_map f (a ++ b) ≡ flat_map f a ++ flat_map f b
  unfolding flat_map
  flat_map_append [] b = refl
  flat_map_append (x ∷ a) b = ap (f x ++◌) (flat_map_append a b) ∙ sym (append_assoc (f x) (flat_map f a) (flat_map f b))

  pub flat_map_flatten : (ls : List (List A)) → flat_map f (flatten ls) ≡ flat_map (flat_map f) ls
  unfolding flat_map flatten
  flat_map_flatten [] = refl
  flat_map_flatten (l ∷ ls) = flat_map_append l (flatten ls) ∙ ap (flat_map f l ++◌) (flat_map_flatten ls)
