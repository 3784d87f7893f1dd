-- The laws of `tabulate` (specs/Lists.antt), and of an array that a loop fills from the front with the values of a function.
use mathlib.Core.Path.{◌≡◌, refl, sym, ◌∙◌, ap, ap₂}
use mathlib.Core.List.{List, [], ◌∷◌, ◌++◌}
use Prim.Native.Nat.{ℕ, zero, suc, ◌+◌, ◌≤◌, ◌<◌}
use native.Mathlib.Numerals.{add-one}
use native.Mathlib.Omega.{arith}
use lib.ListN.{length, get_or, take, set, length-set}
use lib.Seq.{take-suc-set, take_all}
use Rattle.base.specs.Lists.{tabulate}

module _ {A : Type 0} where
  -- its length and its values
  pub length_tabulate : (n : ℕ) (f : ℕ → A) → length (tabulate n f) ≡ n
  unfolding tabulate
  length_tabulate zero f = refl
  length_tabulate (suc n) f = ap suc (length_tabulate n (λ i. f (suc i)))

  pub get_d_tabulate : (n : ℕ) (f : ℕ → A) (i : ℕ) (d : A) → i < n → get_or (tabulate n f) i d ≡ f i
  unfolding tabulate
  get_d_tabulate zero f i d h = absurd (omega arith)
  get_d_tabulate (suc n) f zero d h = refl
  get_d_tabulate (suc n) f (suc i) d h = get_d_tabulate n (λ i. f (suc i)) i d (omega arith)

  -- the same values, the same list
  pub tabulate_ext : (n : ℕ) (f g : ℕ → A) → ((i : ℕ) → i < n → f i ≡ g i) → tabulate n f ≡ tabulate n g
  unfolding tabulate
  tabulate_ext zero f g h = refl
  tabulate_ext (suc n) f g h =
      ap₂ (λ (x : A) (l : List A). x ∷ l) (h 0 (omega arith)) (tabulate_ext n (λ i. f (suc i)) (λ i. g (suc i)) (λ i l. h (suc i) (omega arith)))

  -- one more value stands at the end
  tabulate_more : (n : ℕ) (f : ℕ → A) → tabulate (suc n) f ≡ tabulate n f ++ (f n ∷ [])
  unfolding tabulate
  tabulate_more zero f = refl
  tabulate_more (suc n) f = ap (f 0 ∷◌) (tabulate_more n (λ i. f (suc i)))

  -- an array of n places, the first i of which hold the values of f
  pub record Holds (f : ℕ → A) (n i : ℕ) (l : List A) : Type 0 where
    pub upto : i ≤ n
    pub places : length l ≡ n
    pub values : take i l ≡ tabulate i f

  -- at the start, after one more store, and at the end
  pub holds_none : (f : ℕ → A) (n : ℕ) (l : List A) → length l ≡ n → Holds f n 0 l
  unfolding tabulate
  holds_none f n l h = record { upto = omega arith; places = h; values = refl }

  pub holds_more : {f : ℕ → A} {n i : ℕ} {l : List A} (x : A) → Holds f n i l → i < n → x ≡ f i → Holds f n (i + 1) (set l i x)
  holds_more {f} {n} {i} {l} x h k e = record {
    upto = omega arith;
    places = length-set l i x ∙ h.places;
    values = rw (add-one, take-suc-set l i x (omega (arith, h.places)), h.values, e) (sym (tabulate_more i f));
  }

  pub holds_all : {f : ℕ → A} {n i : ℕ} {l : List A} → Holds f n i l → n ≤ i → l ≡ tabulate n f
  holds_all {f} {n} {i} {l} h k = let e : i ≡ n = omega (arith, h.upto) in
      sym (take_all i l (omega (arith, h.places))) ∙ h.values ∙ ap (λ (m : ℕ). tabulate m f) e
