-- Reading several things one behind the other into the places of an array: the cells of a letter, and the letters.
use mathlib.Core.Path.{◌≡◌, refl, sym, ◌∙◌, ap}
use mathlib.Core.List.{List, [], ◌∷◌, ◌++◌, append_assoc}
use Prim.Native.Nat.{ℕ, suc, ◌+◌, ◌-◌, ◌≤◌, ◌<◌}
use native.Mathlib.Omega.{arith}
use native.Mathlib.Numerals.{add-one}
use lib.ListN.{length, get_or, take, drop, set, length-set, take-append-drop}
use lib.Seq.{take-suc-set, drop-set-lt, drop-drop, get_or-drop}
use Rattle.base.specs.Outcome.{refused, accepted, ◌then◌}
use Rattle.base.specs.Reading.{Read, read_many}
use Rattle.table.specs.Inner.Reader.{replaced}

module _ {A : Type 0} where
  -- what is read behind a front, before a tail
  abbrev between : List A → List A → Read (List A) → Read (List A)
  between front tail o = o then λ x. accepted (front ++ (x.0 ++ tail), x.1)

  -- the places below i are read, the others are as they were; what is still to be read gives the whole
  pub record ManySoFar (one : List ℕ → Read A) (count : ℕ) (old : List A) (whole : Read (List A)) (places : List A) (i : ℕ) (bytes : List ℕ)
      : Type 0 where
    pub size : length places ≡ length old
    pub upto : i ≤ count
    pub untouched : drop i places ≡ drop i old
    pub behind : between (take i places) (drop count old) (read_many one (count - i) bytes) ≡ whole

  pub many_start : (one : List ℕ → Read A) (count : ℕ) (old : List A) (bytes : List ℕ)
      → ManySoFar one count old (replaced count old (read_many one count bytes)) old 0 bytes
  many_start one count old bytes =
      let e : count - 0 ≡ count = omega arith in
      record { size = refl; upto = omega arith; untouched = refl; behind = rw e }

  between_more : (front tail : List A) (x : A) (o : Read (List A))
      → between front tail (o then λ xs. accepted (x ∷ xs.0, xs.1)) ≡ between (front ++ (x ∷ [])) tail o
  between_more front tail x (refused number) = refl
  between_more front tail x (accepted xs) =
      ap (λ (l : List A). accepted (l, xs.1)) (sym (append_assoc front (x ∷ []) (xs.0 ++ tail)))

  module _ {one : List ℕ → Read A} {count : ℕ} {old : List A} {whole : Read (List A)} {places : List A} {i : ℕ} {bytes : List ℕ}
      (v : ManySoFar one count old whole places i bytes) where
    -- the next place is as it was
    pub many_place : (d : A) → get_or places i d ≡ get_or old i d
    many_place d =
        let e : i + 0 ≡ i = omega arith in
        ap (λ (c : ℕ). get_or places c d) (sym e) ∙ sym (get_or-drop i places 0 d) ∙ ap (λ (l : List A). get_or l 0 d) v.untouched
        ∙ get_or-drop i old 0 d ∙ ap (λ (c : ℕ). get_or old c d) e

    module _ (h : i < count) where
      one_less : count - i ≡ suc (count - suc i)
      one_less = omega arith

      -- the next is there
      pub many_more : count ≤ length old → (x : A) (rest : List ℕ) → accepted (x, rest) ≡ one bytes
          → ManySoFar one count old whole (set places i x) (i + 1) rest
      unfolding read_many
      many_more fits x rest e = rw (add-one i) (record {
        size = length-set places i x ∙ v.size;
        upto = h;
        untouched = drop-set-lt (suc i) places i x (omega arith) ∙ others;
        behind = rw (take-suc-set places i x (omega (arith, v.size))) (sym (between_more (take i places) (drop count old) x
            (read_many one (count - suc i) rest)) ∙ rw (one_less, ← e) at v.behind);
      })
        where
          others : drop (suc i) places ≡ drop (suc i) old
          others = let e₁ : i + 1 ≡ suc i = add-one i in
              ap (λ (c : ℕ). drop c places) (sym e₁) ∙ sym (drop-drop 1 i places) ∙ ap (drop 1) v.untouched ∙ drop-drop 1 i old ∙ ap (λ (c : ℕ). drop c old) e₁

      -- the next is refused
      pub many_refused : (number : ℕ) → refused number ≡ one bytes → refused number ≡ whole
      unfolding read_many
      many_refused number e = rw (one_less, ← e) at v.behind

    -- all are there
    pub many_done : count ≤ i → accepted (places, bytes) ≡ whole
    unfolding read_many
    many_done h =
        let e : i ≡ count = omega (arith, v.upto) in
        let z : count - i ≡ 0 = omega arith in
        ap (λ (l : List A). accepted (l, bytes)) (sym (take-append-drop i places) ∙ ap (λ (l : List A). take i places ++ l) (v.untouched ∙ ap (λ (c : ℕ). drop c old) e))
        ∙ rw z at v.behind
