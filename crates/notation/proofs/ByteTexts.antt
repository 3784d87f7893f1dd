-- Byte strings in hexadecimal.
use Rattle.std.proofs.Common.{◌≡◌, refl, sym, ◌∙◌, ap, List, [], ◌∷◌, ◌++◌, ℕ, ◌<◌, ◌≤◌, length, append_assoc, append-nil, length-append, arith, Option, Some, None, take, drop, get_or, replicate, Bool, true, false, cond, leb, ◌-◌}
use Rattle.std.proofs.lemmas.List.{length-replicate}
use Rattle.std.proofs.Math.Seq.{take_all}
use Rattle.std.proofs.lemmas.Grind.{common_steps}
use Rattle.std.proofs.lemmas.Bool.{leb-true}
use Rattle.std.proofs.lemmas.Bool.{le-leb, lt-leb, eq-eqb, ne_eqb}
use Rattle.std.specs.Option.{option_map, option_and_then}
use Rattle.notation.specs.Decimal.{digit_value, no_larger, decimal}
use Rattle.notation.specs.Hexadecimal.{pair_byte, hexadecimal, times, bytes_of, no_longer, longest}

-- A DIGIT

pub digit_small : (letter d : ℕ) → digit_value letter ≡ Some d → d < 16
unfolding digit_value
digit_small letter d e = grind (arith, common_steps)

-- PAIRS, ONE AFTER THE OTHER

-- two letters at the front, and those behind them as a part of the text
two_first : (text : List ℕ) → 2 ≤ length text → text ≡ get_or text 0 0 ∷ get_or text 1 0 ∷ take (length text - 2) (drop 2 text)
two_first [] h = absurd (omega arith)
two_first (only ∷ []) h = absurd (omega arith)
two_first (high ∷ low ∷ behind) h = sym (ap {B = List ℕ} (λ l. high ∷ low ∷ l) (take_all (length (high ∷ low ∷ behind) - 2) behind (omega arith)))

one_letter : (text : List ℕ) → length text < 2 → (length text ≡ 0 → ⊥) → hexadecimal text ≡ None
unfolding hexadecimal
one_letter [] few some = absurd (some refl)
one_letter (only ∷ []) few some = refl
one_letter (high ∷ low ∷ behind) few some = absurd (omega arith)

nothing_left : (text : List ℕ) → length text ≡ 0 → text ≡ []
nothing_left [] e = refl
nothing_left (letter ∷ rest) e = absurd (omega arith)

-- the bytes of the pairs in front of the rest
pub record Laid (text rest bytes : List ℕ) : Type 0 where
  pub small : length bytes ≤ longest
  pub goes_on : hexadecimal text ≡ option_map (λ more. bytes ++ more) (hexadecimal rest)

pub laid_none : (text bytes : List ℕ) → bytes ≡ [] → Laid text text bytes
unfolding longest
laid_none text bytes e = rw e (record { small = omega arith; goes_on = go (hexadecimal text) })
  where
    go : (o : Option (List ℕ)) → o ≡ option_map (λ more. [] ++ more) o
    go None = refl
    go (Some more) = refl

module _ {text rest bytes : List ℕ} (v : Laid text rest bytes) where
  -- no pair there
  pub laid_wrong : hexadecimal rest ≡ None → no_longer longest (hexadecimal text) ≡ None
  unfolding no_longer
  laid_wrong e = ap (λ o. no_longer longest o) (v.goes_on ∙ ap (λ o. option_map (λ more. bytes ++ more) o) e)

  -- one letter behind the pairs
  pub laid_odd : length rest < 2 → (length rest ≡ 0 → ⊥) → no_longer longest (hexadecimal text) ≡ None
  laid_odd few some = laid_wrong (one_letter rest few some)

  -- the whole text
  pub laid_all : length rest ≡ 0 → no_longer longest (hexadecimal text) ≡ Some bytes
  unfolding no_longer hexadecimal
  laid_all e =
      ap (λ o. no_longer longest o) (v.goes_on ∙ ap (λ l. option_map (λ more. bytes ++ more) (hexadecimal l)) (nothing_left rest e))
      ∙ rw (append-nil, le-leb (length bytes) longest v.small)

  module _ (two : 2 ≤ length rest) where
    -- two letters that are no pair
    pub laid_no_pair : pair_byte (get_or rest 0 0) (get_or rest 1 0) ≡ None → no_longer longest (hexadecimal text) ≡ None
    unfolding hexadecimal
    laid_no_pair e = laid_wrong (ap hexadecimal (two_first rest two) ∙ rw e)

  module _ (two : 2 ≤ length rest) (byte : ℕ) (is : pair_byte (get_or rest 0 0) (get_or rest 1 0) ≡ Some byte) where
    abbrev behind : List ℕ
    behind = take (length rest - 2) (drop 2 rest)

    front : hexadecimal rest ≡ option_map (λ more. byte ∷ more) (hexadecimal behind)
    unfolding hexadecimal
    front = ap hexadecimal (two_first rest two) ∙ rw is

    -- no room for its byte
    pub laid_full : longest ≤ length bytes → no_longer longest (hexadecimal text) ≡ None
    unfolding no_longer
    laid_full full = ap (λ o. no_longer longest o) (v.goes_on ∙ ap (λ o. option_map (λ more. bytes ++ more) o) front) ∙ go (hexadecimal behind)
      where
        go : (o : Option (List ℕ)) → no_longer longest (option_map (λ more. bytes ++ more) (option_map (λ more. byte ∷ more) o)) ≡ None
        go None = refl
        go (Some more) =
            let long : longest < length (bytes ++ byte ∷ more) = omega (arith, length-append bytes (byte ∷ more)) in
            rw (lt-leb (length (bytes ++ byte ∷ more)) longest long)

    -- its byte at the end
    pub laid_more : (after : List ℕ) → length after ≤ longest → after ≡ bytes ++ byte ∷ [] → Laid text behind after
    laid_more after fits e = record {
      small = fits;
      goes_on = v.goes_on ∙ ap (λ o. option_map (λ more. bytes ++ more) o) front ∙ go (hexadecimal behind);
    }
      where
        go : (o : Option (List ℕ)) → option_map (λ more. bytes ++ more) (option_map (λ more. byte ∷ more) o) ≡ option_map (λ more. after ++ more) o
        go None = refl
        go (Some more) = rw (e, append_assoc)

-- ONE BYTE SO MANY TIMES

-- a number within the room, or none
pub run_none : (byte : ℕ) (count : Option ℕ) → no_larger longest count ≡ None → no_longer longest (times byte count) ≡ None
unfolding no_larger no_longer times
run_none byte None e = refl
run_none byte (Some count) e = rw (length-replicate count byte) (go (leb count longest) e)
  where
    go : (t : Bool) → cond t (Some count) None ≡ None → cond t (Some (replicate count byte)) None ≡ None
    go true e = cc
    go false e = refl

pub run_some : (byte : ℕ) (count : Option ℕ) (number : ℕ) → no_larger longest count ≡ Some number
    → (number ≤ longest) × (no_longer longest (times byte count) ≡ Some (replicate number byte))
unfolding no_larger no_longer times
run_some byte None number e = cc
run_some byte (Some count) number e = rw (length-replicate count byte) (go (leb count longest) refl e)
  where
    go : (t : Bool) → leb count longest ≡ t → cond t (Some count) None ≡ Some number
        → (number ≤ longest) × (cond t (Some (replicate count byte)) None ≡ Some (replicate number byte))
    go true t e =
        let same : count ≡ number = cc in
        (omega (arith, leb-true count longest t), ap (λ (n : ℕ). Some (replicate n byte)) same)
    go false t e = cc

-- THE FORMS OF A BYTE STRING

pub empty_fits : no_longer longest (Some []) ≡ Some []
unfolding no_longer longest
empty_fits = refl

pub a_dash : (text : List ℕ) → text ≡ 45 ∷ [] → bytes_of text ≡ Some []
unfolding bytes_of
a_dash text e = rw e

pub a_star : (text : List ℕ) → 3 ≤ length text → get_or text 2 0 ≡ 42
    → bytes_of text
    ≡ option_and_then (λ byte. times byte (decimal (take (length text - 3) (drop 3 text)))) (pair_byte (get_or text 0 0) (get_or text 1 0))
unfolding bytes_of
a_star [] h is = absurd (omega arith)
a_star (only ∷ []) h is = absurd (omega arith)
a_star (high ∷ low ∷ []) h is = absurd (omega arith)
a_star (high ∷ low ∷ third ∷ rest) h is =
    let whole : take (length (high ∷ low ∷ third ∷ rest) - 3) rest ≡ rest = take_all (length (high ∷ low ∷ third ∷ rest) - 3) rest (omega arith) in
    rw (eq-eqb third 42 is, whole)

pub only_pairs : (text : List ℕ) → (text ≡ 45 ∷ [] → ⊥) → (3 ≤ length text → get_or text 2 0 ≡ 42 → ⊥) → bytes_of text ≡ hexadecimal text
unfolding bytes_of hexadecimal
only_pairs [] no_dash no_star = refl
only_pairs (only ∷ []) no_dash no_star = rw (ne_eqb only 45 (λ e. no_dash (ap {B = List ℕ} (λ n. n ∷ []) e)))
only_pairs (high ∷ low ∷ []) no_dash no_star = refl
only_pairs (high ∷ low ∷ third ∷ rest) no_dash no_star = rw (ne_eqb third 42 (no_star (omega arith)))
