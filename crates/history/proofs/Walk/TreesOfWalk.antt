-- The trees along a walk, by position and by round: the tree after p letters of the walk, the tree before each letter of
-- each round, and that from the entry on they repeat, letter by letter.
use mathlib.Core.Path.{◌≡◌, refl, sym, ◌∙◌, ap}
use mathlib.Core.List.{List, [], ◌∷◌, ◌++◌, append_assoc}
use Prim.Native.Nat.{ℕ, zero, suc, ◌+◌, ◌*◌, ◌-◌, ◌≤◌, ◌<◌}
use native.Mathlib.Omega.{arith}
use native.Mathlib.Nat.{add-zero, add-suc}
use native.Mathlib.Numerals.{add-one}
use lib.ListN.{length, take}
use lib.Seq.{length-take-le, get_or-take}
use Rattle.rule.specs.Rule.{Rule}
use Rattle.word.specs.Walk.{letter_at, rounds}
use Rattle.word.proofs.Paths.{rounds_add, rounds_one}
use Rattle.word.proofs.Positions.{letter_round, Reads, reads_lead}
use Rattle.history.specs.Tree.{Tree, start_tree}
use Rattle.history.specs.Letter.{next_tree}
use Rattle.history.specs.Rounds.{read_letters, round_tree, tree_in_round, FirstRepeat}
use Rattle.history.proofs.Repeat.FirstRepeats.{periodic}
use Rattle.history.proofs.Walk.Stretches.{length_lead}
use Rattle.history.proofs.Walk.RoundPositions.{letters_back}

-- the tree after p letters of the walk
unfoldable pub tree_at : Rule → List ℕ → List ℕ → ℕ → Tree
tree_at R u v zero = start_tree R
tree_at R u v (suc p) = next_tree R (letter_at u v p) (tree_at R u v p)

-- reading letters, and then more
pub read_append : (R : Rule) (w w' : List ℕ) (T : Tree) → read_letters R (w ++ w') T ≡ read_letters R w' (read_letters R w T)
unfolding read_letters
read_append R [] w' T = refl
read_append R (a ∷ w) w' T = read_append R w w' (next_tree R a T)

-- the first of the letters that the walk has from a position on, and those behind it
reads_next : (u v : List ℕ) (p a : ℕ) (w : List ℕ) → Reads u v p (a ∷ w) → (letter_at u v p ≡ a) × Reads u v (suc p) w
reads_next u v p a w reads = (
  rw add-zero at (reads 0 (omega arith)),
  λ q h. let e : suc p + q ≡ p + suc q = omega arith in rw e (reads (suc q) (omega arith)),
)

module _ (R : Rule) (u v : List ℕ) where
  -- BY ROUNDS

  -- a round reads the tail once
  pub round_next : (r : ℕ) → round_tree R u v (suc r) ≡ read_letters R v (round_tree R u v r)
  unfolding round_tree
  round_next r =
      let e : rounds (suc r) v ≡ rounds r v ++ v =
      ap (λ x. rounds x v) (sym (add-one r)) ∙ rounds_add r 1 v ∙ ap (rounds r v ++◌) (rounds_one v) in
      rw (e, ← append_assoc u (rounds r v) v, read_append)

  -- before its first letter the tree in round r is t(r)
  pub in_round_zero : (r : ℕ) → tree_in_round R u v r 0 ≡ round_tree R u v r
  unfolding tree_in_round read_letters
  in_round_zero r = refl

  -- from the entry on the trees repeat, round by round
  pub round_periodic : (entry period : ℕ) → FirstRepeat (round_tree R u v) entry period
      → (d r : ℕ) → entry ≤ r → round_tree R u v r ≡ round_tree R u v (r + d * period)
  round_periodic entry period F d r h = periodic (round_tree R u v) (read_letters R v) round_next entry period F d r h

  -- BY POSITION

  -- where the walk has the letters w from position p on
  read_walk : (w : List ℕ) (p : ℕ) → Reads u v p w → read_letters R w (tree_at R u v p) ≡ tree_at R u v (p + length w)
  unfolding read_letters tree_at
  read_walk [] p reads = rw add-zero
  read_walk (a ∷ w) p reads =
      let (first, later) = reads_next u v p a w reads in
      let e : suc p + length w ≡ p + suc (length w) = omega arith in
      rw (← first, ← e) (read_walk w (suc p) later)

  module _ (filled : 1 ≤ length v) where
    pub tree_at_round : (r : ℕ) → tree_at R u v (length u + r * length v) ≡ round_tree R u v r
    unfolding round_tree tree_at
    tree_at_round r =
        let e : 0 + length (u ++ rounds r v) ≡ length u + r * length v = omega (arith, length_lead u v r) in
        sym (rw e at (read_walk (u ++ rounds r v) 0 (reads_lead u v r filled)))

    pub tree_in_round_lem : (r i : ℕ) → i ≤ length v → tree_at R u v (length u + r * length v + i) ≡ tree_in_round R u v r i
    unfolding tree_in_round
    tree_in_round_lem r i h =
        ap (λ x. tree_at R u v (length u + r * length v + x)) (sym (length-take-le i v h))
        ∙ sym (read_walk (take i v) (length u + r * length v) reads)
        ∙ ap (read_letters R (take i v)) (tree_at_round r)
      where
        reads : Reads u v (length u + r * length v) (take i v)
        reads q l =
            let l' : q < i = omega (arith, length-take-le i v h) in
            letter_round u v r q (omega arith) ∙ sym (get_or-take i v q 0 l')

    -- from the end of round e on the trees repeat position by position: the trees at round ends do, and the letters
    module _ (entry period : ℕ) (F : FirstRepeat (round_tree R u v) entry period) where
      behind : (d q : ℕ) → tree_at R u v (length u + (entry + d * period) * length v + q) ≡ tree_at R u v (length u + entry * length v + q)
      unfolding tree_at
      behind d zero = rw (add-zero, add-zero, tree_at_round (entry + d * period), tree_at_round entry)
          (sym (round_periodic entry period F d entry (omega arith)))
      behind d (suc q) =
          let e : length u + (entry + d * period) * length v + q ≡ length u + entry * length v + q + d * period * length v = omega arith in
          rw (add-suc, add-suc, behind d q, e, letters_back u v (d * period) (length u + entry * length v + q) (omega arith))

      pub walk_periodic : (d p : ℕ) → length u + entry * length v ≤ p → tree_at R u v (p + d * (period * length v)) ≡ tree_at R u v p
      walk_periodic d p h =
          let q : ℕ = p - (length u + entry * length v) in
          let e : p + d * (period * length v) ≡ length u + (entry + d * period) * length v + q = omega arith in
          let e' : length u + entry * length v + q ≡ p = omega arith in
          ap (tree_at R u v) e ∙ behind d q ∙ ap (tree_at R u v) e'
