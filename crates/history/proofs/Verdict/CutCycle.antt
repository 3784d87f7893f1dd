-- A tail that is cut in two, and the rounds counted from the cut: the same trees, letters and witnesses. Where t(0) and t(1) lead to
-- the same tree at the cut, the first repeat is known, and one round from the cut on has its witnesses.
use mathlib.Core.Path.{◌≡◌, sym, ◌∙◌, ap, ap₂}
use mathlib.Core.Logic.{◌↔◌}
use mathlib.Core.Bool.{◌&&◌, ◌||◌, and_comm, or_comm}
use mathlib.Core.List.{List, ◌++◌, append-nil}
use Prim.Native.Nat.{ℕ, zero, suc, ◌≤◌}
use Rattle.rule.specs.Rule.{Rule}
use Rattle.word.specs.Walk.{rounds}
use Rattle.word.proofs.Paths.{rounds_one}
use Rattle.history.specs.Tree.{Tree}
use Rattle.history.specs.Rounds.{read_letters, round_tree, FirstRepeat}
use Rattle.history.specs.Verdict.{Witness, FirstWitness}
use Rattle.history.specs.Inner.Following.{stable_through, accepting_once}
use Rattle.history.proofs.Repeat.FirstRepeats.{repeat_after_one}
use Rattle.history.proofs.Walk.TreesOfWalk.{read_append, round_next}
use Rattle.history.proofs.Verdict.FollowingLaws.{stable_append, accepting_append}
use Rattle.history.proofs.Verdict.CycleVerdict.{witness_through}
use Rattle.history.proofs.Verdict.AnyRounds.{any_rounds, any_rounds_first}

module _ (R : Rule) (u head rest : List ℕ) where
  abbrev t : ℕ → Tree
  t = round_tree R u (head ++ rest)

  -- the rounds from the cut on
  abbrev s : ℕ → Tree
  s = round_tree R (u ++ head) (rest ++ head)

  -- begin at the cut
  pub cut_round : (r : ℕ) → s r ≡ read_letters R head (t r)
  unfolding round_tree rounds
  cut_round zero = rw (append-nil (u ++ head), append-nil u) (read_append R u head _)
  cut_round (suc r) =
      round_next R (u ++ head) (rest ++ head) r ∙ ap (read_letters R (rest ++ head)) (cut_round r)
      ∙ read_append R rest head (read_letters R head (t r))
      ∙ ap (read_letters R head) (sym (read_append R head rest (t r)) ∙ sym (round_next R u (head ++ rest) r))

  -- and pass the round ends
  pub cut_rest : (r : ℕ) → read_letters R rest (s r) ≡ t (suc r)
  cut_rest r = ap (read_letters R rest) (cut_round r) ∙ sym (read_append R head rest (t r)) ∙ sym (round_next R u (head ++ rest) r)

  -- t(0) and t(1) lead to the same tree at the cut
  module _ (same : s 0 ≡ s 1) where
    -- so t(1) comes back
    again : t 1 ≡ t 2
    again = sym (cut_rest 0) ∙ ap (read_letters R rest) same ∙ cut_rest 1

    -- and the first repeat is that of t(1), if it is not that of t(0)
    pub repeat_second : (t 0 ≡ t 1 → ⊥) → FirstRepeat t 1 1
    repeat_second differ = repeat_after_one t differ again

    -- the names that are stable through the tail from t(1) on, and accepting once, are those from the cut on
    module _ (w : List ℕ) where
      cut_stable : stable_through R (t 1) (rounds 1 (head ++ rest)) w ≡ stable_through R (s 0) (rounds 1 (rest ++ head)) w
      cut_stable =
          ap (λ (x : List ℕ). stable_through R (t 1) x w) (rounds_one (head ++ rest)) ∙ stable_append R (t 1) head rest w
          ∙ ap₂ ◌&&◌ (ap (λ (T : Tree). stable_through R T head w) (sym (cut_rest 0)))
          (ap (λ (T : Tree). stable_through R T rest w) (sym (cut_round 1) ∙ sym same))
          ∙ and_comm (stable_through R (read_letters R rest (s 0)) head w) (stable_through R (s 0) rest w) ∙ sym (stable_append R (s 0) rest head w)
          ∙ ap (λ (x : List ℕ). stable_through R (s 0) x w) (sym (rounds_one (rest ++ head)))

      cut_accepting : accepting_once R (t 1) (rounds 1 (head ++ rest)) w ≡ accepting_once R (s 0) (rounds 1 (rest ++ head)) w
      cut_accepting =
          ap (λ (x : List ℕ). accepting_once R (t 1) x w) (rounds_one (head ++ rest)) ∙ accepting_append R (t 1) head rest w
          ∙ ap₂ ◌||◌ (ap (λ (T : Tree). accepting_once R T head w) (sym (cut_rest 0)))
          (ap (λ (T : Tree). accepting_once R T rest w) (sym (cut_round 1) ∙ sym same))
          ∙ or_comm (accepting_once R (read_letters R rest (s 0)) head w) (accepting_once R (s 0) rest w) ∙ sym (accepting_append R (s 0) rest head w)
          ∙ ap (λ (x : List ℕ). accepting_once R (s 0) x w) (sym (rounds_one (rest ++ head)))

      cut_witness : Witness R u (head ++ rest) 1 1 w ↔ Witness R (u ++ head) (rest ++ head) 0 1 w
      cut_witness = (
        λ W. let (stays, once) = (witness_through R u (head ++ rest) w 1 1).0 W in
            (witness_through R (u ++ head) (rest ++ head) w 1 0).1 (sym cut_stable ∙ stays, sym cut_accepting ∙ once),
        λ W. let (stays, once) = (witness_through R (u ++ head) (rest ++ head) w 1 0).0 W in
            (witness_through R u (head ++ rest) w 1 1).1 (cut_stable ∙ stays, cut_accepting ∙ once),
      )

    module _ (entry : ℕ) (F : FirstRepeat t entry 1) (late : entry ≤ 1) where
      -- so the first witness is the same, and there is none just if there is none from the cut on
      pub cut_first : (w : List ℕ) → FirstWitness R (u ++ head) (rest ++ head) 0 1 w → FirstWitness R u (head ++ rest) entry 1 w
      cut_first w f = (any_rounds_first R u (head ++ rest) entry 1 F 1 late w).1
          (record { witness = (cut_witness w).1 f.witness; first = λ p W before. f.first p ((cut_witness p).0 W) before })

      pub cut_none : ((w : List ℕ) → Witness R (u ++ head) (rest ++ head) 0 1 w → ⊥) → (w : List ℕ) → Witness R u (head ++ rest) entry 1 w → ⊥
      cut_none none w W = none w ((cut_witness w).0 ((any_rounds R u (head ++ rest) entry 1 F 1 late w).0 W))
