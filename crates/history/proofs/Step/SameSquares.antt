-- What a letter makes of a tree depends on the letter's square alone: two letters with the same square, of one rule or of two with the same
-- states and sets, give the same next tree, with the same accepting and the same stable nodes.
use mathlib.Core.Path.{◌≡◌, refl, sym, ◌∙◌}
use mathlib.Core.List.{List}
use Prim.Native.Nat.{ℕ}
use Rattle.rule.specs.Rule.{Rule, square_of}
use Rattle.rule.proofs.SameSquares.{same_successors, same_successors_in}
use Rattle.history.specs.Forest.{Forest, nil, node, change}
use Rattle.history.specs.Tree.{Tree}
use Rattle.history.specs.Letter.{Grown, succeeded, child, sprouting, two_steps, three_steps, five_steps, survivors, next_tree, accepting, stable}
use Rattle.history.proofs.Step.StepsJoined.{survivors_steps}

module _ (R S : Rule) (states : R.states ≡ S.states) (sets : R.sets ≡ S.sets) (a b : ℕ) (same : square_of R a ≡ square_of S b) where
  same_succeeded : (F : Forest Grown) → succeeded R a F ≡ succeeded S b F
  unfolding succeeded change
  same_succeeded nil = refl
  same_succeeded (node x below younger) =
      rw (same_successors R S a b same states x.before, same_succeeded below, same_succeeded younger)

  same_child : (x : Grown) → child R a x ≡ child S b x
  unfolding child
  same_child x = rw (same_successors_in R S a b same states x.active x.before)

  same_sprouting : (F : Forest Grown) → sprouting R a F ≡ sprouting S b F
  unfolding sprouting
  same_sprouting nil = refl
  same_sprouting (node x below younger) = rw (same_child x, same_sprouting below, same_sprouting younger)

  same_steps : (T : Tree) → five_steps R a T ≡ five_steps S b T
  unfolding five_steps three_steps two_steps
  same_steps T = rw (same_succeeded, same_sprouting, sets)

  same_survivors : (T : Tree) → survivors R a T ≡ survivors S b T
  same_survivors T = survivors_steps R a T ∙ same_steps T ∙ sym (survivors_steps S b T)

  pub same_next : (T : Tree) → next_tree R a T ≡ next_tree S b T
  unfolding next_tree
  same_next T = rw (same_survivors T)

  pub same_accepting : (T : Tree) (w : List ℕ) → accepting R a T w ≡ accepting S b T w
  unfolding accepting
  same_accepting T w = rw (same_survivors T)

  pub same_stable : (T : Tree) (w : List ℕ) → stable R a T w ≡ stable S b T w
  unfolding stable
  same_stable T w = rw (same_survivors T)
