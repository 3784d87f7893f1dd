-- The running set of the step (document 02, U4): "keep the union of all older labels as a running set while passing from the oldest to the
-- youngest. Show that, when a sibling is reached, this set is the union of its older siblings' labels, both as they were before these
-- siblings lost states to one another and as they are after."
use Rattle.std.specs.Prelude.{◌≡◌, Bool, true, false, cond, List, [], ◌∷◌, ℕ, suc, ◌<◌, length, get_or, take}
use Rattle.rule.specs.Rule.{Rule}
use Rattle.history.specs.Forest.{size, listing, names}
use Rattle.history.specs.Tree.{Tree}
use Rattle.history.specs.Letter.{Origin, was, sprouted, Grown, two_steps}
use Rattle.history.specs.OlderSiblings.{OlderUnion}

-- was a node there before the letter?
unfoldable pub was_there : Origin → Bool
was_there (was w) = true
was_there sprouted = false

-- how many of these nodes were there before the letter
unfoldable pub old_ones : List Grown → ℕ
old_ones [] = 0
old_ones (x ∷ nodes) = cond (was_there x.origin) (suc (old_ones nodes)) (old_ones nodes)

-- The siblings are the nodes after steps 1 and 2, sprouted ones among them; the root is by itself. Once i old nodes are read, the sibling
-- that is reached at depth d is the node n of that depth that i old nodes stand before.
pub record ReachedSibling (R : Rule) (a : ℕ) (T : Tree) (i d n : ℕ) : Type 0 where
  pub there : n < size (two_steps R a T)
  pub behind : old_ones (take n (listing (two_steps R a T))) ≡ i
  pub deep : length (get_or (names (two_steps R a T)) n []) ≡ d

-- "when a sibling is reached, this set is the union of its older siblings' labels"
abbrev pub RunningSet : Rule → ℕ → Tree → ℕ → ℕ → ℕ → Type 0
RunningSet R a T i d set = (n : ℕ) → ReachedSibling R a T i d n → OlderUnion R a T n set
