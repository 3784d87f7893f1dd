-- One letter (document 01, "One letter"), step by step as the document numbers them.
use Rattle.std.specs.Prelude.{Bool, true, false, ◌&&◌, cond, List, [], ℕ, suc, eqb, ltb, get_or}
use Rattle.std.specs.Int.Bits.{bit_or}
use Rattle.base.specs.BitSet.{minus, collect}
use Rattle.base.specs.Lists.{any_of}
use Rattle.rule.specs.Rule.{Rule, successors, successors_in}
use Rattle.history.specs.Forest.{Forest, nil, node, size, change, listing, named, names, same_numbers}
use Rattle.history.specs.Tree.{Tree}

-- where a node comes from: it was there before the letter, under this name, or the letter has sprouted it
pub data Origin : Type 0 where
  was : List ℕ → Origin
  sprouted : Origin

-- a node while a letter is read
pub record Grown : Type 0 where
  pub origin : Origin
  -- the label before the letter
  pub before : ℕ
  pub label : ℕ
  pub active : ℕ
  pub accepting : Bool

-- the old nodes, with their names
unfoldable pub begun : Tree → Forest Grown
begun T =
    change (λ x. record { origin = was x.name; before = x.here.label; label = x.here.label; active = x.here.active; accepting = false })
    (named T)

-- 1. "Each label becomes its successors under the letter."
unfoldable pub succeeded : Rule → ℕ → Forest Grown → Forest Grown
succeeded R a F =
    change (λ x. record { origin = x.origin; before = x.before; label = successors R a x.before; active = x.active; accepting = x.accepting }) F

-- siblings with one more behind them
unfoldable pub youngest : Forest Grown → Grown → Forest Grown
youngest nil x = node x nil nil
youngest (node y below younger) x = node y below (youngest younger x)

-- 2. "Each old node gains a youngest child: the states reached from its old label by transitions of its active set."
-- "A sprouted child starts with active set 1."
unfoldable pub child : Rule → ℕ → Grown → Grown
child R a x =
    record { origin = sprouted; before = 0; label = successors_in R x.active a x.before; active = 1; accepting = false }

unfoldable pub sprouting : Rule → ℕ → Forest Grown → Forest Grown
sprouting R a nil = nil
sprouting R a (node x below younger) = node x (youngest (sprouting R a below) (child R a x)) (sprouting R a younger)

-- 3. "A state in a node's label leaves all younger siblings of that node and everything below them."
-- `older` is the union of the labels of the older siblings of a node and of its ancestors.
unfoldable pub separated : ℕ → Forest Grown → Forest Grown
separated older nil = nil
separated older (node x below younger) =
    node (record { origin = x.origin; before = x.before; label = minus x.label older; active = x.active; accepting = x.accepting })
    (separated older below)
    (separated (bit_or older x.label) younger)

-- the union of siblings' labels
unfoldable pub grown_labels : Forest Grown → ℕ
grown_labels nil = 0
grown_labels (node x below younger) = bit_or x.label (grown_labels younger)

-- "its active set goes up by one, from k to 1"
unfoldable pub next_set : ℕ → ℕ → ℕ
next_set k i = cond (ltb i k) (suc i) 1

-- 4. at one node, by whether its label is empty and whether it equals the union of its children's labels
unfoldable pub kept : ℕ → Bool → Bool → Grown → Forest Grown → Forest Grown → Forest Grown
-- "Nodes with empty labels are removed."
kept k true full x below younger = younger
-- "A node whose label is non-empty and equals the union of its children's labels loses all its descendants. If no
-- ancestor did so too, it is accepting and its active set goes up by one": below such an ancestor nothing is kept
kept k false true x below younger =
    node (record { origin = x.origin; before = x.before; label = x.label; active = next_set k x.active; accepting = true }) nil younger
kept k false false x below younger = node x below younger

unfoldable pub pruned : ℕ → Forest Grown → Forest Grown
pruned k nil = nil
pruned k (node x below younger) =
    kept k (eqb x.label 0) (eqb x.label (grown_labels below)) x (pruned k below) (pruned k younger)

-- the nodes after steps 1 and 2, sprouted ones among them, and after step 3
unfoldable pub two_steps : Rule → ℕ → Tree → Forest Grown
two_steps R a T = sprouting R a (succeeded R a (begun T))

unfoldable pub three_steps : Rule → ℕ → Tree → Forest Grown
three_steps R a T = separated 0 (two_steps R a T)

-- the nodes after the five steps, each with where it comes from. 5. "Surviving siblings are renumbered from 0 in their old
-- order": their places among siblings are their child numbers.
unfoldable pub five_steps : Rule → ℕ → Tree → Forest Grown
five_steps R a T = pruned R.sets (three_steps R a T)

-- what a letter makes of a tree: the nodes after it
unfoldable pub survivors : Rule → ℕ → Tree → Forest Grown
survivors R a T = five_steps R a T

-- the next tree: what survives, with labels and active sets alone
unfoldable pub next_tree : Rule → ℕ → Tree → Tree
next_tree R a T = change (λ x. record { label = x.label; active = x.active }) (survivors R a T)

-- was this the old node of that name?
unfoldable pub is_old : List ℕ → Origin → Bool
is_old w (was p) = same_numbers w p
is_old w sprouted = false

-- is the old node of that name accepting?
unfoldable pub accepting : Rule → ℕ → Tree → List ℕ → Bool
accepting R a T w = any_of (λ x. is_old w x.origin && x.accepting) (listing (survivors R a T))

-- "An old node is stable if it survives with its name unchanged."
unfoldable pub stable : Rule → ℕ → Tree → List ℕ → Bool
stable R a T w = any_of (λ x. is_old w x.here.origin && same_numbers w x.name) (listing (named (survivors R a T)))

-- "two map bytes by old node number, accepting and stable"
unfoldable pub by_number : (List ℕ → Bool) → Tree → ℕ
by_number f T = collect (size T) (λ i. f (get_or (names T) i []))

unfoldable pub accepting_map : Rule → ℕ → Tree → ℕ
accepting_map R a T = by_number (accepting R a T) T

unfoldable pub stable_map : Rule → ℕ → Tree → ℕ
stable_map R a T = by_number (stable R a T) T
