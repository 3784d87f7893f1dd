-- The tree judge's verdict on a walk, by computation. The trees of the rounds are computed and compared, and the names of
-- the nodes of t(e) are tried in number order, which is dictionary order. Where the test says yes, the entry, the period
-- and the finding are the walk's. `unfolding verdict_test` and `unfolding rule_test` open all that has to compute.
use mathlib.Core.Path.{◌≡◌, refl, subst}
use mathlib.Core.Bool.{Bool, true, false, not, ◌&&◌, cond}
use mathlib.Core.List.{List, [], ◌∷◌}
use Prim.Native.Nat.{ℕ, zero, suc, ◌+◌, ◌≤◌, ◌<◌}
use native.Mathlib.Omega.{arith}
use borrow.Author.Tests.{leb-true, eqb-true, eq-eqb}
use lib.Dec.{eqb, leb}
use lib.ListN.{length, get_or}
use Rattle.base.specs.BitSet.{member, minus, collect, some, image}
use Rattle.base.specs.Outcome.{Outcome, refused, accepted}
use Rattle.base.specs.Reading.{read_many, ended}
use Rattle.base.specs.Lists.{any_of}
use Rattle.base.proofs.Logic.{clash, and_both, and_in, not_in}
use Rattle.base.proofs.BitSet.{some_in}
use Rattle.rule.specs.Rule.{Rule, cell_at, edge, edge_in, successors, successors_in}
use Rattle.rule.specs.WellFormed.{start_fits}
use Rattle.table.specs.Table.{read_rule, read_body, read_grid, read_cell, read_row, read_transition, read_byte, ask_header, in_range}
use Rattle.word.specs.Walk.{rounds}
use Rattle.history.specs.Forest.{nil, node, change, listing, named_from, named, names, same_numbers}
use Rattle.history.specs.Tree.{Tree, start_tree}
use Rattle.history.specs.Letter.{begun, succeeded, youngest, child, sprouting, separated, grown_labels, next_set, kept, pruned, two_steps, three_steps, five_steps, survivors, next_tree, is_old, accepting, stable}
use Rattle.history.specs.Rounds.{read_letters, round_tree, tree_in_round, FirstRepeat}
use Rattle.history.specs.Verdict.{FirstWitness}
use Rattle.history.specs.Finding.{Finding, yes_node, no_node, Found}
use Rattle.history.proofs.Names.Names.{same_equal}
use Rattle.history.proofs.Repeat.FirstRepeats.{First}
use Rattle.history.proofs.Verdict.FirstWitness.{witness_test, test_witness, witness_test_lem, witness_node, lowest_first}

-- COMPARING TREES

-- the same nodes: label by label and active set by active set
same_tree : Tree → Tree → Bool
same_tree nil nil = true
same_tree nil (node y below younger) = false
same_tree (node x below younger) nil = false
same_tree (node x below younger) (node y below' younger') =
    (eqb x.label y.label && eqb x.active y.active) && (same_tree below below' && same_tree younger younger')

same_tree_lem : (T S : Tree) → same_tree T S ≡ true → T ≡ S
unfolding same_tree
same_tree_lem nil nil h = refl
same_tree_lem nil (node y below younger) h = clash refl h
same_tree_lem (node x below younger) nil h = clash refl h
same_tree_lem (node x below younger) (node y below' younger') h =
    let (own, rest) = and_in (eqb x.label y.label && eqb x.active y.active) _ h in
    let (label, active) = and_in (eqb x.label y.label) _ own in
    let (down, on) = and_in (same_tree below below') _ rest in
    λ i. node (record { label = eqb-true x.label y.label label i; active = eqb-true x.active y.active active i })
    (same_tree_lem below below' down i)
    (same_tree_lem younger younger' on i)

tree_self : (T : Tree) → same_tree T T ≡ true
unfolding same_tree
tree_self nil = refl
tree_self (node x below younger) =
    and_both _ _ (and_both _ _ (eq-eqb x.label x.label refl) (eq-eqb x.active x.active refl))
    (and_both _ _ (tree_self below) (tree_self younger))

-- THE FIRST REPEAT

-- is the tree at place j an earlier one?
seen_before : (ℕ → Tree) → ℕ → Bool
seen_before t j = some j (λ i. same_tree (t i) (t j))

-- is the tree at the entry that of a period later, and none before that an earlier one?
repeat_test : (ℕ → Tree) → ℕ → ℕ → Bool
repeat_test t entry period = leb 1 period && (same_tree (t entry) (t (entry + period)) && not (some (entry + period) (seen_before t)))

repeat_by_test : (t : ℕ → Tree) (entry period : ℕ) → repeat_test t entry period ≡ true → FirstRepeat t entry period
unfolding repeat_test seen_before
repeat_by_test t entry period h =
    let (positive, h') = and_in (leb 1 period) _ h in
    let (back, none) = and_in (same_tree (t entry) (t (entry + period))) _ h' in
    record {
      positive = leb-true 1 period positive;
      back = same_tree_lem (t entry) (t (entry + period)) back;
      first = λ i j l k e. clash (not_in _ none) (some_in (entry + period) (seen_before t) j k
          (some_in j (λ i. same_tree (t i) (t j)) i l (rw e (tree_self (t j)))));
    }

-- THE FINDING

-- is the finding the first of some names that passes a test, and no where none passes?
is_first : (List ℕ → Bool) → List (List ℕ) → Finding → Bool
is_first test [] (yes_node w) = false
is_first test [] no_node = true
is_first test (p ∷ l) (yes_node w) = cond (test p) (same_numbers p w) (is_first test l (yes_node w))
is_first test (p ∷ l) no_node = not (test p) && is_first test l no_node

module _ (test : List ℕ → Bool) where
  -- the name at a place passes
  abbrev Passes : List (List ℕ) → ℕ → Type 0
  Passes l i = test (get_or l i []) ≡ true

  -- what the test says where the finding is a name, and where it is no
  first_passes : (l : List (List ℕ)) (w : List ℕ) → is_first test l (yes_node w) ≡ true
      → (f : First (Passes l) (length l)) × (get_or l f.at [] ≡ w)
  unfolding is_first
  first_passes [] w h = clash refl h
  first_passes (p ∷ l) w h = go (test p) refl (first_passes l w) h
    where
      go : (b : Bool) → test p ≡ b → (is_first test l (yes_node w) ≡ true → (f : First (Passes l) (length l)) × (get_or l f.at [] ≡ w))
          → cond b (same_numbers p w) (is_first test l (yes_node w)) ≡ true
          → (f : First (Passes (p ∷ l)) (suc (length l))) × (get_or (p ∷ l) f.at [] ≡ w)
      go true e later h =
          (record { at = 0; below = omega arith; holds = e; least = λ i k. absurd (omega arith) }, same_equal p w h)
      go false e later h = let (f, is) = later h in
          (record { at = suc f.at; below = omega (arith, f.below); holds = f.holds; least = least f }, is)
        where
          least : (f : First (Passes l) (length l)) (i : ℕ) → i < suc f.at → Passes (p ∷ l) i → ⊥
          least f zero k t = clash e t
          least f (suc i) k t = f.least i (omega arith) t

  none_passes : (l : List (List ℕ)) → is_first test l no_node ≡ true → (i : ℕ) → i < length l → Passes l i → ⊥
  unfolding is_first
  none_passes [] h i k t = omega arith
  none_passes (p ∷ l) h zero k t = clash (not_in (test p) (and_in (not (test p)) _ h).0) t
  none_passes (p ∷ l) h (suc i) k t = none_passes l (and_in (not (test p)) _ h).1 i (omega arith) t

-- THE VERDICT

-- are these the entry, the period and the finding?
unfoldable pub verdict_test : Rule → List ℕ → List ℕ → ℕ → ℕ → Finding → Bool
unfolding repeat_test seen_before same_tree is_first witness_test
    tree_in_round round_tree read_letters rounds start_tree
    next_tree stable accepting survivors five_steps three_steps two_steps begun succeeded sprouting child youngest separated pruned kept grown_labels next_set
    change named named_from names listing any_of is_old same_numbers
    successors successors_in image collect some member minus edge edge_in cell_at
verdict_test R u v entry period finding =
    repeat_test (round_tree R u v) entry period && is_first (witness_test R u v entry period) (names (round_tree R u v entry)) finding

-- number order is dictionary order, so the first that passes is the first witness; and every witness is a name of t(e)
found_by_test : (R : Rule) (u v : List ℕ) (entry period : ℕ) → 1 ≤ length v → 1 ≤ period → (finding : Finding)
    → is_first (witness_test R u v entry period) (names (round_tree R u v entry)) finding ≡ true → Found R u v entry period finding
found_by_test R u v entry period filled positive (yes_node w) h =
    let (f, is) = first_passes (witness_test R u v entry period) (names (round_tree R u v entry)) w h in
    subst (FirstWitness R u v entry period) is
    (lowest_first R u v entry period filled positive f.at f.below (test_witness R u v entry period _ f.holds)
    (λ j k W. f.least j k (witness_test_lem R u v entry period _ W)))
found_by_test R u v entry period filled positive no_node h = λ w W.
    let (i, k, is) = witness_node R u v entry period filled positive w W in
    none_passes (witness_test R u v entry period) (names (round_tree R u v entry)) h i k (rw is (witness_test_lem R u v entry period w W))

-- a test that says yes proves the first repeat and the finding
pub verdict_by_test : (R : Rule) (u v : List ℕ) (entry period : ℕ) (finding : Finding) → 1 ≤ length v
    → verdict_test R u v entry period finding ≡ true → FirstRepeat (round_tree R u v) entry period × Found R u v entry period finding
unfolding verdict_test
verdict_by_test R u v entry period finding filled h =
    let (repeats, finds) = and_in (repeat_test (round_tree R u v) entry period) _ h in
    let F = repeat_by_test (round_tree R u v) entry period repeats in
    (F, found_by_test R u v entry period filled F.positive finding finds)

-- THE RULE OF A TABLE

-- is the outcome a rule, and does it pass?
accepted_test : (Rule → Bool) → Outcome Rule → Bool
accepted_test f (refused number) = false
accepted_test f (accepted R) = f R

-- is the table accepted, and does its rule pass a test?
unfoldable pub rule_test : (Rule → Bool) → List ℕ → Bool
unfolding accepted_test
    read_rule read_body read_grid read_many read_cell read_row read_transition read_byte ended ask_header in_range start_fits
rule_test f table = accepted_test f (read_rule table)

accepted_by_test : (f : Rule → Bool) (o : Outcome Rule) → accepted_test f o ≡ true → (R : Rule) × (o ≡ accepted R) × (f R ≡ true)
unfolding accepted_test
accepted_by_test f (refused number) h = clash refl h
accepted_by_test f (accepted R) h = (R, refl, h)

pub rule_by_test : (f : Rule → Bool) (table : List ℕ) → rule_test f table ≡ true
    → (R : Rule) × (read_rule table ≡ accepted R) × (f R ≡ true)
unfolding rule_test
rule_by_test f table h = accepted_by_test f (read_rule table) h
