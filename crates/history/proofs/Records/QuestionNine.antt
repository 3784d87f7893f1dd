-- Question 9 is exact: it is answered yes for the records of the trees over n and k, and for nothing else, and the tree that is
-- read is the one whose record it is. So two trees never have one record.
use mathlib.Core.Path.{◌≡◌, refl, sym, ◌∙◌, ap}
use mathlib.Core.Logic.{◌↔◌}
use mathlib.Core.Bool.{Bool, true, false}
use mathlib.Core.List.{List}
use Prim.Native.Nat.{ℕ, ◌<◌}
use native.Mathlib.Omega.{arith}
use Rattle.base.specs.Outcome.{accepted, ask}
use Rattle.base.proofs.Logic.{and_both, and_in}
use Rattle.history.specs.Forest.{same_numbers}
use Rattle.history.specs.Tree.{Tree, is_tree}
use Rattle.history.specs.Record.{record_of, decoded, is_record, read_tree}
use Rattle.history.proofs.Names.Names.{same_self, same_equal}
use Rattle.history.proofs.Tree.Conditions.{NestedTree}
use Rattle.history.proofs.Records.RecordOfTree.{decoded_nested, decoded_record}

-- a yes: the bytes are the record of the tree that they decode to
pub is_record_out : (n k : ℕ) (bytes : List ℕ) → is_record n k bytes ≡ true
    → (is_tree n k (decoded n bytes) ≡ true) × (record_of n (decoded n bytes) ≡ bytes)
unfolding is_record
is_record_out n k bytes h = let (same, tree) = and_in (same_numbers (record_of n (decoded n bytes)) bytes) _ h in
    (tree, same_equal (record_of n (decoded n bytes)) bytes same)

-- the record of a tree is answered yes
pub is_record_in : (n k : ℕ) (T : Tree) → is_tree n k T ≡ true → k < 16 → is_record n k (record_of n T) ≡ true
unfolding is_record
is_record_in n k T t h = rw (decoded_record n k T t h)
    (and_both (same_numbers (record_of n T) (record_of n T)) _ (same_self (record_of n T)) t)

-- question 9: "are they the record of some tree over n and k?"
pub is_record_exact : (n k : ℕ) (bytes : List ℕ) → k < 16
    → (is_record n k bytes ≡ true) ↔ ((T : Tree) × (is_tree n k T ≡ true) × (record_of n T ≡ bytes))
is_record_exact n k bytes h = (
  λ yes9. let (t, e) = is_record_out n k bytes yes9 in (decoded n bytes, t, e),
  λ (T, t, e). ap (is_record n k) (sym e) ∙ is_record_in n k T t h,
)

-- what is read is a tree, and its record is what was read
pub record_accepted : (n k : ℕ) (bytes : List ℕ) (T : Tree) → read_tree n k bytes ≡ accepted T
    → (is_tree n k T ≡ true) × (record_of n T ≡ bytes)
unfolding read_tree
record_accepted n k bytes T e = go (is_record n k bytes) refl e
  where
    go : (b : Bool) → is_record n k bytes ≡ b → ask b 9 (accepted (decoded n bytes)) ≡ accepted T
        → (is_tree n k T ≡ true) × (record_of n T ≡ bytes)
    go true h e = let z : decoded n bytes ≡ T = cc in rw z at (is_record_out n k bytes h)
    go false h e = let z : ◌≡◌ {A = ℕ} 0 1 = cc in absurd (omega arith)

-- the record of a tree is read as that tree
pub tree_accepted : (n k : ℕ) (T : Tree) → is_tree n k T ≡ true → k < 16 → read_tree n k (record_of n T) ≡ accepted T
unfolding read_tree
tree_accepted n k T t h = rw (is_record_in n k T t h, decoded_record n k T t h)

-- trees with one record are the same tree
pub record_injective : (n k : ℕ) (T U : Tree) → NestedTree n k T → NestedTree n k U → k < 16
    → record_of n T ≡ record_of n U → T ≡ U
record_injective n k T U t u h e = sym (decoded_nested n k T t h) ∙ ap (decoded n) e ∙ decoded_nested n k U u h
