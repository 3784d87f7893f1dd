-- The conditions on trees as statements: what the tests `nodes_fit` and `is_tree` say, and that they say it; and what of it the laws of
-- records need.
use mathlib.Core.Path.{◌≡◌, refl}
use mathlib.Core.Bool.{true, false, not, ◌&&◌}
use Prim.Native.Nat.{ℕ, ◌≤◌, ◌<◌, ◌^◌}
use borrow.Author.Tests.{eqb-false, ne_eqb, leb-true, le-leb, ltb-true, lt-ltb}
use lib.Bits.{or_zero_r}
use lib.Dec.{eqb, leb, ltb}
use lib.Pow.{pow_pos}
use Rattle.base.specs.BitSet.{member, Subset, ProperSubset}
use Rattle.base.proofs.Logic.{clash, and_both, and_in, not_out, not_in}
use Rattle.history.specs.Forest.{nil, node}
use Rattle.history.specs.Tree.{Node, Tree, labels, disjoint, strictly_inside, nodes_fit, is_tree}
use Rattle.history.proofs.Tree.SetFacts.{disjoint_out, disjoint_in, inside_out, inside_in}

-- NODES

-- what is asked of one node, of its children and of its younger siblings
pub record NodeFits (k : ℕ) (x : Node) (below younger : Tree) : Type 0 where
  -- "Every label is non-empty"
  pub nonempty : x.label ≡ 0 → ⊥
  -- "an active set (1 to k)"
  pub from_one : 1 ≤ x.active
  pub up_to : x.active ≤ k
  -- "siblings' labels are disjoint"
  pub apart : (q : ℕ) → member x.label q ≡ true → member (labels younger) q ≡ false
  -- "the union of the children's labels is strictly inside the parent's label"
  pub inside : ProperSubset (labels below) x.label

-- what is asked of siblings and of all below them
abbrev pub Fits : ℕ → Tree → Type 0
Fits k nil = Unit {0}
Fits k (node x below younger) = NodeFits k x below younger × Fits k below × Fits k younger

-- from the test to the statement
pub fits_out : (k : ℕ) (T : Tree) → nodes_fit k T ≡ true → Fits k T
unfolding nodes_fit
fits_out k nil h = tt
fits_out k (node x below younger) h =
    let (own, rest) = and_in (not (eqb x.label 0) && (leb 1 x.active && leb x.active k)) _ h in
    let (full, set) = and_in (not (eqb x.label 0)) _ own in
    let (low, high) = and_in (leb 1 x.active) (leb x.active k) set in
    let (sets, more) = and_in (disjoint x.label (labels younger) && strictly_inside (labels below) x.label) _ rest in
    let (apart, inside) = and_in (disjoint x.label (labels younger)) _ sets in
    let (down, on) = and_in (nodes_fit k below) (nodes_fit k younger) more in (
      record {
        nonempty = eqb-false x.label 0 (not_in _ full);
        from_one = leb-true 1 x.active low;
        up_to = leb-true x.active k high;
        apart = disjoint_out x.label (labels younger) apart;
        inside = inside_out (labels below) x.label inside;
      },
      fits_out k below down,
      fits_out k younger on,
    )

-- and back
pub fits_in : (k : ℕ) (T : Tree) → Fits k T → nodes_fit k T ≡ true
unfolding nodes_fit
fits_in k nil h = refl
fits_in k (node x below younger) (own, down, on) =
    and_both (not (eqb x.label 0) && (leb 1 x.active && leb x.active k)) _
    (and_both (not (eqb x.label 0)) _ (not_out _ (ne_eqb x.label 0 own.nonempty))
    (and_both (leb 1 x.active) _ (le-leb 1 x.active own.from_one) (le-leb x.active k own.up_to)))
    (and_both (disjoint x.label (labels younger) && strictly_inside (labels below) x.label) _
    (and_both (disjoint x.label (labels younger)) _
    (disjoint_in x.label (labels younger) own.apart) (inside_in (labels below) x.label own.inside))
    (and_both (nodes_fit k below) _ (fits_in k below down) (fits_in k younger on)))

-- LABELS AND ACTIVE SETS APART

-- siblings' labels are disjoint, and those of a node's children are inside its own, strictly or not
pub record NodeNested (x : Node) (below younger : Tree) : Type 0 where
  pub apart : (q : ℕ) → member x.label q ≡ true → member (labels younger) q ≡ false
  pub within : Subset (labels below) x.label

abbrev pub Nested : Tree → Type 0
Nested nil = Unit {0}
Nested (node x below younger) = NodeNested x below younger × Nested below × Nested younger

-- each active set is from 1 to k
abbrev pub Active : ℕ → Tree → Type 0
Active k nil = Unit {0}
Active k (node x below younger) = (1 ≤ x.active) × (x.active ≤ k) × Active k below × Active k younger

-- nodes that fit are so
pub fits_nested : (k : ℕ) (F : Tree) → Fits k F → Nested F
fits_nested k nil w = tt
fits_nested k (node x below younger) (f, down, on) =
    (record { apart = f.apart; within = f.inside.0 }, fits_nested k below down, fits_nested k younger on)

pub fits_active : (k : ℕ) (F : Tree) → Fits k F → Active k F
fits_active k nil w = tt
fits_active k (node x below younger) (f, down, on) = (f.from_one, f.up_to, fits_active k below down, fits_active k younger on)

-- TREES

-- a forest of one root or of none
abbrev pub OneRoot : Tree → Type 0
OneRoot nil = Unit {0}
OneRoot (node x below nil) = Unit {0}
OneRoot (node x below (node y other younger)) = ⊥

-- a tree over n states and k sets
pub record IsTree (n k : ℕ) (T : Tree) : Type 0 where
  pub one_root : OneRoot T
  pub states : labels T < 2 ^ n
  pub fits : Fits k T

-- from the test to the statement
pub tree_out : (n k : ℕ) (T : Tree) → is_tree n k T ≡ true → IsTree n k T
unfolding is_tree labels
tree_out n k nil h = record { one_root = tt; states = pow_pos n; fits = tt }
tree_out n k (node x below nil) h =
    let (small, fit) = and_in (ltb x.label (2 ^ n)) _ h in
    record { one_root = tt; states = rw or_zero_r (ltb-true x.label (2 ^ n) small); fits = fits_out k (node x below nil) fit }
tree_out n k (node x below (node y other younger)) h = clash refl h

-- and back
pub tree_in : (n k : ℕ) (T : Tree) → IsTree n k T → is_tree n k T ≡ true
unfolding is_tree labels
tree_in n k nil t = refl
tree_in n k (node x below nil) t =
    and_both (ltb x.label (2 ^ n)) _ (lt-ltb x.label (2 ^ n) (rw or_zero_r at t.states)) (fits_in k (node x below nil) t.fits)
tree_in n k (node x below (node y other younger)) t = absurd t.one_root

-- what the laws of records ask of a tree: its labels are nested, strictly or not
pub record NestedTree (n k : ℕ) (T : Tree) : Type 0 where
  pub one_root : OneRoot T
  pub states : labels T < 2 ^ n
  pub active : Active k T
  pub nested : Nested T

pub tree_nested : (n k : ℕ) (T : Tree) → IsTree n k T → NestedTree n k T
tree_nested n k T t =
    record { one_root = t.one_root; states = t.states; active = fits_active k T t.fits; nested = fits_nested k T t.fits }
