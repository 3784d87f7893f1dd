-- Nodes compared one by one, and what the answer says of trees: two trees are the same just if their nodes are, but for the old
-- numbers.
use mathlib.Core.Path.{◌≡◌, refl, sym, ◌∙◌, ap, ap₂}
use mathlib.Core.Bool.{Bool, true, false, ◌&&◌}
use mathlib.Core.List.{List, [], ◌∷◌, map}
use Prim.Native.Nat.{ℕ, suc, ◌%◌, ◌^◌, ◌≤◌}
use native.Mathlib.Omega.{arith}
use borrow.Author.Tests.{eqb-true, eq-eqb}
use lib.Dec.{eqb}
use lib.ListN.{length, length-map}
use Rattle.std.specs.List.{list_all, zip}
use Rattle.base.proofs.Logic.{never, clash, and_both, and_in, bool_ext}
use Rattle.rule.specs.Limits.{max_sets}
use Rattle.rule.specs.Rule.{Rule}
use Rattle.history.specs.Tree.{Tree}
use Rattle.history.proofs.Records.QuestionNine.{record_injective}
use Rattle.history.proofs.Step.TreesOf.{of_nested}
use Rattle.tree.specs.Inner.Nodes.{without_old, HoldsTree}
use Rattle.tree.specs.Inner.PackedNodes.{unpacked, nodes_in, counted_nodes, counted_words}
use Rattle.tree.specs.declared.nodes.Node.{Node as CodeNode}
use Rattle.tree.specs.declared.nodes.Tree.{Tree as CodeTree}
use Rattle.tree.proofs.PackedWords.{low_same, same_low}
use Rattle.tree.proofs.TreeNodes.{counted_in}
use Rattle.tree.proofs.RecordOfNodes.{record_of_nodes, held_record}
use Rattle.treejudge.specs.Inner.SameNodes.{same_node, same_nodes, same_trees}

-- NODE BY NODE

-- nodes that are the same are as many
pub same_length : (nodes others : List CodeNode) → same_nodes nodes others ≡ true → length nodes ≡ length others
unfolding same_nodes
same_length [] [] h = refl
same_length [] (y ∷ others) h = clash refl h
same_length (x ∷ nodes) [] h = clash refl h
same_length (x ∷ nodes) (y ∷ others) h = ap suc (same_length nodes others (and_in (same_node x y) _ h).1)

-- so nodes that differ in number are not the same
pub lengths_differ : (a b : List ℕ) → (length a ≡ length b → ⊥) → same_nodes (nodes_in a) (nodes_in b) ≡ false
lengths_differ a b less = never _ (λ s. less (sym (length-map a unpacked) ∙ same_length (nodes_in a) (nodes_in b) s ∙ length-map b unpacked))

-- and others are just if each is the same as its neighbour
pub same_zipped : (a b : List ℕ) → length a ≡ length b
    → list_all (λ p. same_node (unpacked p.0) (unpacked p.1)) (zip a b) ≡ same_nodes (nodes_in a) (nodes_in b)
unfolding same_nodes
same_zipped [] [] e = refl
same_zipped [] (y ∷ b) e = absurd (omega arith)
same_zipped (x ∷ a) [] e = absurd (omega arith)
same_zipped (x ∷ a) (y ∷ b) e = ap (λ (r : Bool). same_node (unpacked x) (unpacked y) && r) (same_zipped a b (omega arith))

-- the words of the nodes that count tell
pub compared : (x y : CodeTree) {a b : List ℕ} {answer : Bool} → a ≡ counted_words x → b ≡ counted_words y
    → answer ≡ same_nodes (nodes_in a) (nodes_in b) → {known : Bool} → answer ≡ known → same_trees x y ≡ known
compared x y e f is known =
    rw (← counted_in x, ← counted_in y, ← e, ← f) (sym is ∙ known)

-- TREES

-- a yes: the nodes are equal without their old numbers, and the other way round
same_node_out : (x y : CodeNode) → same_node x y ≡ true → without_old x ≡ without_old y
unfolding same_node
same_node_out x y h =
    let (label, more) = and_in (eqb x.label y.label) _ h in
    let (kids, rest) = and_in (eqb x.kids y.kids) _ more in
    let (depth, active) = and_in (eqb x.depth y.depth) _ rest in
    cc (
      eqb-true x.label y.label label,
      eqb-true x.kids y.kids kids,
      eqb-true x.depth y.depth depth,
      eqb-true x.active y.active active,
    )

same_node_in : (x y : CodeNode) → without_old x ≡ without_old y → same_node x y ≡ true
unfolding same_node
same_node_in x y e =
    and_both (eqb x.label y.label) _ (eq-eqb x.label y.label (ap (λ (r : CodeNode). r.label) e))
    (and_both (eqb x.kids y.kids) _ (eq-eqb x.kids y.kids (ap (λ (r : CodeNode). r.kids) e))
    (and_both (eqb x.depth y.depth) _ (eq-eqb x.depth y.depth (ap (λ (r : CodeNode). r.depth) e))
    (eq-eqb x.active y.active (ap (λ (r : CodeNode). r.active) e))))

-- the words tell
pub same_words : (a b : ℕ) → eqb (a % 2 ^ 56) (b % 2 ^ 56) ≡ same_node (unpacked a) (unpacked b)
same_words a b = bool_ext _ _ (λ h. same_node_in (unpacked a) (unpacked b) (low_same a b (eqb-true _ _ h)))
    (λ h. eq-eqb _ _ (same_low a b (same_node_out (unpacked a) (unpacked b) h)))

same_nodes_out : (nodes others : List CodeNode) → same_nodes nodes others ≡ true → map without_old nodes ≡ map without_old others
unfolding same_nodes
same_nodes_out [] [] h = refl
same_nodes_out [] (y ∷ others) h = clash refl h
same_nodes_out (x ∷ nodes) [] h = clash refl h
same_nodes_out (x ∷ nodes) (y ∷ others) h = let (one, rest) = and_in (same_node x y) _ h in
    ap₂ (λ (r : CodeNode) (l : List CodeNode). r ∷ l) (same_node_out x y one) (same_nodes_out nodes others rest)

same_nodes_in : (nodes others : List CodeNode) → map without_old nodes ≡ map without_old others → same_nodes nodes others ≡ true
unfolding same_nodes
same_nodes_in [] [] e = refl
same_nodes_in [] (y ∷ others) e = let z : ◌≡◌ {A = ℕ} 0 1 = cc in absurd (omega arith)
same_nodes_in (x ∷ nodes) [] e = let z : ◌≡◌ {A = ℕ} 0 1 = cc in absurd (omega arith)
same_nodes_in (x ∷ nodes) (y ∷ others) e = and_both (same_node x y) _ (same_node_in x y (cc)) (same_nodes_in nodes others (cc))

-- trees with the same nodes have one record, so they are the same tree
pub same_nodes_same : (R : Rule) (T U : Tree) (x y : CodeTree) → R.sets ≤ max_sets → HoldsTree R T x → HoldsTree R U y
    → same_trees x y ≡ true → T ≡ U
same_nodes_same R T U x y sets held other e =
    let u = of_nested R U other.fits in
    record_injective R.states R.sets T U (of_nested R T held.fits) u (omega arith) (sym (held_record held)
    ∙ record_of_nodes R.states R.sets U u (counted_nodes x) (same_nodes_out (counted_nodes x) (counted_nodes y) e ∙ other.are))

-- one tree has the same nodes wherever it is held
pub same_trees_same : (R : Rule) (T : Tree) (x y : CodeTree) → HoldsTree R T x → HoldsTree R T y
    → same_trees x y ≡ true
same_trees_same R T x y held other = same_nodes_in (counted_nodes x) (counted_nodes y) (held.are ∙ sym other.are)
