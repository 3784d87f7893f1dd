-- Hosts: which numbers the hosts of a forest's states have, that each node of a forest that fits is the host of some state, and
-- that such a forest therefore has at most as many nodes as states.
use mathlib.Core.Path.{◌≡◌, sym, ◌∙◌}
use mathlib.Core.Logic.{◌⊎◌, ⊎_elim}
use mathlib.Core.Bool.{true, false}
use Prim.Native.Nat.{ℕ, suc, ◌+◌, ◌≤◌, ◌<◌}
use native.Mathlib.Omega.{arith}
use native.Mathlib.Decide.{dec_lt, ℕ_discrete}
use lib.Count.{ones}
use Rattle.base.specs.BitSet.{member}
use Rattle.base.proofs.Logic.{look, clash, never, or_l, or_r, or_in}
use Rattle.base.proofs.BitSet.{member_none, member_union, size_proper}
use Rattle.history.specs.Forest.{nil, node, size}
use Rattle.history.specs.Tree.{Node, Tree, labels}
use Rattle.history.specs.Record.{host_from}
use Rattle.history.proofs.Tree.SetFacts.{size_disjoint}
use Rattle.history.proofs.Tree.Conditions.{Fits}

-- the states of siblings: those of the oldest, and those of the others
module _ (x : Node) (below younger : Tree) (q : ℕ) where
  pub held_here : member x.label q ≡ true → member (labels (node x below younger)) q ≡ true
  unfolding labels
  held_here h = member_union x.label (labels younger) q ∙ or_l (member x.label q) _ h

  pub held_younger : member (labels younger) q ≡ true → member (labels (node x below younger)) q ≡ true
  unfolding labels
  held_younger h = member_union x.label (labels younger) q ∙ or_r (member x.label q) _ h

  pub held_in : member (labels (node x below younger)) q ≡ true → (member x.label q ≡ true) ⊎ (member (labels younger) q ≡ true)
  unfolding labels
  held_in h = or_in (member x.label q) _ (sym (member_union x.label (labels younger) q) ∙ h)

-- THE NUMBER OF A HOST

-- the host of a state, by where the state is held
module _ (i : ℕ) (x : Node) (below younger : Tree) (q : ℕ) where
  pub host_below : member x.label q ≡ true → member (labels below) q ≡ true
      → host_from i (node x below younger) q ≡ host_from (suc i) below q
  unfolding host_from
  host_below h b = rw (h, b)

  pub host_here : member x.label q ≡ true → member (labels below) q ≡ false → host_from i (node x below younger) q ≡ i
  unfolding host_from
  host_here h b = rw (h, b)

  pub host_younger : member x.label q ≡ false
      → host_from i (node x below younger) q ≡ host_from (suc (i + size below)) younger q
  unfolding host_from
  host_younger h = rw h

-- the nodes of a forest that is numbered from i on have the numbers from i up, as many as there are nodes; so have the hosts
pub host_from_lem : (i : ℕ) (F : Tree) (q : ℕ) → i ≤ host_from i F q
unfolding host_from
host_from_lem i nil q = omega arith
host_from_lem i (node x below younger) q = ⊎_elim
    (λ h. ⊎_elim (λ b. omega (arith, host_below i x below younger q h b, host_from_lem (suc i) below q))
    (λ b. omega (arith, host_here i x below younger q h b)) (look (member (labels below) q)))
    (λ h. omega (arith, host_younger i x below younger q h, host_from_lem (suc (i + size below)) younger q)) (look (member x.label q))

pub host_to : (i : ℕ) (F : Tree) (q : ℕ) → member (labels F) q ≡ true → host_from i F q < i + size F
unfolding size labels
host_to i nil q m = clash (member_none q) m
host_to i (node x below younger) q m = ⊎_elim
    (λ h. ⊎_elim (λ b. omega (arith, host_below i x below younger q h b, host_to (suc i) below q b))
    (λ b. omega (arith, host_here i x below younger q h b)) (look (member (labels below) q)))
    (λ h. omega (arith, host_younger i x below younger q h, host_to (suc (i + size below)) younger q (young h)))
    (look (member x.label q))
  where
    young : member x.label q ≡ false → member (labels younger) q ≡ true
    young h = ⊎_elim (λ e. clash h e) (λ e. e) (held_in x below younger q m)

-- the host of a state in a node's label is the node, or below it
pub host_inside : (i : ℕ) (x : Node) (below younger : Tree) (q : ℕ) → member x.label q ≡ true
    → host_from i (node x below younger) q < suc (i + size below)
host_inside i x below younger q h = ⊎_elim (λ b. omega (arith, host_below i x below younger q h b, host_to (suc i) below q b))
    (λ b. omega (arith, host_here i x below younger q h b)) (look (member (labels below) q))

-- EACH NODE HOSTS A STATE

-- "Each node hosts at least one state": for each number of a node there is a state whose host has it
pub each_hosts : (k i : ℕ) (F : Tree) → Fits k F → (j : ℕ) → i ≤ j → j < i + size F
    → (q : ℕ) × (member (labels F) q ≡ true) × (host_from i F q ≡ j)
unfolding size
each_hosts k i nil w j l h = absurd (omega arith)
each_hosts k i (node x below younger) (f, down, on) j l h =
    go (ℕ_discrete j i) (dec_lt j (suc (i + size below))) (each_hosts k (suc i) below down j)
    (each_hosts k (suc (i + size below)) younger on j)
  where
    go : Dec (j ≡ i) → Dec (j < suc (i + size below))
        → (suc i ≤ j → j < suc i + size below → (q : ℕ) × (member (labels below) q ≡ true) × (host_from (suc i) below q ≡ j))
        → (suc (i + size below) ≤ j → j < suc (i + size below) + size younger
        → (q : ℕ) × (member (labels younger) q ≡ true) × (host_from (suc (i + size below)) younger q ≡ j))
        → (q : ℕ) × (member (labels (node x below younger)) q ≡ true) × (host_from i (node x below younger) q ≡ j)
    go (yes e) d ic iy = let (q, in_x, out_b) = f.inside.1 in
        (q, held_here x below younger q in_x, host_here i x below younger q in_x out_b ∙ sym e)
    go (no e) (yes d) ic iy = let (q, b, z) = ic (omega arith) (omega arith) in let in_x = f.inside.0 q b in
        (q, held_here x below younger q in_x, host_below i x below younger q in_x b ∙ z)
    go (no e) (no d) ic iy = let (q, y, z) = iy (omega arith) (omega arith) in
        let out_x : member x.label q ≡ false = never (member x.label q) (λ m. clash (f.apart q m) y) in
        (q, held_younger x below younger q y, host_younger i x below younger q out_x ∙ z)

-- THERE ARE NO MORE NODES THAN STATES

-- each node has a state that no node below it has
pub size_labels : (k : ℕ) (F : Tree) → Fits k F → size F ≤ ones (labels F)
unfolding size labels
size_labels k nil w = omega arith
size_labels k (node x below younger) (f, down, on) = omega (
  arith,
  size_labels k below down,
  size_labels k younger on,
  size_proper (labels below) x.label f.inside,
  size_disjoint x.label (labels younger) f.apart,
)
