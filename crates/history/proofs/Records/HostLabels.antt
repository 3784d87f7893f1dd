-- Labels and the numbers of hosts: a node's label is the set of the states whose hosts' numbers lie from the node's own number
-- up to the number behind the last node below it. From this the labels of a tree are found from its hosts, and, the other way,
-- nodes with labels that are found so form a tree in which each number is that of the state's host.
use mathlib.Core.Path.{◌≡◌, refl, sym, ◌∙◌, ap}
use mathlib.Core.Logic.{◌⊎◌, inl, inr, ⊎_elim}
use mathlib.Core.Bool.{true, false}
use Prim.Native.Nat.{ℕ, suc, ◌+◌, ◌≤◌, ◌<◌}
use native.Mathlib.Omega.{arith}
use native.Mathlib.Decide.{dec_lt, dec_le}
use Rattle.base.specs.BitSet.{member, Subset}
use Rattle.base.proofs.Logic.{look, clash, never, bool_ext, or_in}
use Rattle.base.proofs.BitSet.{member_none, member_union, set_ext}
use Rattle.history.specs.Forest.{nil, node, size}
use Rattle.history.specs.Tree.{Node, Tree, labels}
use Rattle.history.specs.Record.{host_from}
use Rattle.history.proofs.Tree.Conditions.{Fits, NodeNested, Nested, Active}
use Rattle.history.proofs.Tree.Hosts.{host_below, host_here, host_younger, held_here, held_younger, held_in, host_from_lem, host_inside}

-- LABELS BY NUMBER

-- the same nodes, each with the label of its numbers: its own, and the number behind the last node below it
unfoldable pub relabelled : (ℕ → ℕ → ℕ) → ℕ → Tree → Tree
relabelled label i nil = nil
relabelled label i (node x below younger) =
    node (record { label = label i (suc (i + size below)); active = x.active }) (relabelled label (suc i) below)
    (relabelled label (suc (i + size below)) younger)

pub size_relabelled : (label : ℕ → ℕ → ℕ) (i : ℕ) (F : Tree) → size (relabelled label i F) ≡ size F
unfolding relabelled size
size_relabelled label i nil = refl
size_relabelled label i (node x below younger) =
    omega (arith, size_relabelled label (suc i) below, size_relabelled label (suc (i + size below)) younger)

-- `label lo hi` is the set of the states of s whose number is from lo up and below hi
pub record ByNumber (s : ℕ) (number : ℕ → ℕ) (label : ℕ → ℕ → ℕ) : Type 0 where
  pub among : (lo hi q : ℕ) → member (label lo hi) q ≡ true → (member s q ≡ true) × (lo ≤ number q) × (number q < hi)
  pub all_of : (lo hi q : ℕ) → member s q ≡ true → lo ≤ number q → number q < hi → member (label lo hi) q ≡ true

-- LABELS FROM HOSTS

-- of the states in s, a forest that is numbered from i on holds those whose numbers are its nodes', and their hosts have these
-- numbers
record Numbered (s : ℕ) (number : ℕ → ℕ) (i : ℕ) (F : Tree) : Type 0 where
  some_of : Subset (labels F) s
  hosts : (q : ℕ) → member (labels F) q ≡ true → number q ≡ host_from i F q
  holds : (q : ℕ) → member s q ≡ true → i ≤ number q → number q < i + size F → member (labels F) q ≡ true

-- the states of a node's label are those with the numbers of the node and of what is below it

module _ (s : ℕ) (number : ℕ → ℕ) (i : ℕ) (x : Node) (below younger : Tree) (f : NodeNested x below younger)
    (v : Numbered s number i (node x below younger)) (q : ℕ) where
  number_here : member x.label q ≡ true → (i ≤ number q) × (number q < suc (i + size below))
  number_here h = let e = v.hosts q (held_here x below younger q h) in
      (omega (arith, e, host_from_lem i (node x below younger) q), omega (arith, e, host_inside i x below younger q h))

  held_by_number : member s q ≡ true → i ≤ number q → number q < suc (i + size below) → member x.label q ≡ true
  unfolding size
  held_by_number m l h = ⊎_elim (λ e. e) (λ e. absurd (omega (
    arith,
    v.hosts q (v.holds q m l (omega arith)),
    host_younger i x below younger q e,
    host_from_lem (suc (i + size below)) younger q,
  ))) (look (member x.label q))

label_by_hosts : (s : ℕ) (number : ℕ → ℕ) (label : ℕ → ℕ → ℕ) → ByNumber s number label
    → (i : ℕ) (F : Tree) → Nested F → Numbered s number i F → relabelled label i F ≡ F
unfolding relabelled size
label_by_hosts s number label law i nil w v = refl
label_by_hosts s number label law i (node x below younger) (f, down, on) v =
    let here : label i (suc (i + size below)) ≡ x.label = set_ext _ _ (λ q. bool_ext _ _ (into q) (back q)) in
    rw (
      here,
      label_by_hosts s number label law (suc i) below down below_numbered,
      label_by_hosts s number label law (suc (i + size below)) younger on younger_numbered,
    )
  where
    into : (q : ℕ) → member (label i (suc (i + size below))) q ≡ true → member x.label q ≡ true
    into q m = let (of_s, l, h) = law.among i (suc (i + size below)) q m in
        held_by_number s number i x below younger f v q of_s l (omega arith)

    back : (q : ℕ) → member x.label q ≡ true → member (label i (suc (i + size below))) q ≡ true
    back q m = let (l, h) = number_here s number i x below younger f v q m in
        law.all_of i (suc (i + size below)) q (v.some_of q (held_here x below younger q m)) l (omega arith)

    below_numbered : Numbered s number (suc i) below
    below_numbered = record {
      some_of = λ q b. v.some_of q (held_here x below younger q (f.within q b));
      hosts = λ q b. let h = f.within q b in v.hosts q (held_here x below younger q h) ∙ host_below i x below younger q h b;
      holds = λ q m l h. let e = held_by_number s number i x below younger f v q m (omega arith) (omega arith) in
          ⊎_elim (λ b. b) (λ b. absurd (omega (arith, v.hosts q (held_here x below younger q e), host_here i x below younger q e b)))
          (look (member (labels below) q));
    }

    younger_numbered : Numbered s number (suc (i + size below)) younger
    younger_numbered = record {
      some_of = λ q y. v.some_of q (held_younger x below younger q y);
      hosts = λ q y. let e : member x.label q ≡ false = never _ (λ m. clash (f.apart q m) y) in
          v.hosts q (held_younger x below younger q y) ∙ host_younger i x below younger q e;
      holds = λ q m l h. ⊎_elim (λ e. absurd (omega (arith, (number_here s number i x below younger f v q e).1))) (λ y. y)
          (held_in x below younger q (v.holds q m (omega arith) (omega arith)));
    }

-- the label of each node is the set of the states whose hosts' numbers lie from the node's number up to that behind the last node
-- below it
pub labels_from_hosts : (i : ℕ) (F : Tree) (label : ℕ → ℕ → ℕ) → Nested F → ByNumber (labels F) (host_from i F) label
    → relabelled label i F ≡ F
labels_from_hosts i F label w law = label_by_hosts (labels F) (host_from i F) label law i F w
    (record { some_of = λ q h. h; hosts = λ q h. refl; holds = λ q h from to. h })

-- A TREE FROM NUMBERS

module _ (s : ℕ) (number : ℕ → ℕ) (label : ℕ → ℕ → ℕ) (law : ByNumber s number label) where
  -- siblings with the labels of their numbers hold the states with their numbers
  relabelled_out : (i : ℕ) (F : Tree) (q : ℕ) → member (labels (relabelled label i F)) q ≡ true
      → (member s q ≡ true) × (i ≤ number q) × (number q < i + size F)
  unfolding relabelled size labels
  relabelled_out i nil q m = clash (member_none q) m
  relabelled_out i (node x below younger) q m = let end : ℕ = suc (i + size below) in ⊎_elim
      (λ h. let (has, from, to) = law.among i end q h in (has, from, omega arith))
      (λ h. let (has, from, to) = relabelled_out end younger q h in (has, omega arith, omega arith))
      (or_in (member (label i end) q) _ (sym (member_union (label i end) (labels (relabelled label end younger)) q) ∙ m))

  relabelled_in : (i : ℕ) (F : Tree) (q : ℕ) → member s q ≡ true → i ≤ number q → number q < i + size F
      → member (labels (relabelled label i F)) q ≡ true
  unfolding relabelled size
  relabelled_in i nil q m l h = absurd (omega arith)
  relabelled_in i (node x below younger) q m l h =
      go (dec_lt (number q) (suc (i + size below))) (relabelled_in (suc (i + size below)) younger q m)
    where
      y : Node
      y = record { label = label i (suc (i + size below)); active = x.active }

      go : Dec (number q < suc (i + size below))
          → (suc (i + size below) ≤ number q → number q < suc (i + size below) + size younger
          → member (labels (relabelled label (suc (i + size below)) younger)) q ≡ true)
          → member (labels (node y (relabelled label (suc i) below) (relabelled label (suc (i + size below)) younger))) q ≡ true
      go (yes d) ih = held_here y _ _ q (law.all_of i (suc (i + size below)) q m l d)
      go (no d) ih = held_younger y _ _ q (ih (omega arith) (omega arith))

  -- these are the states with the numbers from the first to behind the last
  pub labels_relabelled : (i : ℕ) (F : Tree) → labels (relabelled label i F) ≡ label i (i + size F)
  labels_relabelled i F = set_ext _ _ (λ q. bool_ext _ _
      (λ m. let (has, from, to) = relabelled_out i F q m in law.all_of i (i + size F) q has from to)
      (λ m. let (has, from, to) = law.among i (i + size F) q m in relabelled_in i F q has from to))

  -- the number of each state is that of its host
  pub relabelled_host : (i : ℕ) (F : Tree) (q : ℕ) → member s q ≡ true → i ≤ number q → number q < i + size F
      → host_from i (relabelled label i F) q ≡ number q
  unfolding relabelled size
  relabelled_host i nil q m l h = absurd (omega arith)
  relabelled_host i (node x below younger) q m l h =
      go (look (member y.label q)) (look (member (labels B) q)) (relabelled_host (suc i) below q m) (relabelled_host end younger q m)
    where
      end : ℕ
      end = suc (i + size below)

      y : Node
      y = record { label = label i end; active = x.active }

      B : Tree
      B = relabelled label (suc i) below

      Y : Tree
      Y = relabelled label end younger

      go : (member y.label q ≡ true) ⊎ (member y.label q ≡ false) → (member (labels B) q ≡ true) ⊎ (member (labels B) q ≡ false)
          → (suc i ≤ number q → number q < suc i + size below → host_from (suc i) B q ≡ number q)
          → (end ≤ number q → number q < end + size younger → host_from end Y q ≡ number q) → host_from i (node y B Y) q ≡ number q
      go (inl e) (inl b) ib iy = let (has, from, to) = relabelled_out (suc i) below q b in host_below i y B Y q e b ∙ ib from to
      go (inl e) (inr b) ib iy = let (has, from, to) = law.among i end q e in host_here i y B Y q e b ∙ here (dec_le (suc i) (number q)) to
        where
          here : Dec (suc i ≤ number q) → number q < end → i ≡ number q
          here (yes d) to = clash b (relabelled_in (suc i) below q m d (omega arith))
          here (no d) to = omega arith
      go (inr e) b ib iy = behind (dec_lt (number q) end)
        where
          behind : Dec (number q < end) → host_from i (node y B Y) q ≡ number q
          behind (yes d) = clash e (law.all_of i end q m l d)
          behind (no d) = host_younger i y B Y q e ∙ ap (λ (c : ℕ). host_from (suc (i + c)) Y q) (size_relabelled label (suc i) below)
              ∙ iy (omega arith) (omega arith)

  -- if each node's number is some state's, they fit
  pub relabelled_fits : (k i : ℕ) (F : Tree) → Active k F
      → ((j : ℕ) → i ≤ j → j < i + size F → (q : ℕ) × (member s q ≡ true) × (number q ≡ j)) → Fits k (relabelled label i F)
  unfolding relabelled size
  relabelled_fits k i nil w each = tt
  relabelled_fits k i (node x below younger) (low, high, down, on) each = (
    record { nonempty = nonempty; from_one = low; up_to = high; apart = apart; inside = (inside, own) },
    relabelled_fits k (suc i) below down (λ j from to. each j (omega arith) (omega arith)),
    relabelled_fits k end younger on (λ j from to. each j (omega arith) (omega arith)),
  )
    where
      end : ℕ
      end = suc (i + size below)

      own : (q : ℕ) × (member (label i end) q ≡ true) × (member (labels (relabelled label (suc i) below)) q ≡ false)
      own = let (q, has, e) = each i (omega arith) (omega arith) in (
        q,
        law.all_of i end q has (omega arith) (omega arith),
        never _ (λ b. let (_, from, to) = relabelled_out (suc i) below q b in omega arith),
      )

      nonempty : label i end ≡ 0 → ⊥
      nonempty e = clash (member_none own.0) (rw e at own.1)

      apart : (q : ℕ) → member (label i end) q ≡ true → member (labels (relabelled label end younger)) q ≡ false
      apart q m = let (_, from, to) = law.among i end q m in
          never _ (λ y. let (_, from', to') = relabelled_out end younger q y in omega arith)

      inside : Subset (labels (relabelled label (suc i) below)) (label i end)
      inside q b = let (has, from, to) = relabelled_out (suc i) below q b in law.all_of i end q has (omega arith) (omega arith)
