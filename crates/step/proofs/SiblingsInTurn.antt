-- The siblings of a letter in the order in which the pass reaches them, each with the union of its older siblings' labels: the nodes after
-- steps 1 and 2, by number.
use mathlib.Core.Path.{◌≡◌, refl, sym, ◌∙◌, ap}
use mathlib.Core.Bool.{Bool, true, false}
use mathlib.Core.List.{List, [], ◌∷◌, ◌++◌, map, map-append, append-nil, append_assoc, nil≢cons}
use Prim.Native.Nat.{ℕ, zero, suc, ◌-◌, ◌≤◌, ◌<◌}
use native.Mathlib.Decide.{ℕ_discrete}
use native.Mathlib.Omega.{arith}
use lib.Bits.{bit_or}
use lib.ListN.{length, get_or, take, length-append, length-map, get_or-map}
use Rattle.rule.specs.Rule.{Rule, successors}
use Rattle.history.specs.Forest.{Forest, nil, node, size, change, listing, Named, named_from, named, names}
use Rattle.history.specs.Tree.{Node, Tree}
use Rattle.history.specs.Letter.{was, sprouted, Grown, begun, succeeded, youngest, child, sprouting, separated, two_steps, three_steps}
use Rattle.history.specs.OlderSiblings.{older_labels_from, older_labels}
use Rattle.history.proofs.Step.LocalStep.{new_label}
use Rattle.history.proofs.Step.StepsJoined.{older_same, old_node, begun_from, no_sprout}
use Rattle.history.proofs.Names.NamesDistinct.{length_listing}
use Rattle.tree.specs.Inner.Nodes.{nodes_from, nodes_of, blank_node}
use Rattle.tree.specs.declared.nodes.Node.{Node as CodeNode}
use Rattle.step.specs.RunningSet.{was_there, old_ones, ReachedSibling}
use Rattle.step.proofs.PassNode.{node_at}

-- a sibling as the pass reaches it, with the union of its older siblings' labels: an old node, or one that is sprouted at a depth
pub data Sibling : Type 0 where
  old : CodeNode → ℕ → Sibling
  new : ℕ → ℕ → Sibling

unfoldable pub depth_of : Sibling → ℕ
depth_of (old x set) = x.depth
depth_of (new d set) = d

unfoldable pub set_of : Sibling → ℕ
set_of (old x set) = set
set_of (new d set) = set

unfoldable pub is_old_sibling : Sibling → Bool
is_old_sibling (old x set) = true
is_old_sibling (new d set) = false

-- the old nodes among them
unfoldable pub old_nodes : List Sibling → List CodeNode
old_nodes [] = []
old_nodes (old x set ∷ siblings) = x ∷ old_nodes siblings
old_nodes (new d set ∷ siblings) = old_nodes siblings

old_append : (l r : List Sibling) → old_nodes (l ++ r) ≡ old_nodes l ++ old_nodes r
unfolding old_nodes
old_append [] r = refl
old_append (old x set ∷ l) r = ap (λ (nodes : List CodeNode). x ∷ nodes) (old_append l r)
old_append (new d set ∷ l) r = old_append l r

-- the old nodes of the first ones are the first old nodes
old_first : (n : ℕ) (l : List Sibling) → old_nodes (take n l) ≡ take (length (old_nodes (take n l))) (old_nodes l)
unfolding old_nodes
old_first zero [] = refl
old_first zero (x ∷ l) = refl
old_first (suc n) [] = refl
old_first (suc n) (old x set ∷ l) = ap (λ (nodes : List CodeNode). x ∷ nodes) (old_first n l)
old_first (suc n) (new d set ∷ l) = old_first n l

-- one of them has depth d and is behind i old nodes
abbrev Behind : List Sibling → ℕ → ℕ → Type 0
Behind l i d = (n : ℕ) × (n < length l) × (length (old_nodes (take n l)) ≡ i) × (depth_of (get_or l n (new 0 0)) ≡ d)

-- each old node is, at its depth
old_behind : (l : List Sibling) (i : ℕ) → i < length (old_nodes l) → Behind l i (get_or (old_nodes l) i blank_node).depth
unfolding old_nodes depth_of
old_behind [] i h = absurd (omega arith)
old_behind (old x set ∷ l) zero h = (0, omega arith, refl, refl)
old_behind (old x set ∷ l) (suc i) h = let (n, less, many, deep) = old_behind l i (omega arith) in (suc n, omega arith, ap suc many, deep)
old_behind (new d set ∷ l) i h = let (n, less, many, deep) = old_behind l i h in (suc n, omega arith, many, deep)

-- the depth of each is known from the one before it, where the first has depth c: a node's children come behind it, the child that it
-- sprouts behind these, and then its younger siblings
abbrev InTurn : ℕ → List Sibling → Type 0
InTurn c [] = c ≡ 0
InTurn c (old x set ∷ siblings) = (x.depth ≡ c) × InTurn (suc c) siblings
InTurn c (new d set ∷ siblings) = (d ≡ c) × (0 < c) × InTurn (c - 1) siblings

-- so behind an old node there is one at each depth that is at most that of its children and more than that of the next old node
new_behind : (c : ℕ) (l : List Sibling) → InTurn c l → (i d : ℕ) → 0 < d → i ≤ length (old_nodes l)
    → (i ≡ 0 → d ≤ c) → ((j : ℕ) → i ≡ suc j → d ≤ suc (get_or (old_nodes l) j blank_node).depth)
    → (i < length (old_nodes l) → (get_or (old_nodes l) i blank_node).depth < d) → Behind l i d
unfolding old_nodes depth_of
new_behind c [] end i d low within first last next = absurd (omega (arith, first (omega arith)))
new_behind c (old x set ∷ l) (here, on) zero d low within first last next = absurd (omega (arith, first refl, next (omega arith)))
new_behind c (old x set ∷ l) (here, on) (suc i) d low within first last next =
    let (n, less, many, deep) = new_behind (suc c) l on i d low (omega arith) (λ e. omega (arith, last 0 (ap suc e)))
    (λ j e. last (suc j) (ap suc e)) (λ h. next (omega arith)) in
    (suc n, omega arith, ap suc many, deep)
new_behind c (new e set ∷ l) (here, some, on) zero d low within first last next =
    go (ℕ_discrete d c) (λ other. new_behind (c - 1) l on 0 d low (omega arith) (λ h. omega (arith, first refl)) last next)
  where
    go : Dec (d ≡ c) → ((d ≡ c → ⊥) → Behind l 0 d) → Behind (new e set ∷ l) 0 d
    go (yes same) down = (0, omega arith, refl, here ∙ sym same)
    go (no other) down = let (n, less, many, deep) = down other in (suc n, omega arith, many, deep)
new_behind c (new e set ∷ l) (here, some, on) (suc i) d low within first last next =
    let (n, less, many, deep) = new_behind (c - 1) l on (suc i) d low within (λ h. absurd (omega arith)) last next in
    (suc n, omega arith, many, deep)

-- as many stand before one of them as were there among the nodes by number
old_many : (n : ℕ) (l : List Sibling) (nodes : List Grown) → map is_old_sibling l ≡ map (λ x. was_there x.origin) nodes
    → length (old_nodes (take n l)) ≡ old_ones (take n nodes)
unfolding old_nodes old_ones is_old_sibling
old_many zero l nodes same = refl
old_many (suc n) [] [] same = refl
old_many (suc n) [] (x ∷ nodes) same = absurd (nil≢cons same)
old_many (suc n) (sibling ∷ l) [] same = absurd (nil≢cons (sym same))
old_many (suc n) (old y set ∷ l) (x ∷ nodes) same =
    let here : true ≡ was_there x.origin = cc in
    let rest : map is_old_sibling l ≡ map (λ (z : Grown). was_there z.origin) nodes = cc in
    rw (← here) (ap suc (old_many n l nodes rest))
old_many (suc n) (new d set ∷ l) (x ∷ nodes) same =
    let here : false ≡ was_there x.origin = cc in
    let rest : map is_old_sibling l ≡ map (λ (z : Grown). was_there z.origin) nodes = cc in
    rw (← here) (old_many n l nodes rest)

-- two parts of a list
map_both : {A : Type 0} (f : Sibling → A) (l r : List Sibling) {m n : List A} → map f l ≡ m → map f r ≡ n → map f (l ++ r) ≡ m ++ n
map_both f l r left right = map-append f l r ∙ rw (left, right)

map_same : {A B : Type 0} (f : Sibling → A) (g : B → A) (l r : List Sibling) (m n : List B) → map f l ≡ map g m → map f r ≡ map g n
    → map f (l ++ r) ≡ map g (m ++ n)
map_same f g l r m n left right = map_both f l r left right ∙ sym (map-append g m n)

module _ (R : Rule) (a : ℕ) where
  -- siblings at depth d and all below them, where older siblings of theirs and of their ancestors hold `held`, and their own `set`;
  -- the child that their parent sprouts is the youngest
  unfoldable pub siblings_from : ℕ → ℕ → ℕ → Tree → List Sibling
  siblings_from d held set nil = new d set ∷ []
  siblings_from d held set (node x below younger) =
      old (node_at d x below) set
      ∷ (siblings_from (suc d) held 0 below ++ siblings_from d (bit_or held (new_label R a held x)) (bit_or set (new_label R a held x)) younger)

  -- of a tree
  unfoldable pub siblings_of : Tree → List Sibling
  siblings_of nil = []
  siblings_of (node x below younger) = old (node_at 0 x below) 0 ∷ siblings_from 1 0 0 below

  -- their old nodes
  pub old_from : (d held set : ℕ) (F : Tree) → old_nodes (siblings_from d held set F) ≡ nodes_from d F
  unfolding siblings_from old_nodes nodes_from
  old_from d held set nil = refl
  old_from d held set (node x below younger) =
      ap (λ (nodes : List CodeNode). node_at d x below ∷ nodes)
      (old_append (siblings_from (suc d) held 0 below) (siblings_from d (bit_or held (new_label R a held x)) (bit_or set (new_label R a held x)) younger)
      ∙ rw (old_from (suc d) held 0 below, old_from d (bit_or held (new_label R a held x)) (bit_or set (new_label R a held x)) younger))

  -- they come in turn
  turns_from : (d held set : ℕ) (F : Tree) (rest : List Sibling) → InTurn d rest → InTurn (suc d) (siblings_from (suc d) held set F ++ rest)
  unfolding siblings_from
  turns_from d held set nil rest on = let e : suc d - 1 ≡ d = omega arith in (refl, omega arith, rw e on)
  turns_from d held set (node x below younger) rest on =
      let younger' : List Sibling = siblings_from (suc d) (bit_or held (new_label R a held x)) (bit_or set (new_label R a held x)) younger in (
        refl,
        rw (append_assoc (siblings_from (suc (suc d)) held 0 below) younger' rest)
            (turns_from (suc d) held 0 below (younger' ++ rest) (turns_from d _ _ younger rest on)),
      )

  -- the nodes after steps 1 and 2: siblings that were numbered from c on below the node named p, with the youngest
  abbrev grown_from : List ℕ → ℕ → Tree → Grown → Forest Grown
  grown_from p c F last = youngest (sprouting R a (succeeded R a (begun_from p c F))) last

  -- the youngest below the old node named w
  abbrev youngest_of : List ℕ → Node → Grown
  youngest_of w x = child R a (record { origin = was w; before = x.label; label = successors R a x.label; active = x.active; accepting = false })

  -- they have the origins and depths of these nodes, and after step 3 the unions of their older siblings' labels
  origins_from : (d held set : ℕ) (p : List ℕ) (c : ℕ) (F : Tree) (last : Grown) → last.origin ≡ sprouted
      → map is_old_sibling (siblings_from d held set F) ≡ map (λ x. was_there x.origin) (listing (grown_from p c F last))
  unfolding siblings_from is_old_sibling was_there listing youngest sprouting succeeded begun_from old_node named_from change child
  origins_from d held set p c nil last e = rw e
  origins_from d held set p c (node x below younger) last e =
      ap (λ (l : List Bool). true ∷ l)
      (map_same is_old_sibling (λ x. was_there x.origin) (siblings_from (suc d) held 0 below)
      (siblings_from d (bit_or held (new_label R a held x)) (bit_or set (new_label R a held x)) younger)
      (listing (grown_from (p ++ (c ∷ [])) 0 below (youngest_of (p ++ (c ∷ [])) x))) (listing (grown_from p (suc c) younger last))
      (origins_from (suc d) held 0 (p ++ (c ∷ [])) 0 below (youngest_of (p ++ (c ∷ [])) x) refl)
      (origins_from d (bit_or held (new_label R a held x)) (bit_or set (new_label R a held x)) p (suc c) younger last e))

  depths_from_lem : (d held set : ℕ) (p : List ℕ) (c : ℕ) (F : Tree) (last : Grown) → d ≡ suc (length p)
      → map depth_of (siblings_from d held set F) ≡ map (λ x. length x.name) (listing (named_from p c (grown_from p c F last)))
  unfolding siblings_from depth_of listing youngest sprouting succeeded begun_from old_node named_from change child
  depths_from_lem d held set p c nil last e = rw (length-append, e) (ap (λ (n : ℕ). n ∷ []) (omega arith))
  depths_from_lem d held set p c (node x below younger) last e =
      let n : d ≡ length (p ++ (c ∷ [])) = omega (arith, length-append p (c ∷ [])) in
      rw (← n) (ap (λ (l : List ℕ). d ∷ l)
      (map_same depth_of (λ x. length x.name) (siblings_from (suc d) held 0 below)
      (siblings_from d (bit_or held (new_label R a held x)) (bit_or set (new_label R a held x)) younger)
      (listing (named_from (p ++ (c ∷ [])) 0 (grown_from (p ++ (c ∷ [])) 0 below (youngest_of (p ++ (c ∷ [])) x))))
      (listing (named_from p (suc c) (grown_from p (suc c) younger last)))
      (depths_from_lem (suc d) held 0 (p ++ (c ∷ [])) 0 below (youngest_of (p ++ (c ∷ [])) x) (ap suc n))
      (depths_from_lem d (bit_or held (new_label R a held x)) (bit_or set (new_label R a held x)) p (suc c) younger last e)))

  sets_from : (d held set : ℕ) (p : List ℕ) (c : ℕ) (F : Tree) (last : Grown)
      → map set_of (siblings_from d held set F) ≡ older_labels_from set (separated held (grown_from p c F last))
  unfolding siblings_from set_of older_labels_from separated youngest sprouting succeeded begun_from old_node named_from change child new_label
  sets_from d held set p c nil last = refl
  sets_from d held set p c (node x below younger) last =
      rw (older_same held (successors R a x.label))
      (ap (λ (l : List ℕ). set ∷ l)
      (map_both set_of (siblings_from (suc d) held 0 below) _ (sets_from (suc d) held 0 (p ++ (c ∷ [])) 0 below (youngest_of (p ++ (c ∷ [])) x))
      (sets_from d (bit_or held (new_label R a held x)) (bit_or set (new_label R a held x)) p (suc c) younger last)))

  -- of a tree
  module _ (x : Node) (below : Tree) where
    abbrev T : Tree
    T = node x below nil

    abbrev siblings : List Sibling
    siblings = siblings_of T

    old_siblings : old_nodes siblings ≡ nodes_of T
    unfolding siblings_of old_nodes nodes_of nodes_from
    old_siblings = rw (append-nil, old_from 1 0 0 below)

    siblings_origins : map is_old_sibling siblings ≡ map (λ x. was_there x.origin) (listing (two_steps R a T))
    unfolding siblings_of is_old_sibling was_there listing two_steps sprouting succeeded begun named begun_from old_node change child
    siblings_origins = ap (λ (l : List Bool). true ∷ l) (origins_from 1 0 0 [] 0 below (youngest_of [] x) refl
        ∙ ap (map (λ x. was_there x.origin)) (sym (append-nil (listing (grown_from [] 0 below (youngest_of [] x))))))

    siblings_depths : map depth_of siblings ≡ map (λ x. length x.name) (listing (named (two_steps R a T)))
    unfolding siblings_of depth_of listing two_steps sprouting succeeded begun named begun_from old_node change child
    siblings_depths = ap (λ (l : List ℕ). 0 ∷ l) (depths_from_lem 1 0 0 [] 0 below (youngest_of [] x) refl
        ∙ ap (map (λ x. length x.name)) (sym (append-nil (listing (named_from [] 0 (grown_from [] 0 below (youngest_of [] x)))))))

    siblings_sets : map set_of siblings ≡ older_labels (three_steps R a T)
    unfolding siblings_of set_of older_labels three_steps two_steps older_labels_from separated sprouting succeeded begun named begun_from old_node change child
    siblings_sets = rw append-nil (ap (λ (l : List ℕ). 0 ∷ l) (sets_from 1 0 0 [] 0 below (youngest_of [] x)))

    -- as many as there are nodes after steps 1 and 2
    pub siblings_many : length siblings ≡ size (two_steps R a T)
    siblings_many = sym (length-map siblings is_old_sibling) ∙ ap length siblings_origins
        ∙ length-map (listing (two_steps R a T)) (λ x. was_there x.origin) ∙ length_listing (two_steps R a T)

    -- the one numbered n: the old nodes before it, its depth and its set
    pub sibling_behind : (n : ℕ) → old_nodes (take n siblings) ≡ take (old_ones (take n (listing (two_steps R a T)))) (nodes_of T)
    sibling_behind n = old_first n siblings ∙ rw (old_many n siblings (listing (two_steps R a T)) siblings_origins, old_siblings)

    pub sibling_depth : (n : ℕ) → depth_of (get_or siblings n (new 0 0)) ≡ length (get_or (names (two_steps R a T)) n [])
    unfolding depth_of names
    sibling_depth n = sym (get_or-map depth_of siblings n (new 0 0)) ∙ ap (λ (l : List ℕ). get_or l n 0) siblings_depths
        ∙ get_or-map (λ (z : Named Grown). length z.name) (listing (named (two_steps R a T))) n some
        ∙ ap length (sym (get_or-map (λ (z : Named Grown). z.name) (listing (named (two_steps R a T))) n some))
      where
        some : Named Grown
        some = record { here = no_sprout; name = [] }

    pub sibling_set : (n : ℕ) → set_of (get_or siblings n (new 0 0)) ≡ get_or (older_labels (three_steps R a T)) n 0
    unfolding set_of
    sibling_set n = sym (get_or-map set_of siblings n (new 0 0)) ∙ ap (λ (l : List ℕ). get_or l n 0) siblings_sets

    -- so one that is behind i old nodes is reached
    reached : (i d : ℕ) → Behind siblings i d → (n : ℕ) × ReachedSibling R a T i d n
    reached i d (n, less, many, deep) = (
      n,
      record {
        there = omega (arith, siblings_many);
        behind = sym (old_many n siblings (listing (two_steps R a T)) siblings_origins) ∙ many;
        deep = sym (sibling_depth n) ∙ deep;
      },
    )

    -- each old node is a sibling that is reached, at its depth
    pub old_reached : (i : ℕ) → i < length (nodes_of T) → (n : ℕ) × ReachedSibling R a T i (get_or (nodes_of T) i blank_node).depth n
    old_reached i h = reached i _ (rw old_siblings at (old_behind siblings i (rw old_siblings h)))

    -- and one is reached behind it at each depth that is at most that of its children and more than that of the next old node
    pub new_reached : (i d : ℕ) → suc i ≤ length (nodes_of T) → 0 < d → d ≤ suc (get_or (nodes_of T) i blank_node).depth
        → (suc i < length (nodes_of T) → (get_or (nodes_of T) (suc i) blank_node).depth < d) → (n : ℕ) × ReachedSibling R a T (suc i) d n
    unfolding siblings_of
    new_reached i d within low last next =
        reached (suc i) d (new_behind 0 siblings (refl, rw append-nil at (turns_from 0 0 0 below [] refl)) (suc i) d low (rw old_siblings within)
        (λ e. absurd (omega arith)) (λ j e. let same : i ≡ j = omega arith in rw (old_siblings, ← same) last) (rw old_siblings next))
