-- The nodes after a letter as the code has them, and their maps, each node with the number that it had before: of siblings, and at one node
-- by what step 4 makes of it.
use mathlib.Core.Path.{◌≡◌, refl}
use mathlib.Core.Bool.{Bool, true, false, cond}
use mathlib.Core.List.{List, [], ◌∷◌, ◌++◌, map, map-append}
use Prim.Native.Nat.{ℕ, suc, ◌^◌}
use lib.Bits.{bit_or, or_zero_r}
use Rattle.base.proofs.BitSet.{union_assoc}
use Rattle.history.specs.Forest.{Forest, nil, node, change, listing, Named, named_from, named, same_numbers}
use Rattle.history.specs.Tree.{labels}
use Rattle.history.specs.Letter.{Origin, was, Grown, kept, next_set, is_old}
use Rattle.history.proofs.Step.StepsJoined.{plain_node, plain}
use Rattle.history.proofs.Names.Names.{same_self}
use Rattle.tree.specs.Inner.Nodes.{nodes_from, without_old}
use Rattle.tree.specs.declared.nodes.Node.{Node as CodeNode}
use Rattle.step.specs.Inner.Pass.{Pass}

-- MAPS BY NUMBER

-- the map of the numbers of the nodes that pass a test
unfoldable pub marked : {A : Type 0} → (A → Bool) → (A → ℕ) → Forest A → ℕ
marked f number nil = 0
marked f number (node x below younger) =
    bit_or (cond (f x) (2 ^ number x) 0) (bit_or (marked f number below) (marked f number younger))

-- has a node the name that it had before the letter?
unfoldable pub keeps_name : Named Grown → Bool
keeps_name x = is_old x.name x.here.origin

module _ (number : Origin → ℕ) where
  -- the nodes of siblings at depth d and of all below them
  unfoldable pub grown_nodes : ℕ → Forest Grown → List CodeNode
  grown_nodes d nil = []
  grown_nodes d (node x below younger) =
      record { depth = d; label = x.label; kids = labels (plain below); active = x.active; old = number x.origin }
      ∷ (grown_nodes (suc d) below ++ grown_nodes d younger)

  -- the accepting ones, and the stable ones where the siblings have child numbers from c on below the node named p
  unfoldable pub accepting_of : Forest Grown → ℕ
  accepting_of G = marked (λ x. x.accepting) (λ x. number x.origin) G

  unfoldable pub stable_of : List ℕ → ℕ → Forest Grown → ℕ
  stable_of p c G = marked keeps_name (λ x. number x.here.origin) (named_from p c G)

  -- the stable ones of a whole tree
  unfoldable pub stable_in : Forest Grown → ℕ
  stable_in G = marked keeps_name (λ x. number x.here.origin) (named G)

  -- a pass has written these nodes, and its maps are theirs
  pub record Gives (p : Pass) (G : Forest Grown) : Type 0 where
    pub nodes : p.nodes ≡ grown_nodes 0 G
    pub accepting : p.accepting ≡ accepting_of G
    pub stable : p.stable ≡ stable_in G

  -- without the old numbers these are the nodes of the tree; the old numbers are those that they had
  pub grown_nodes_lem : (d : ℕ) (G : Forest Grown) → map without_old (grown_nodes d G) ≡ nodes_from d (plain G)
  unfolding grown_nodes nodes_from change plain_node
  grown_nodes_lem d nil = refl
  grown_nodes_lem d (node x below younger) =
      rw (map-append without_old (grown_nodes (suc d) below) (grown_nodes d younger), grown_nodes_lem (suc d) below, grown_nodes_lem d younger)

  pub grown_olds : (d : ℕ) (G : Forest Grown) → map (λ x. x.old) (grown_nodes d G) ≡ map (λ x. number x.origin) (listing G)
  unfolding grown_nodes listing
  grown_olds d nil = refl
  grown_olds d (node x below younger) =
      rw (
        map-append (λ x. x.old) (grown_nodes (suc d) below) (grown_nodes d younger),
        map-append (λ x. number x.origin) (listing below) (listing younger),
        grown_olds (suc d) below,
        grown_olds d younger,
      )

  -- ONE NODE

  module _ (k : ℕ) where
    -- by whether it is removed, and whether it loses its descendants and accepts
    unfoldable pub nodes_here : ℕ → Bool → Bool → Grown → Forest Grown → List CodeNode
    nodes_here d true full x below = []
    nodes_here d false true x below =
        record { depth = d; label = x.label; kids = 0; active = next_set k x.active; old = number x.origin } ∷ []
    nodes_here d false false x below =
        record { depth = d; label = x.label; kids = labels (plain below); active = x.active; old = number x.origin }
        ∷ grown_nodes (suc d) below

    unfoldable pub accepting_here : Bool → Bool → Grown → Forest Grown → ℕ
    accepting_here true full x below = 0
    accepting_here false true x below = 2 ^ number x.origin
    accepting_here false false x below = accepting_of below

    unfoldable pub stable_here : List ℕ → Bool → Bool → Grown → Forest Grown → ℕ
    stable_here w true full x below = 0
    stable_here w false true x below = 2 ^ number x.origin
    stable_here w false false x below = bit_or (2 ^ number x.origin) (stable_of w 0 below)

    -- of the node with its younger siblings
    pub nodes_kept : (d : ℕ) (gone full : Bool) (x : Grown) (below younger : Forest Grown)
        → grown_nodes d (kept k gone full x below younger) ≡ nodes_here d gone full x below ++ grown_nodes d younger
    unfolding grown_nodes nodes_here kept labels change
    nodes_kept d true full x below younger = refl
    nodes_kept d false true x below younger = refl
    nodes_kept d false false x below younger = refl

    pub accepting_kept : (gone full : Bool) (x : Grown) (below younger : Forest Grown) → x.accepting ≡ false
        → accepting_of (kept k gone full x below younger) ≡ bit_or (accepting_here gone full x below) (accepting_of younger)
    unfolding accepting_of accepting_here marked kept
    accepting_kept true full x below younger e = refl
    accepting_kept false true x below younger e = refl
    accepting_kept false false x below younger e = rw e

    pub stable_kept : (p : List ℕ) (c : ℕ) (gone full : Bool) (x : Grown) (below younger : Forest Grown) → x.origin ≡ was (p ++ (c ∷ []))
        → stable_of p c (kept k gone full x below younger)
        ≡ bit_or (stable_here (p ++ (c ∷ [])) gone full x below) (cond gone (stable_of p c younger) (stable_of p (suc c) younger))
    unfolding stable_of stable_here marked keeps_name is_old named_from kept
    stable_kept p c true full x below younger e = refl
    stable_kept p c false true x below younger e = rw (e, same_self (p ++ (c ∷ [])))
    stable_kept p c false false x below younger e =
        rw (e, same_self (p ++ (c ∷ [])))
        (union_assoc (2 ^ number (was (p ++ (c ∷ [])))) (stable_of (p ++ (c ∷ [])) 0 below) (stable_of p (suc c) younger))

    -- of a root
    pub stable_root : (gone full : Bool) (x : Grown) (below : Forest Grown) → x.origin ≡ was []
        → stable_in (kept k gone full x below nil) ≡ stable_here [] gone full x below
    unfolding stable_in stable_of stable_here marked keeps_name is_old same_numbers named named_from kept
    stable_root true full x below e = refl
    stable_root false true x below e = rw e (or_zero_r (2 ^ number (was [])))
    stable_root false false x below e = rw (e, or_zero_r (stable_of [] 0 below))
