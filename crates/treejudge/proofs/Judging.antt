-- The judge on look-ups that are ready for a walk: what its calls need, and that its answer is right for every rule that they are of.
use mathlib.Core.Path.{◌≡◌, refl, sym, ◌∙◌, ap}
use mathlib.Core.Bool.{false, true}
use mathlib.Core.List.{List, [], append-nil}
use Prim.Native.Nat.{ℕ, ◌≤◌, ◌<◌}
use native.Mathlib.Omega.{arith}
use native.Mathlib.Decide.{dec_lt}
use lib.ListN.{length, get_or, take, length-take}
use Rattle.base.specs.BitSet.{member}
use Rattle.base.specs.LentBuffer.{stored}
use Rattle.base.proofs.BitSet.{some_member}
use Rattle.base.proofs.Logic.{clash}
use Rattle.rule.specs.Limits.{max_states}
use Rattle.rule.specs.Rule.{Rule}
use Rattle.table.specs.declared.header.Header.{Header}
use Rattle.word.specs.Inner.Prepared.{Prepared}
use Rattle.word.specs.Walk.{rounds, letters_left}
use Rattle.word.specs.Inner.WalkLookups.{Lookups}
use Rattle.history.specs.Forest.{size, names}
use Rattle.history.specs.Tree.{start_tree}
use Rattle.history.specs.Rounds.{round_tree}
use Rattle.history.specs.Verdict.{FirstWitness}
use Rattle.history.specs.Finding.{yes_node, no_node}
use Rattle.history.proofs.Step.TreesOf.{of_few}
use Rattle.tree.specs.Inner.RecordNodes.{start_nodes, HasNodes}
use Rattle.tree.specs.declared.nodes.Tree.{Tree as CodeTree}
use Rattle.tree.proofs.StartCall.{start_holds}
use Rattle.treejudge.specs.JudgeCall.{no_name, tree_answer, names_after, Judged}
use Rattle.letters.specs.Inner.Reading.{HasSets, Reads, ReadsTo}
use Rattle.treejudge.specs.Inner.Cycles.{AtRound}
use Rattle.treejudge.specs.Inner.Repeats.{RepeatOf}
use Rattle.treejudge.specs.Inner.NodeNames.{Lowest, SomeNode, IsName}
use Rattle.treejudge.specs.declared.repeat.Repeat.{Repeat}
use Rattle.treejudge.specs.declared.name.Name.{Name}

-- the letters still to be read, from the first of u on
lead_left : (u v w : List ℕ) → w ≡ letters_left false u v 0 → u ≡ w
unfolding letters_left
lead_left u v w e = sym e

module _ {R : Rule} {header : Header} {lookups : Lookups} {u v : List ℕ} (p : Prepared R header lookups u v) where
  -- the rule is within the limits
  has_sets : HasSets R header.sets
  has_sets = record {
    number = sym p.numbers.sets;
    limits = p.limits;
  }

  module _ (start : CodeTree) (made : HasNodes (start_nodes header.start) start) (w : List ℕ) (left : w ≡ letters_left false u v 0) where
    -- u is read from the starting tree
    pub lead_reads : (x : CodeTree) → x ≡ start → Reads R (start_tree R) lookups header.sets w x
    lead_reads x is = rw is (record {
      holds = has_sets;
      has_lookups = rw (lead_left u v w left) at p.lead;
      tree = start_holds p.limits start (rw p.numbers.start at made);
    })

    -- and leads to t(0)
    pub first_round : (first : CodeTree) → ReadsTo lookups header.sets w start first → AtRound R u v lookups header.sets 0 first
    unfolding ReadsTo round_tree rounds
    first_round first to = record {
      holds = has_sets;
      has_lookups = p.tail;
      tree = rw (append-nil u, lead_left u v w left) (to R (start_tree R) (lead_reads start refl));
    }

module _ (R : Rule) (u v : List ℕ) (r : Repeat) (S : RepeatOf R u v r) (before : List ℕ) where
  -- no followed node was accepting
  pub says_no : r.witnesses ≡ 0
      → Judged R u v before (record { number = 0; verdict = 0; entry = r.entry; period = r.period; length = no_name }) before
  unfolding tree_answer names_after
  says_no none = record {
    walk = record { entry = r.entry; period = r.period; repeat = S.repeat; finding = no_node; found = S.none none };
    answers = refl;
    leaves = refl;
  }

  module _ (limits : R.states ≤ max_states) (some : r.witnesses ≡ 0 → ⊥) (j : ℕ) (lowest : Lowest r.witnesses j) where
    -- the lowest number is that of a node
    node_there : j < size S.tree
    node_there = let (i, m) = some_member r.witnesses some in go i m (dec_lt i j)
      where
        go : (i : ℕ) → member r.witnesses i ≡ true → Dec (i < j) → j < size S.tree
        go i m (yes earlier) = clash (lowest.none_before i earlier) m
        go i m (no later) = omega (arith, S.node i m)

    pub some_node : SomeNode r.tree j
    some_node = record {
      rule = R;
      tree = S.tree;
      states = limits;
      holds = S.holds;
      node = omega (arith, node_there, S.holds.counts);
    }

    -- and the first witness
    first_witness : FirstWitness R u v r.entry r.period (get_or (names S.tree) j [])
    first_witness =
        let few = of_few R S.tree S.holds.fits in
        S.lowest j (lowest.here (omega (arith, node_there, few))) lowest.none_before

    pub says_yes : (name : Name) → IsName r.tree j name → (after : List ℕ)
        → after ≡ stored 0 (take name.length name.numbers) before
        → Judged R u v before (record { number = 0; verdict = 1; entry = r.entry; period = r.period; length = name.length }) after
    unfolding tree_answer names_after
    says_yes name is after stores =
        let w : take name.length name.numbers ≡ get_or (names S.tree) j [] = is.numbers R S.tree S.holds in
        let l : name.length ≡ length (get_or (names S.tree) j []) =
        omega (arith, length-take name.length name.numbers, is.places, is.short, ap length w) in record {
          walk = record {
            entry = r.entry;
            period = r.period;
            repeat = S.repeat;
            finding = yes_node (get_or (names S.tree) j []);
            found = first_witness;
          };
          answers = λ i. record { number = 0; verdict = 1; entry = r.entry; period = r.period; length = l i };
          leaves = stores ∙ ap (λ (x : List ℕ). stored 0 x before) w;
        }
