-- What an answer of the look-up says of the rule, by members (document 02, U2).
use Rattle.std.specs.Prelude.{◌≡◌, Bool, true, ◌↔◌, List, ℕ, suc, ◌%◌, ◌^◌, ◌<◌, ◌≤◌, get_or}
use Rattle.base.specs.BitSet.{member}
use Rattle.base.specs.Outcome.{accepted}
use Rattle.rule.specs.Limits.{max_sets}
use Rattle.rule.specs.Rule.{Rule, edge, edge_in}
use Rattle.table.specs.Table.{read_rule}
use Rattle.successors.specs.SuccessorsCall.{successors_outcome, successors_answer, SuccessorsCall}
use Rattle.successors.specs.declared.call.SuccessorsAnswer.{SuccessorsAnswer}

-- some state of s, below n, has a transition to r, of those that E names
abbrev pub LeadsTo : ℕ → (ℕ → ℕ → Bool) → ℕ → ℕ → Type 0
LeadsTo n E s r = (q : ℕ) × (q < n) × (member s q ≡ true) × (E q r ≡ true)

-- an answer for the rule R, the letter a and the set s
pub record Reached (R : Rule) (a s : ℕ) (answer : SuccessorsAnswer) : Type 0 where
  -- "the next states": r is one just if a state of s has a transition to r under a
  pub next : (r : ℕ) → (member answer.next r ≡ true) ↔ LeadsTo R.states (edge R.grid a) s r
  -- "and, for each accepting set, exactly those reached by a transition of that set": the map for set i + 1 stands at place i
  pub by_set : (i r : ℕ) → i < max_sets
      → (member (get_or answer.reached i 0) r ≡ true) ↔ LeadsTo R.states (edge_in R.grid (suc i) a) s r
  -- no state for a set that the rule does not have
  pub others : (i : ℕ) → R.sets ≤ i → get_or answer.reached i 0 ≡ 0

-- whatever the table, the letter and the set, and the answer that the contract gives: if its number is 0, there is the rule that the table
-- is read as, the letter is one of its letters, and the answer has exactly the states reached
abbrev pub ReachedExactly : Type 0
ReachedExactly =
    (table : List ℕ) (a s : ℕ) (answer : SuccessorsAnswer) → SuccessorsCall table a s answer
    → answer.number ≡ 0 → (R : Rule) × (read_rule table ≡ accepted R) × (a < R.letters) × Reached R a s answer

-- "States from n up in the given set add nothing.": sets with the same states below n have the same answer
abbrev pub StatesFromN : Type 0
StatesFromN =
    (table : List ℕ) (a s t : ℕ) (R : Rule) → read_rule table ≡ accepted R → s % 2 ^ R.states ≡ t % 2 ^ R.states
    → successors_answer (successors_outcome table a) a s ≡ successors_answer (successors_outcome table a) a t

-- all sixteen bits: every state, whatever n is
abbrev pub every_state : ℕ
every_state = 65535

-- "Screens show which accepting set each mode can serve.": asked of every state, the map for a set is not 0 just if some transition under
-- the letter belongs to the set
abbrev pub Serves : Type 0
Serves =
    (table : List ℕ) (a : ℕ) (answer : SuccessorsAnswer) → SuccessorsCall table a every_state answer
    → answer.number ≡ 0 → (R : Rule) × (read_rule table ≡ accepted R)
    × ((i : ℕ) → i < max_sets → (get_or answer.reached i 0 ≡ 0 → ⊥) ↔ ((q : ℕ) × (r : ℕ) × (edge_in R.grid (suc i) a q r ≡ true)))
