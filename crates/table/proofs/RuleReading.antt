-- From the cells that were read to the rule that the table says, or to the number of the question that failed.
use mathlib.Core.Path.{◌≡◌, refl, sym, ◌∙◌, ap}
use mathlib.Core.Bool.{Bool, true, false}
use mathlib.Core.List.{List, [], ◌∷◌}
use Prim.Native.Nat.{ℕ, ◌≤◌, ◌<◌}
use borrow.Author.Tests.{le-leb, lt-leb}
use lib.ListN.{length, get_or, drop}
use Rattle.std.specs.Prelude.{Ok, Err}
use Rattle.base.specs.Outcome.{Outcome, refused, accepted, ask}
use Rattle.base.specs.Reading.{Read, ended}
use Rattle.base.specs.Refusals.{refusal_number}
use Rattle.base.specs.declared.refusal.Refusal.{Refusal}
use Rattle.base.proofs.Accepted.{itself, of_accepted, asked, followed}
use Rattle.rule.specs.Limits.{max_states}
use Rattle.rule.specs.Rule.{Grid, Rule}
use Rattle.rule.specs.WellFormed.{start_fits}
use Rattle.rule.specs.Inner.Padded.{padded}
use Rattle.rule.specs.Inner.Lookup.{grid_words}
use Rattle.table.specs.Table.{in_range, ask_header, read_grid, read_body, read_rule}
use Rattle.table.specs.Inner.Header.{HasNumbers, header_outcome}
use Rattle.table.specs.Inner.ReadRule.{Blank, NumbersOf, ReadInto, cells_after}
use Rattle.table.specs.declared.header.Header.{Header}
use Rattle.table.specs.Inner.Reader.{next_byte, read_padded}
use Rattle.table.proofs.PaddedReading.{grid_padded}

-- what a reading says, and the arrays afterwards
module _ {o : Outcome Rule} {cells : Grid} {words : List (List ℕ)} where
  pub into_no : {refusal : Refusal} → o ≡ refused (refusal_number refusal) → Blank cells words → ReadInto o (Err refusal) cells words
  unfolding cells_after
  into_no is (blank, images) = record { answers = is; arrays = rw is blank; images = images }

  pub into_yes : {R : Rule} {header : Header} → o ≡ accepted R → NumbersOf R header → cells ≡ padded R.grid → words ≡ grid_words cells
      → ReadInto o (Ok header) cells words
  unfolding cells_after
  into_yes {R} is numbers arrays images = record { answers = (R, is, numbers); arrays = rw is arrays; images = images }

-- question 6: is anything left?
not_ended : (x : ℕ) (bytes rest : List ℕ) → accepted (x, rest) ≡ next_byte bytes → ended bytes ≡ false
unfolding ended
not_ended x [] rest e = cc
not_ended x (y ∷ bytes) rest e = refl

all_ended : (bytes : List ℕ) → refused 4 ≡ next_byte bytes → ended bytes ≡ true
unfolding ended
all_ended [] e = refl
all_ended (y ∷ bytes) e = cc

module _ (n m k start : ℕ) (bytes : List ℕ) (le : n ≤ max_states) where
  -- question 4 or 5 failed
  pub body_refused : (number : ℕ) → refused number ≡ read_padded n m k bytes → read_body n m k start bytes ≡ refused number
  unfolding read_body
  body_refused number e = go (read_grid n m k bytes) refl
    where
      go : (o : Read Grid) → read_grid n m k bytes ≡ o → read_body n m k start bytes ≡ refused number
      go (refused other) is =
          let same : ◌≡◌ {A = Read Grid} (refused number) (refused other) = e ∙ grid_padded n m k bytes le ∙ rw is in
          rw is cc
      go (accepted x) is =
          let same : ◌≡◌ {A = Read Grid} (refused number) (accepted (padded x.0, x.1)) = e ∙ grid_padded n m k bytes le ∙ rw is in
          cc

  module _ (cells : Grid) (rest : List ℕ) (e : accepted (cells, rest) ≡ read_padded n m k bytes) where
    -- the grid that was read, as the arrays hold it
    grid_read : (grid : Grid) × (read_grid n m k bytes ≡ accepted (grid, rest)) × (padded grid ≡ cells)
    grid_read = go (read_grid n m k bytes) refl
      where
        go : (o : Read Grid) → read_grid n m k bytes ≡ o → (grid : Grid) × (read_grid n m k bytes ≡ accepted (grid, rest)) × (padded grid ≡ cells)
        go (refused number) is =
            let same : ◌≡◌ {A = Read Grid} (accepted (cells, rest)) (refused number) = e ∙ grid_padded n m k bytes le ∙ rw is in
            cc
        go (accepted x) is =
            let same : ◌≡◌ {A = Read Grid} (accepted (cells, rest)) (accepted (padded x.0, x.1)) = e ∙ grid_padded n m k bytes le ∙ rw is in
            let pair : ◌≡◌ {A = Grid × List ℕ} (cells, rest) (padded x.0, x.1) = cc in
            (x.0, is ∙ ap (λ (r : List ℕ). accepted (x.0, r)) (sym (ap (λ (p : Grid × List ℕ). p.1) pair)), sym (ap (λ (p : Grid × List ℕ). p.0) pair))

    -- question 6 failed
    pub body_unended : (x : ℕ) (behind : List ℕ) → accepted (x, behind) ≡ next_byte rest → read_body n m k start bytes ≡ refused 6
    unfolding read_body
    body_unended x behind more = let (grid, is, same) = grid_read in rw (is, not_ended x rest behind more)

    -- the rule
    pub body_read : refused 4 ≡ next_byte rest → (R : Rule) × (read_body n m k start bytes ≡ accepted R) × (cells ≡ padded R.grid)
    unfolding read_body
    body_read none =
        let (grid, is, same) = grid_read in
        (record { states = n; letters = m; sets = k; start = start; grid = grid }, rw (is, all_ended rest none), sym same)

-- the numbers are those of the rule that is accepted
pub body_numbers : (n m k start : ℕ) (bytes : List ℕ) (R : Rule) → read_body n m k start bytes ≡ accepted R
    → {header : Header} → HasNumbers n m k start header → NumbersOf R header
unfolding read_body
body_numbers n m k start bytes R e {header} has =
    of_accepted Says (read_body n m k start bytes) R e
    (followed (λ grid. read_grid n m k bytes ≡ accepted grid) Says (read_grid n m k bytes) _ (itself (read_grid n m k bytes)) λ grid is.
    asked Says (ended grid.1) 6 _ λ _. has)
  where
    Says : Rule → Type 0
    Says S = NumbersOf S header

-- questions 2 and 3: what follows is refused by their number, or both are answered yes
module _ (n m k start : ℕ) where
  pub header_refused : {A : Type 0} (number : ℕ) (next : Outcome A) → header_outcome n m k start ≡ refused number
      → ask_header n m k start next ≡ refused number
  unfolding header_outcome ask_header
  header_refused {A} number next e = go (in_range n m k) (start_fits n start) e
    where
      go : (a b : Bool) → ◌≡◌ {A = Outcome (Unit {0})} (ask a 2 (ask b 3 (accepted tt))) (refused number)
          → ◌≡◌ {A = Outcome A} (ask a 2 (ask b 3 next)) (refused number)
      go false b e = let same : ◌≡◌ {A = ℕ} 2 number = cc in rw same
      go true false e = let same : ◌≡◌ {A = ℕ} 3 number = cc in rw same
      go true true e = cc

  pub header_accepted : (any : Unit {0}) → header_outcome n m k start ≡ accepted any → (in_range n m k ≡ true) × (start_fits n start ≡ true)
  unfolding header_outcome ask_header
  header_accepted any e = go (in_range n m k) (start_fits n start) e
    where
      go : (a b : Bool) → ◌≡◌ {A = Outcome (Unit {0})} (ask a 2 (ask b 3 (accepted tt))) (accepted any) → (a ≡ true) × (b ≡ true)
      go false b e = cc
      go true false e = cc
      go true true e = (refl, refl)

module _ (table : List ℕ) where
  -- question 1 failed
  pub rule_short : length table < 4 → read_rule table ≡ refused 1
  unfolding read_rule
  rule_short h = rw (lt-leb 4 (length table) h)

  abbrev n : ℕ
  n = get_or table 0 0

  abbrev m : ℕ
  m = get_or table 1 0

  abbrev k : ℕ
  k = get_or table 2 0

  abbrev start : ℕ
  start = get_or table 3 0

  module _ (long : 4 ≤ length table) where
    -- question 2 or 3 failed
    pub rule_header : (number : ℕ) → header_outcome n m k start ≡ refused number → read_rule table ≡ refused number
    unfolding read_rule
    rule_header number e = rw (le-leb 4 (length table) long) (header_refused n m k start number _ e)

    -- the cells are still to be read
    pub rule_body : (any : Unit {0}) → header_outcome n m k start ≡ accepted any → read_rule table ≡ read_body n m k start (drop 4 table)
    unfolding read_rule ask_header
    rule_body any e = let (a, b) = header_accepted n m k start any e in rw (le-leb 4 (length table) long, a, b)
