-- What a reading tells of the questions that were put: one is answered no, by a number, or all are answered yes, and a rule is accepted. What
-- was read is then of that rule.
use mathlib.Core.Path.{◌≡◌, refl, ◌∙◌, ap}
use mathlib.Core.List.{List}
use Prim.Native.Nat.{ℕ}
use lib.ListN.{replicate}
use Rattle.std.specs.Prelude.{Ok}
use Rattle.base.specs.Outcome.{accepted}
use Rattle.rule.specs.Limits.{max_states, max_letters}
use Rattle.rule.specs.Rule.{Grid, Rule}
use Rattle.rule.specs.Inner.Padded.{blank_cells, padded}
use Rattle.rule.specs.Inner.Lookup.{grid_words}
use Rattle.rule.proofs.RowWords.{words_blank}
use Rattle.table.specs.Table.{read_rule}
use Rattle.table.specs.Inner.ReadRule.{Blank, WithinLimits, HoldsRule, ReadInto, cells_after}
use Rattle.table.specs.declared.header.Header.{Header}
use Rattle.table.proofs.Ranges.{in_range_lem}
use Rattle.table.proofs.RoundTrip.{read_well_formed}

-- arrays as they are made for a reading
pub arrays_blank : Blank blank_cells (replicate max_letters (replicate max_states 0))
arrays_blank = (refl, words_blank)

-- a rule that a table is read as is within the limits
pub within_limits : (table : List ℕ) (R : Rule) → read_rule table ≡ accepted R → WithinLimits R
within_limits table R is =
    let (well, range) = read_well_formed table R is in
    let within = in_range_lem range in
    record { well = well; states = within.states; letters = within.letters; some_set = within.some_set; sets = within.sets }

-- the rule behind a reading, with its numbers, its grid in the arrays, and the words of its states
pub record RuleRead (table : List ℕ) (header : Header) (cells : Grid) (words : List (List ℕ)) : Type 0 where
  pub rule : Rule
  pub reads : read_rule table ≡ accepted rule
  pub holds : HoldsRule rule header words
  pub arrays : cells ≡ padded rule.grid

-- all are answered yes
pub read_yes : {table : List ℕ} {header : Header} {cells : Grid} {words : List (List ℕ)} → ReadInto (read_rule table) (Ok header) cells words
    → RuleRead table header cells words
unfolding cells_after
read_yes {table} p =
    let (R, reads, numbers) = p.answers in
    let arrays = p.arrays ∙ ap cells_after reads in
    record {
      rule = R;
      reads = reads;
      holds = record { numbers = numbers; images = p.images ∙ ap grid_words arrays; limits = within_limits table R reads };
      arrays = arrays;
    }
