-- The cells of a letter, by the laws of ManyReading.
use mathlib.Core.Path.{◌≡◌}
use Rattle.rule.specs.Limits.{max_states}
use Rattle.rule.specs.Inner.Padded.{blank_square}
use Rattle.rule.specs.Inner.Lookup.{square_words}
use Rattle.table.specs.Table.{read_cell}
use Rattle.table.specs.Inner.Reader.{ahead, read_square}
use Rattle.table.proofs.ManyReading.{ManySoFar}
use Rattle.table.proofs.cells.read_letter.Given as goal

abbrev pub invariant-loop-state : goal.invariant-loop-state
invariant-loop-state l =
    let n = l.header.states in
    let k = l.header.sets in
    ManySoFar (read_cell n k max_states) n blank_square (read_square n k (ahead l.initial.reader)) l.square l.state (ahead l.reader)
    × (l.words ≡ square_words l.square)
