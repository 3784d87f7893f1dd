-- The cells letter by letter, by the laws of ManyReading.
use mathlib.Core.Path.{◌≡◌}
use Rattle.rule.specs.Inner.Padded.{blank_cells}
use Rattle.rule.specs.Inner.Lookup.{grid_words}
use Rattle.table.specs.Inner.Reader.{ahead, read_square, read_padded}
use Rattle.table.proofs.ManyReading.{ManySoFar}
use Rattle.table.proofs.cells.read_cells.Given as goal

abbrev pub invariant-loop-letter : goal.invariant-loop-letter
invariant-loop-letter l =
    let n = l.header.states in
    let m = l.header.letters in
    let k = l.header.sets in
    ManySoFar (read_square n k) m blank_cells (read_padded n m k (ahead l.initial.reader)) l.cells l.letter (ahead l.reader)
    × (l.words ≡ grid_words l.cells)
