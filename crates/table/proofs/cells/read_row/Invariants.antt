-- The set bytes of a cell, by the laws of RowReading and RowWords.
use Rattle.rule.specs.Limits.{max_states}
use Rattle.rule.proofs.RowWords.{WordSoFar}
use Rattle.table.specs.Table.{read_row}
use Rattle.table.specs.Inner.Reader.{ahead}
use Rattle.table.proofs.RowReading.{RowSoFar}
use Rattle.table.proofs.cells.read_row.Given as goal

abbrev pub invariant-loop : goal.invariant-loop
invariant-loop l =
    RowSoFar l.header.sets max_states l.map (read_row l.header.sets max_states l.map (ahead l.initial.reader)) l.row l.rest l.counter (ahead l.reader)
    × WordSoFar l.row l.rest l.made
