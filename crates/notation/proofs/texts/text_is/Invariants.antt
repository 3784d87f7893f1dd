-- A text on one line. The letters that the loop has passed stand at the front of the line: the line is the text just if the rest is the rest.
use Rattle.std.proofs.Common.{◌≡◌, ◌↔◌, drop}
use Rattle.notation.specs.OneLine.{on_one_line}
use Rattle.notation.proofs.texts.text_is.Given as goal

abbrev pub invariant-loop-letter : goal.invariant-loop-letter
invariant-loop-letter l = (l.line ≡ on_one_line l.text) ↔ (l.rest ≡ on_one_line (drop l.letter-index l.text))
