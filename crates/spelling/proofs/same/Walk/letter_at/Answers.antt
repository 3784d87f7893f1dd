-- A letter of the lead-in, or of the tail behind it.
use mathlib.Core.Path.{sym}
use Rattle.word.proofs.Positions.{letter_prefix, letter_tail}
use Rattle.spelling.proofs.same.Walk.letter_at.Goals as goal

pub returns-then-position-self : goal.returns-then-position-self
returns-then-position-self c =
    sym (letter_prefix _ _ _ c.if-position-self.true)

pub returns-else-position-self : goal.returns-else-position-self
returns-else-position-self c =
    sym (letter_tail _ _ _ c.if-position-self.false c.requires)
