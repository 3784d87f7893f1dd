-- Texts that grow at their end.
use Rattle.std.specs.Prelude.{◌≡◌, cond, List, ℕ, ◌+◌, ◌≤◌, eqb, length, take}
use Rattle.base.specs.LentBuffer.{stored}
use Rattle.history.specs.Finding.{Finding, yes_node, no_node}
use Rattle.treejudge.specs.declared.judge.TreeAnswer.{TreeAnswer}
use Rattle.job.specs.JobCall.{text_room}
use Rattle.job.specs.declared.call.Text.{Text}

-- a text with more bytes at its end
unfoldable pub appended : Text → List ℕ → Text
appended text more = record { bytes = stored text.length more text.bytes; length = text.length + length more }

-- the same to a text with its whole array, and it is at most so many bytes longer
pub record Appends (text : Text) (more : List ℕ) (most : ℕ) (result : Text) : Type 0 where
  pub size : length text.bytes ≡ text_room
  pub same : result ≡ appended text more
  pub long : result.length ≤ text.length + most

-- the node that a tree judge's answer names: its numbers are the first ones of the name buffer
unfoldable pub finding_of : TreeAnswer → List ℕ → Finding
finding_of answer names = cond (eqb answer.verdict 1) (yes_node (take answer.length names)) no_node
