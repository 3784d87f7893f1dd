-- The room has as many bytes as it says.
use Rattle.std.proofs.Common.{sym, ℕ}
use Rattle.std.proofs.lemmas.List.{length-replicate}
use Rattle.stored.proofs.files.room.Goals as goal

pub returns : goal.returns
returns c =
    sym (length-replicate {A = ℕ} 1200000 0)
