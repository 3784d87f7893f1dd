-- The starting record, by the laws of StartCall.
use Rattle.table.proofs.Asked.{arrays_blank, read_yes}
use Rattle.tree.proofs.TreeNodes.{counted_in}
use Rattle.tree.proofs.StartCall.{start_refused, start_no_room, start_recordable, start_done}
use Rattle.tree.proofs.start.start.Goals as goal

pub read_rule-requires : goal.read_rule-requires
read_rule-requires c =
    arrays_blank

pub returns-in-Err : goal.returns-in-Err
returns-in-Err c =
    start_refused _ _ _ c.in-Err.ensures.answers _ c.into.ensures

pub returns-then-buffer-lt-RECORD : goal.returns-then-buffer-lt-RECORD
returns-then-buffer-lt-RECORD c =
    start_no_room (read_yes c.in-Ok.ensures) _ c.if-buffer-lt-RECORD.true _ c.into-then-buffer-lt-RECORD.ensures

pub put_record-written-requires : goal.put_record-written-requires
put_record-written-requires c =
    rw (c.nodes.ensures, counted_in c.start-tree.result) (start_recordable (read_yes c.in-Ok.ensures) _ c.start-tree.ensures, c.if-buffer-lt-RECORD.false)

pub returns-else-buffer-lt-RECORD : goal.returns-else-buffer-lt-RECORD
returns-else-buffer-lt-RECORD c =
    let (length, bytes) = rw (c.nodes.ensures, counted_in c.start-tree.result) at c.put_record-written.ensures in
    start_done (read_yes c.in-Ok.ensures) _ c.start-tree.ensures _ c.if-buffer-lt-RECORD.false _ _ length bytes
