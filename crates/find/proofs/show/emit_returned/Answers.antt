-- `find::emit_returned` meets its contract.
use Rattle.find.proofs.Puts.{emit-short, emit-room}
use Rattle.find.proofs.show.emit_returned.Goals as goal

pub returns-then-out-n : goal.returns-then-out-n
returns-then-out-n c =
    let the_whole = emit-short _ _ c.requires c.returned_size-n.ensures c.if-out-n.true in record { result_value = the_whole.0; out_after = the_whole.1 }

pub returns : goal.returns
returns c =
    let the_whole = emit-room _ _ c.requires c.returned_size-n.ensures c.if-out-n.false c.put_returned.ensures in record { result_value = the_whole.0; out_after = the_whole.1 }
