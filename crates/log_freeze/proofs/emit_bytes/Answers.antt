-- `log_freeze::emit_bytes` meets its contract.
use Rattle.log_freeze.proofs.Emits.{bytes-short, bytes-room}
use Rattle.log_freeze.proofs.emit_bytes.Goals as goal

pub returns-then-out-s : goal.returns-then-out-s
returns-then-out-s c =
    let a = c.args in
    let the_whole = bytes-short a.s.now a.out.now c.if-out-s.true in record { result_value = the_whole.0; out_after = the_whole.1 }

pub returns : goal.returns
returns c =
    let a = c.args in
    let the_whole = bytes-room a.s.now a.out.now c.if-out-s.false c.copy.ensures in record { result_value = the_whole.0; out_after = the_whole.1 }
