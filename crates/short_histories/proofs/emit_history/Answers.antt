-- `short_histories::emit_history` meets its contract.
use native.Mathlib.Omega.{arith}
use Rattle.short_histories.proofs.Written.{rest_of}
use Rattle.short_histories.proofs.Exits.{too_short, room}
use Rattle.short_histories.proofs.emit_history.Goals as goal

pub history_size-size-requires : goal.history_size-size-requires
history_size-size-requires c = c.requires

pub returns-then-out-size : goal.returns-then-out-size
returns-then-out-size c =
    let a = c.args in
    let the_whole = too_short (rest_of a.s.now a.n a.len a.index) a.out.now c.history_size-size.ensures c.if-out-size.true in record { result_value = the_whole.0; out_after = the_whole.1 }

pub put_history-requires : goal.put_history-requires
put_history-requires c =
    let p = c.requires in
    (p.0, p.1, p.2, p.3, p.4, omega (arith, c.if-out-size.false, c.history_size-size.ensures))

pub returns : goal.returns
returns c =
    let a = c.args in
    let the_whole = room (rest_of a.s.now a.n a.len a.index) a.out.now c.history_size-size.ensures c.if-out-size.false c.put_history.ensures in record { result_value = the_whole.0; out_after = the_whole.1 }
