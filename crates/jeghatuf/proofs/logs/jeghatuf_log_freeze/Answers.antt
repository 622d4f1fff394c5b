-- `jeghatuf::logs::jeghatuf_log_freeze` meets its contract: a number for each end, and what comes with it.
use Rattle.jeghatuf.proofs.Packs.{run-written, run-refused, run-stopped}
use Rattle.jeghatuf.proofs.logs.jeghatuf_log_freeze.Goals as goal

pub returns-in-Written : goal.returns-in-Written
returns-in-Written c =
    let e = c.log_freeze.ensures in
    let p = run-written e.result_value c.in-Written.is _ c.put_first.ensures in
    record { value = p.0; out_after = e.out_after; value_after = p.1 }

pub returns-in-Refused : goal.returns-in-Refused
returns-in-Refused c =
    let e = c.log_freeze.ensures in
    let p = run-refused e.result_value c.in-Refused.is c.alone.ensures _ in
    record { value = p.0; out_after = e.out_after; value_after = p.1 }

pub returns-in-Stopped : goal.returns-in-Stopped
returns-in-Stopped c =
    let e = c.log_freeze.ensures in
    let p = run-stopped e.result_value c.in-Stopped.is c.alone-in-Stopped.ensures _ c.put_first-in-Stopped.ensures in
    record { value = p.0; out_after = e.out_after; value_after = p.1 }
