-- `jeghatuf::restarts::jeghatuf_restore` meets its contract: a number for each end, and a place where a record is refused.
use Rattle.jeghatuf.proofs.Packs.{restore_done, restore_refused, restore_stopped}
use Rattle.jeghatuf.proofs.restarts.jeghatuf_restore.Goals as goal

pub returns-in-Done : goal.returns-in-Done
returns-in-Done c =
    let e = c.restore.ensures in
    let p = restore_done e.result_value c.in-Done.is _ in
    record { value = p.0; image_after = e.image_after; place_after = p.1 }

pub returns-in-Refused : goal.returns-in-Refused
returns-in-Refused c =
    let e = c.restore.ensures in
    let p = restore_refused e.result_value c.in-Refused.is c.alone.ensures _ in
    record { value = p.0; image_after = e.image_after; place_after = p.1 }

pub returns-in-Stopped : goal.returns-in-Stopped
returns-in-Stopped c =
    let e = c.restore.ensures in
    let p = restore_stopped e.result_value c.in-Stopped.is c.alone-in-Stopped.ensures _ c.put_first.ensures in
    record { value = p.0; image_after = e.image_after; place_after = p.1 }
