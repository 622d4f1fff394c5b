-- `jeghatuf::conversions::jeghatuf_without_offset` meets its contract: a number for each end, and what comes with it.
use Rattle.jeghatuf.proofs.Packs.{separate_written, separate_refused, separate_stopped}
use Rattle.jeghatuf.proofs.conversions.jeghatuf_without_offset.Goals as goal

pub returns-in-Written : goal.returns-in-Written
returns-in-Written c =
    let e = c.without_offset.ensures in
    let p = separate_written e.result_value c.in-Written.is _ c.put_both.ensures in
    record { value = p.0; out_after = e.out_after; values_after = p.1 }

pub returns-in-Refused : goal.returns-in-Refused
returns-in-Refused c =
    let e = c.without_offset.ensures in
    let p = separate_refused e.result_value c.in-Refused.is c.alone.ensures _ in
    record { value = p.0; out_after = e.out_after; values_after = p.1 }

pub returns-in-Stopped : goal.returns-in-Stopped
returns-in-Stopped c =
    let e = c.without_offset.ensures in
    let p = separate_stopped e.result_value c.in-Stopped.is c.alone-in-Stopped.ensures _ c.put_first.ensures in
    record { value = p.0; out_after = e.out_after; values_after = p.1 }
