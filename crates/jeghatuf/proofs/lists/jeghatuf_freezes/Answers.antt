-- `jeghatuf::lists::jeghatuf_freezes` meets its contract: the bytes written, and what is read beside them, or a number.
use Rattle.jeghatuf.proofs.Packs.{list_written, list_refused}
use Rattle.jeghatuf.proofs.lists.jeghatuf_freezes.Goals as goal

pub returns-in-Written : goal.returns-in-Written
returns-in-Written c =
    let e = c.freeze_list.ensures in
    let p = list_written e.result_value c.in-Written.is _ c.put_first.ensures in
    record { value = p.0; out_after = e.out_after; read_after = p.1 }

pub returns-in-Refused : goal.returns-in-Refused
returns-in-Refused c =
    let e = c.freeze_list.ensures in
    let p = list_refused e.result_value c.in-Refused.is c.alone.ensures _ in
    record { value = p.0; out_after = e.out_after; read_after = p.1 }
