-- `jeghatuf::images::jeghatuf_open` meets its contract.
use Rattle.jeghatuf.proofs.Packs.{packed-number}
use Rattle.jeghatuf.proofs.images.jeghatuf_open.Goals as goal

pub returns : goal.returns
returns c =
    let e = c.«open».ensures in
    record { value = packed-number c.alone.ensures e.result_value; buffer_after = e.b_after }
