-- `jeghatuf::images::jeghatuf_apply` meets its contract.
use Rattle.jeghatuf.proofs.Packs.{packed-number}
use Rattle.jeghatuf.proofs.images.jeghatuf_apply.Goals as goal

pub returns : goal.returns
returns c =
    let e = c.apply.ensures in
    record { value = packed-number c.alone.ensures e.result_value; image_after = e.image_after }
