-- `jeghatuf::images::jeghatuf_validate` meets its contract.
use Rattle.jeghatuf.proofs.Packs.{packed-number}
use Rattle.jeghatuf.proofs.images.jeghatuf_validate.Goals as goal

pub returns : goal.returns
returns c = packed-number c.alone.ensures c.validate.ensures
