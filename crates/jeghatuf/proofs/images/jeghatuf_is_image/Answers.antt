-- `jeghatuf::images::jeghatuf_is_image` meets its contract.
use mathlib.Core.Bool.{true, false}
use Rattle.jeghatuf.proofs.Packs.{one-zero}
use Rattle.jeghatuf.proofs.images.jeghatuf_is_image.Goals as goal

pub returns-then-is_image : goal.returns-then-is_image
returns-then-is_image c = one-zero true c.is_image.ensures c.if-is_image.true

pub returns : goal.returns
returns c = one-zero false c.is_image.ensures c.if-is_image.false
