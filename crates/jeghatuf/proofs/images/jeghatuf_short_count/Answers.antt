-- `jeghatuf::images::jeghatuf_short_count` meets its contract.
use Rattle.jeghatuf.proofs.Packs.{packed-value, packed-refused}
use Rattle.jeghatuf.proofs.images.jeghatuf_short_count.Goals as goal

pub returns-in-Is : goal.returns-in-Is
returns-in-Is c = packed-value c.short_count.ensures c.in-Is.is

pub returns-in-Refused : goal.returns-in-Refused
returns-in-Refused c = packed-refused c.short_count.ensures c.in-Refused.is c.alone.ensures
