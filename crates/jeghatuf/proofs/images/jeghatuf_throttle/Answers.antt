-- `jeghatuf::images::jeghatuf_throttle` meets its contract.
use Rattle.jeghatuf.proofs.Packs.{rate_value, rate_none, rate_refused}
use Rattle.jeghatuf.proofs.images.jeghatuf_throttle.Goals as goal

pub returns-in-Rate : goal.returns-in-Rate
returns-in-Rate c =
    let the_whole = rate_value c.throttle.ensures c.in-Rate.is _ c.put_first.ensures in record { value = the_whole.0; value_after = the_whole.1 }

pub returns-in-None : goal.returns-in-None
returns-in-None c =
    let the_whole = rate_none c.throttle.ensures c.in-None.is _ in record { value = the_whole.0; value_after = the_whole.1 }

pub returns-in-Refused : goal.returns-in-Refused
returns-in-Refused c =
    let the_whole = rate_refused c.throttle.ensures c.in-Refused.is c.alone.ensures _ in record { value = the_whole.0; value_after = the_whole.1 }
