-- `jeghatuf::images::jeghatuf_features_epoch` meets its contract.
use Rattle.jeghatuf.proofs.Packs.{wide_value, wide_refused}
use Rattle.jeghatuf.proofs.images.jeghatuf_features_epoch.Goals as goal

pub returns-in-Is : goal.returns-in-Is
returns-in-Is c =
    let the_whole = wide_value c.features_epoch.ensures c.in-Is.is _ c.put_first.ensures in record { value = the_whole.0; value_after = the_whole.1 }

pub returns-in-Refused : goal.returns-in-Refused
returns-in-Refused c =
    let the_whole = wide_refused c.features_epoch.ensures c.in-Refused.is c.alone.ensures _ in record { value = the_whole.0; value_after = the_whole.1 }
