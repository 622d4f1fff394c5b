-- `jeghatuf::tags::jeghatuf_field` meets its contract.
use lib.ListN.{drop}
use Rattle.model.specs.Run.{run_of}
use Rattle.jeghatuf.proofs.Founds.{found, missing}
use Rattle.jeghatuf.proofs.tags.jeghatuf_field.Goals as goal

pub returns-in-Part : goal.returns-in-Part
returns-in-Part c =
    let s = c.args in
    let the_whole = found s.at (run_of (drop s.at s.bytes.now)) c.find.ensures c.size.ensures.0 c.in-Part.is _ c.put_both.ensures in record { value = the_whole.0; place_after = the_whole.1 }

pub returns-in-Missing : goal.returns-in-Missing
returns-in-Missing c =
    let s = c.args in
    let the_whole = missing s.at (run_of (drop s.at s.bytes.now)) c.find.ensures c.size.ensures.0 c.in-Missing.is _ in record { value = the_whole.0; place_after = the_whole.1 }
