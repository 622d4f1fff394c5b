-- `records::put_field` meets its contract: a head, then the value after it.
use Rattle.records.proofs.Written.{field-written}
use Rattle.records.proofs.put_field.Goals as goal

pub returns : goal.returns
returns c =
    let a = c.args in field-written a.out.now a.at a.tag a.v.now c.requires c.put_head.ensures c.copy.ensures
