-- `packing::put_both` meets its contract: the second number stands behind the first.
use Rattle.packing.proofs.Firsts.{set_second, no_second}
use Rattle.packing.proofs.put_both.Goals as goal

pub returns-then-list-gt1 : goal.returns-then-list-gt1
returns-then-list-gt1 c =
    let a = c.args in
    set_second a.first a.second a.list.now c.put_first.ensures c.if-list-gt1.true

pub returns-else-list-gt1 : goal.returns-else-list-gt1
returns-else-list-gt1 c =
    let a = c.args in
    no_second a.first a.second a.list.now c.put_first.ensures c.if-list-gt1.false
