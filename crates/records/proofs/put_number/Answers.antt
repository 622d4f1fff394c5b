-- `records::put_number` meets its contract.
use mathlib.Core.Path.{refl}
use Rattle.records.proofs.Numbers.{number-written}
use Rattle.records.proofs.put_number.Goals as goal

pub returns : goal.returns
returns c =
    (refl, number-written c.args.out.now _ _ _ _ c.requires.1 c.put_head.ensures c.put_head-2.ensures c.put.ensures)
