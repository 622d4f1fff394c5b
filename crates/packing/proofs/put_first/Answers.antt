-- `packing::put_first` meets its contract.
use Rattle.packing.proofs.Firsts.{set_first, no_first}
use Rattle.packing.proofs.put_first.Goals as goal

pub returns-then-list-gt0 : goal.returns-then-list-gt0
returns-then-list-gt0 c = set_first c.args.n c.args.list.now c.if-list-gt0.true

pub returns-else-list-gt0 : goal.returns-else-list-gt0
returns-else-list-gt0 c = no_first _ _ c.if-list-gt0.false
