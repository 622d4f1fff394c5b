-- `keys::compare_partitions` meets its contract: places are in the order of the numbers.
use native.Mathlib.Omega.{arith}
use Rattle.keys.proofs.Orders.{single_less, single_greater, single_equal}
use Rattle.keys.proofs.compare_partitions.Goals as goal

pub returns-then-x-y : goal.returns-then-x-y
returns-then-x-y c = single_less _ _ _ _ c.partition_place-x.ensures c.partition_place-y.ensures c.if-x-y.true

pub returns-then-y-x : goal.returns-then-y-x
returns-then-y-x c = single_greater _ _ _ _ c.partition_place-x.ensures c.partition_place-y.ensures c.if-y-x.true

pub returns : goal.returns
returns c = single_equal _ _ _ _ c.partition_place-x.ensures c.partition_place-y.ensures (omega arith)
