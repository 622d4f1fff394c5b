-- `image_id_order::ascends_to` meets its contract. The invariant: the rows before the j-th ascend.
use Prim.Native.Nat.{◌-◌, ◌<◌}
use Rattle.image_id_order.specs.Rows.{Ascends}
use Rattle.image_id_order.proofs.ascends_to.Given as goal

abbrev pub invariant-loop-j : goal.invariant-loop-j
invariant-loop-j l = (0 < l.j) × Ascends l.high l.low l.order l.j

abbrev pub decreases-loop-j : goal.decreases-loop-j
decreases-loop-j l = l.n - l.j
