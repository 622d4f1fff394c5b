-- `image_id_order::covers` meets its contract. The invariant: each number before the i-th is in the order.
use Prim.Native.Nat.{◌-◌}
use Rattle.image_id_order.specs.Rows.{Covers}
use Rattle.image_id_order.proofs.covers.Given as goal

abbrev pub invariant-loop-i : goal.invariant-loop-i
invariant-loop-i l = Covers l.order l.n l.i

abbrev pub decreases-loop-i : goal.decreases-loop-i
decreases-loop-i l = l.n - l.i
