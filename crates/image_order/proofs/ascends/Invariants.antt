-- `image_order::ascends` meets its contract. The invariant: whether the entries ascend from the last one passed on decides for all.
use Prim.Native.Nat.{◌-◌}
use lib.ListN.{length}
use Rattle.image_order.proofs.Ascent.{Climb}
use Rattle.image_order.proofs.ascends.Given as goal

abbrev pub invariant-loop-start : goal.invariant-loop-start
invariant-loop-start l = Climb l.s l.prev l.c.at

abbrev pub decreases-loop-start : goal.decreases-loop-start
decreases-loop-start l = length l.s - l.c.at
