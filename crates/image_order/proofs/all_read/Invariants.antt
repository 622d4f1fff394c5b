-- `image_order::all_read` meets its contract. The invariant: whether the bytes from the walk's place on are whole decides for all.
use Prim.Native.Nat.{◌-◌}
use lib.ListN.{length}
use Rattle.image_order.proofs.Whole.{Upto}
use Rattle.image_order.proofs.all_read.Given as goal

abbrev pub invariant-loop-at : goal.invariant-loop-at
invariant-loop-at l = Upto l.s l.at

abbrev pub decreases-loop-at : goal.decreases-loop-at
decreases-loop-at l = length l.s - l.at
