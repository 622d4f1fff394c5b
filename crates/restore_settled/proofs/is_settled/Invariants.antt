-- `restore_settled::is_settled` meets its contract. The invariant: the topics so far are settled, and the partitions of those to come are still ahead.
use Prim.Native.Nat.{◌-◌}
use lib.ListN.{length}
use Rattle.restore_settled.proofs.Merges.{Aligned}
use Rattle.restore_settled.proofs.is_settled.Given as goal

abbrev pub invariant-loop-start : goal.invariant-loop-start
invariant-loop-start l = Aligned l.s l.c.at l.from

abbrev pub decreases-loop-start : goal.decreases-loop-start
decreases-loop-start l = length l.s - l.c.at
