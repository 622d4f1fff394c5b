-- `image_counts::counts_fit` meets its contract. The invariant: the topics so far fit, and the partitions of those to come are still ahead.
use Prim.Native.Nat.{◌-◌}
use lib.ListN.{length}
use Rattle.image_counts.proofs.Merges.{Merged}
use Rattle.image_counts.proofs.counts_fit.Given as goal

abbrev pub invariant-loop-start : goal.invariant-loop-start
invariant-loop-start l = Merged l.s l.c.at l.from

abbrev pub decreases-loop-start : goal.decreases-loop-start
decreases-loop-start l = length l.s - l.c.at
