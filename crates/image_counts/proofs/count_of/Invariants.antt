-- `image_counts::count_of` meets its contract. The invariant: what has been counted and what the rest has is what all have.
use Prim.Native.Nat.{◌-◌}
use lib.ListN.{length}
use Rattle.image_counts.proofs.Tallies.{Passed}
use Rattle.image_counts.proofs.count_of.Given as goal

abbrev pub invariant-loop-start : goal.invariant-loop-start
invariant-loop-start l = Passed l.s l.name l.c.at l.count

abbrev pub decreases-loop-start : goal.decreases-loop-start
decreases-loop-start l = length l.s - l.c.at
