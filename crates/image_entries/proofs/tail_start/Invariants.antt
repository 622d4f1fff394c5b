-- `image_entries::tail_start` meets its contract. The invariant: the entries passed are real ones, and the rest has the others.
use Prim.Native.Nat.{◌-◌}
use lib.ListN.{length}
use Rattle.image_entries.proofs.Tails.{Cut}
use Rattle.image_entries.proofs.tail_start.Given as goal

abbrev pub invariant-loop-start : goal.invariant-loop-start
invariant-loop-start l = Cut l.s l.c.at

abbrev pub decreases-loop-start : goal.decreases-loop-start
decreases-loop-start l = length l.s - l.c.at
