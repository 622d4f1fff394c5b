-- `partitions::partitions_of` meets its contract. The invariant: what is counted and what the entries to come have is what all have.
use Prim.Native.Nat.{◌-◌}
use lib.ListN.{length}
use Rattle.model.specs.Run.{value}
use Rattle.keys.specs.Keys.{run_in}
use Rattle.image_entries.proofs.Counted.{Counted}
use Rattle.judge.proofs.Counted.{of_name}
use Rattle.judge.proofs.partitions.partitions_of.Given as goal

abbrev pub invariant-loop-start : goal.invariant-loop-start
invariant-loop-start l = Counted (of_name (value 1 (run_in l.rec))) l.s l.c.at l.n

abbrev pub decreases-loop-start : goal.decreases-loop-start
decreases-loop-start l = length l.s - l.c.at
