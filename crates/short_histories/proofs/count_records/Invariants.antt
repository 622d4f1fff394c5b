-- `short_histories::count_records` meets its contract. The invariant: the fault of the records from the place on is the fault of all.
use Prim.Native.Nat.{◌-◌}
use lib.ListN.{length}
use Rattle.short_histories.proofs.Counting.{Reached}
use Rattle.short_histories.proofs.count_records.Given as goal

abbrev pub invariant-loop-at : goal.invariant-loop-at
invariant-loop-at l = Reached l.s l.at l.n

abbrev pub decreases-loop-at : goal.decreases-loop-at
decreases-loop-at l = length l.s - l.at
