-- `snapshot::returned_length` meets its contract: the records of the entries that are passed are counted.
use Prim.Native.Nat.{◌-◌}
use lib.ListN.{length}
use Rattle.snapshot.proofs.Passes.{Counted}
use Rattle.snapshot.proofs.returned_length.Given as goal

abbrev pub invariant-loop-start : goal.invariant-loop-start
invariant-loop-start l = Counted l.s l.c.at l.n

abbrev pub decreases-loop-start : goal.decreases-loop-start
decreases-loop-start l = length l.s - l.c.at
