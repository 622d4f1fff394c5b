-- `snapshot::put_entries` meets its contract: the output has the records of the entries that are passed.
use Prim.Native.Nat.{◌-◌}
use lib.ListN.{length}
use Rattle.snapshot.proofs.Passes.{Wrote}
use Rattle.snapshot.proofs.put_entries.Given as goal

abbrev pub invariant-loop-start : goal.invariant-loop-start
invariant-loop-start l = Wrote l.s l.initial.out l.out l.c.at l.total

abbrev pub decreases-loop-start : goal.decreases-loop-start
decreases-loop-start l = length l.s - l.c.at
