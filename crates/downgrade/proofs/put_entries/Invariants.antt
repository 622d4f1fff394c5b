-- `downgrade::put_entries` meets its contract. The invariant: what is written, and the records of the entries to come, are all.
use Prim.Native.Nat.{◌-◌}
use lib.ListN.{length}
use Rattle.find.proofs.Passes.{Wrote}
use Rattle.downgrade.specs.Listed.{listed_bytes}
use Rattle.downgrade.proofs.put_entries.Given as goal

abbrev pub invariant-loop-start : goal.invariant-loop-start
invariant-loop-start l = Wrote (listed_bytes l.level) l.s l.initial.out l.out l.c.at l.n

abbrev pub decreases-loop-start : goal.decreases-loop-start
decreases-loop-start l = length l.s - l.c.at
