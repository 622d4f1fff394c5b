-- `view_snapshot::put_entries` meets its contract. The invariant: what is written, and the records of the entries to come, are all.
use Prim.Native.Nat.{◌-◌}
use lib.ListN.{length}
use Rattle.model.specs.View.{prefixes_in}
use Rattle.find.proofs.Passes.{Wrote}
use Rattle.view_snapshot.specs.Seen.{seen_bytes}
use Rattle.view_snapshot.proofs.put_entries.Given as goal

abbrev pub invariant-loop-start : goal.invariant-loop-start
invariant-loop-start l = Wrote (seen_bytes (prefixes_in l.list)) l.s l.initial.out l.out l.c.at l.total

abbrev pub decreases-loop-start : goal.decreases-loop-start
decreases-loop-start l = length l.s - l.c.at
