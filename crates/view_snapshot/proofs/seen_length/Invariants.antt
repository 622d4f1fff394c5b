-- `view_snapshot::seen_length` meets its contract. The invariant: what is counted, and the length of the records of the entries to come, are the
-- length of all.
use Prim.Native.Nat.{◌-◌}
use lib.ListN.{length}
use Rattle.model.specs.View.{prefixes_in}
use Rattle.find.proofs.Passes.{Counted}
use Rattle.view_snapshot.specs.Seen.{seen_bytes}
use Rattle.view_snapshot.proofs.seen_length.Given as goal

abbrev pub invariant-loop-start : goal.invariant-loop-start
invariant-loop-start l = Counted (seen_bytes (prefixes_in l.list)) l.s l.c.at l.n

abbrev pub decreases-loop-start : goal.decreases-loop-start
decreases-loop-start l = length l.s - l.c.at
