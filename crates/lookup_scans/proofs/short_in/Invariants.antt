-- `lookup_scans::short_in` meets its contract. The invariant: what is counted and what the entries to come have is what all have.
use Prim.Native.Nat.{◌-◌}
use lib.ListN.{length}
use Rattle.image_entries.proofs.Counted.{Counted}
use Rattle.lookup_scans.proofs.Counted.{short}
use Rattle.lookup_scans.proofs.short_in.Given as goal

abbrev pub invariant-loop-start : goal.invariant-loop-start
invariant-loop-start l = Counted short l.s l.c.at l.n

abbrev pub decreases-loop-start : goal.decreases-loop-start
decreases-loop-start l = length l.s - l.c.at
