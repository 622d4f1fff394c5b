-- `lookup_scans::find_id` meets its contract. The invariant: what is found of the entries to come is what is found of all.
use Prim.Native.Nat.{◌-◌}
use lib.ListN.{length}
use Rattle.lookup_scans.proofs.Named.{Sought}
use Rattle.lookup_scans.proofs.find_id.Given as goal

abbrev pub invariant-loop-start : goal.invariant-loop-start
invariant-loop-start l = Sought l.s l.id l.c.at

abbrev pub decreases-loop-start : goal.decreases-loop-start
decreases-loop-start l = length l.s - l.c.at
