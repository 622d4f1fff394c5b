-- `image_ids::none_names` meets its contract. The invariant: the entries to come decide for all.
use Prim.Native.Nat.{◌-◌}
use lib.ListN.{length}
use Rattle.image_ids.proofs.Scans.{Scanned}
use Rattle.image_ids.proofs.none_names.Given as goal

abbrev pub invariant-loop-start : goal.invariant-loop-start
invariant-loop-start l = Scanned l.s l.id l.c.at

abbrev pub decreases-loop-start : goal.decreases-loop-start
decreases-loop-start l = length l.s - l.c.at
