-- `image_entries::all_stored` meets its contract. The invariant: the answer for the entries still to come is the answer for all.
use Prim.Native.Nat.{◌-◌}
use lib.ListN.{length}
use Rattle.image_entries.specs.Stored.{is_stored}
use Rattle.image_entries.proofs.Walks.{Asked}
use Rattle.image_entries.proofs.all_stored.Given as goal

abbrev pub invariant-loop-start : goal.invariant-loop-start
invariant-loop-start l = Asked is_stored l.s l.c.at

abbrev pub decreases-loop-start : goal.decreases-loop-start
decreases-loop-start l = length l.s - l.c.at
