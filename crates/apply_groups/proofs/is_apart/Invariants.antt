-- `apply_groups::is_apart` meets its contract. The invariant: the answer for the entries still to come is the answer for all.
use Prim.Native.Nat.{◌-◌}
use lib.ListN.{length}
use Rattle.entries.specs.Entries.{record_in}
use Rattle.image_entries.proofs.Walks.{Asked}
use Rattle.apply_groups.proofs.Others.{is_other}
use Rattle.apply_groups.proofs.is_apart.Given as goal

abbrev pub invariant-loop-start : goal.invariant-loop-start
invariant-loop-start l = Asked (is_other (record_in l.g)) l.s l.c.at

abbrev pub decreases-loop-start : goal.decreases-loop-start
decreases-loop-start l = length l.s - l.c.at
