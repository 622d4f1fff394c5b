-- `image_entries::all_groups` meets its contract. The invariant: the answer for the entries still to come is the answer for all.
use Prim.Native.Nat.{◌-◌}
use lib.ListN.{length}
use Rattle.model.specs.Contents.{is_group}
use Rattle.image_entries.proofs.Walks.{Asked}
use Rattle.image_entries.proofs.all_groups.Given as goal

abbrev pub invariant-loop-start : goal.invariant-loop-start
invariant-loop-start l = Asked is_group l.s l.c.at

abbrev pub decreases-loop-start : goal.decreases-loop-start
decreases-loop-start l = length l.s - l.c.at
