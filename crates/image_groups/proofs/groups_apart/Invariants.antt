-- `image_groups::groups_apart` meets its contract. The invariant: what is left of the entries and of the groups says what all of both do.
use Prim.Native.Nat.{◌-◌}
use lib.ListN.{length}
use Rattle.image_groups.proofs.Merge.{Merge}
use Rattle.image_groups.proofs.groups_apart.Given as goal

abbrev pub invariant-loop-start : goal.invariant-loop-start
invariant-loop-start l = Merge l.s l.t l.from l.c.at

abbrev pub decreases-loop-start : goal.decreases-loop-start
decreases-loop-start l = length l.t - l.c.at
