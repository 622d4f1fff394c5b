-- `members::leading_end` meets its contract. The invariant: the fields that were passed and the leading ones of the rest are the leading ones of all.
use Prim.Native.Nat.{◌-◌}
use Rattle.image_groups.proofs.Leading.{Ahead}
use Rattle.image_groups.proofs.members.leading_end.Given as goal

abbrev pub invariant-loop-tag : goal.invariant-loop-tag
invariant-loop-tag l = Ahead l.s l.c

abbrev pub decreases-loop-tag : goal.decreases-loop-tag
decreases-loop-tag l = l.c.to - l.c.at
