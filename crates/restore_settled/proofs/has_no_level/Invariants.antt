-- `restore_settled::has_no_level` meets its contract. The invariant: the answer for the entries still to come is the answer for all.
use Prim.Native.Nat.{◌-◌}
use lib.ListN.{length}
use Rattle.image_entries.proofs.Walks.{Asked}
use Rattle.restore_settled.specs.Settled.{is_no_level}
use Rattle.restore_settled.proofs.has_no_level.Given as goal

abbrev pub invariant-loop-start : goal.invariant-loop-start
invariant-loop-start l = Asked is_no_level l.s l.c.at

abbrev pub decreases-loop-start : goal.decreases-loop-start
decreases-loop-start l = length l.s - l.c.at
