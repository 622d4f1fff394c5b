-- `flat_faults::is_flat` meets its contract. The invariant of the loop: what is wrong with the fields still to come is what is wrong with all.
use Prim.Native.Nat.{◌-◌, ◌≤◌, ◌<◌}
use lib.ListN.{length}
use Rattle.fields.specs.Fields.{fields_from}
use Rattle.flat_faults.proofs.Flat.{Reached}
use Rattle.flat_faults.proofs.is_flat.Given as goal

abbrev pub invariant-loop-tag : goal.invariant-loop-tag
invariant-loop-tag l = (l.c.at ≤ l.c.to) × (l.c.to ≤ length l.s) × (l.last < 256) × Reached l.base (fields_from l.s l.initial.c) (fields_from l.s l.c) l.last

abbrev pub decreases-loop-tag : goal.decreases-loop-tag
decreases-loop-tag l = l.c.to - l.c.at
